use Rattle.std.proofs.Common.{zero, suc, Result, Ok, Err, IfOk, ◌≡◌, ◌<◌, ℕ, List, [], ◌∷◌, false, inl, inr, arith, slice_index, sym, ◌∙◌, ap, refl}
use Rattle.std.specs.List.{All}
use Rattle.std.proofs.lemmas.Slice.Eq.{bytes_eq-Decides}
use Rattle.clap.specs.Words.{AddsArg, IsPlainArg}
use Rattle.clap.specs.Built.{FitsChain, HasDistinctIds, IsAuto, TakesValue}
use Rattle.clap.specs.declared.builder.arg.Arg.{Arg}
use Rattle.clap.specs.declared.builder.command.Command.{Command}
use Rattle.clap.proofs.CallerLemmas.{one_required_value, required_in_chain}
use Rattle.cli.specs.CommandLine.{IsBare, Requires}

-- a name that begins with a capital is that of no argument that clap adds
not_auto : (a : Arg) → slice_index a.id.now 0 < 97 → IsAuto a → ⊥
not_auto a small (inl e) = let bad : slice_index a.id.now 0 ≡ 104 = ap (λ t. slice_index t 0) e in absurd (omega arith)
not_auto a small (inr e) = let bad : slice_index a.id.now 0 ≡ 118 = ap (λ t. slice_index t 0) e in absurd (omega arith)

not_empty : (name : List ℕ) → 0 < slice_index name 0 → name ≡ [] → ⊥
not_empty name first e = let bad : slice_index name 0 ≡ 0 = ap (λ t. slice_index t 0) e in absurd (omega arith)

requires_alone : (start cmd : Command) (a : Arg) (name : List ℕ) → AddsArg start a cmd → IsBare start
    → IsPlainArg a → a.global ≡ false → TakesValue a → a.id.now ≡ name
    → 0 < slice_index name 0 → slice_index name 0 < 97 → Requires cmd name
requires_alone start cmd a name added bare plain global value id first small m p =
    let first-a : 0 < slice_index a.id.now 0 = rw id first in
    let small-a : slice_index a.id.now 0 < 97 = rw id small in
    rw (← id) (one_required_value start cmd a m added bare.arguments bare.groups bare.local bare.strict plain global
    value.0 value.1 value.2 value.3 (not_empty a.id.now first-a) (not_auto a small-a) p)

-- a command to which one argument is added, which is required
pub requires_one : {E : Type 0} (start : Command) (r : Result Command E) (a : Arg) (name : List ℕ) → IfOk r (λ c. AddsArg start a c)
    → IsBare start → IsPlainArg a → a.global ≡ false → TakesValue a → a.id.now ≡ name
    → 0 < slice_index name 0 → slice_index name 0 < 97 → IfOk r (λ c. Requires c name)
requires_one start (Ok cmd) a name added bare plain global value id first small =
    requires_alone start cmd a name added bare plain global value id first small
requires_one start (Err e) a name added bare plain global value id first small = tt

all_two : (P : Arg → Type 0) (a b : Arg) → P a → P b → All P (a ∷ b ∷ [])
all_two P a b p q zero d lt = p
all_two P a b p q (suc zero) d lt = q
all_two P a b p q (suc (suc k)) d lt = absurd (omega arith)

-- two arguments whose names begin with different letters
distinct_two : (a b : Arg) → (slice_index a.id.now 0 ≡ slice_index b.id.now 0 → ⊥) → HasDistinctIds (a ∷ b ∷ [])
distinct_two a b apart zero zero d e low less same = refl
distinct_two a b apart zero (suc zero) d e low less same =
    absurd (apart (ap (λ t. slice_index t 0) ((bytes_eq-Decides a.id.now b.id.now).0 same)))
distinct_two a b apart (suc zero) zero d e low less same =
    absurd (apart (ap (λ t. slice_index t 0) (sym ((bytes_eq-Decides b.id.now a.id.now).0 same))))
distinct_two a b apart (suc zero) (suc zero) d e low less same = refl
distinct_two a b apart (suc (suc j)) k d e low less same = absurd (omega arith)
distinct_two a b apart j (suc (suc k)) d e low less same = absurd (omega arith)

-- what a command asks of an argument whose name begins with a capital
fits : (a : Arg) → IsPlainArg a → a.global ≡ false → 0 < slice_index a.id.now 0 → slice_index a.id.now 0 < 97 → FitsChain a
fits a plain global first small = (plain, global, not_empty a.id.now first, not_auto a small)

requires_beside : (start mid cmd : Command) (a b : Arg) (name : List ℕ) → AddsArg start a mid → AddsArg mid b cmd
    → IsBare start → IsPlainArg a → a.global ≡ false → TakesValue a → a.id.now ≡ name
    → 0 < slice_index name 0 → slice_index name 0 < 97
    → IsPlainArg b → b.global ≡ false → 0 < slice_index b.id.now 0 → slice_index b.id.now 0 < 97
    → (slice_index name 0 ≡ slice_index b.id.now 0 → ⊥) → Requires cmd name
requires_beside start mid cmd a b name added more bare plain global value id first small plain-b global-b first-b small-b apart m p =
    let first-a : 0 < slice_index a.id.now 0 = rw id first in
    let small-a : slice_index a.id.now 0 < 97 = rw id small in
    let all = all_two FitsChain a b (fits a plain global first-a small-a) (fits b plain-b global-b first-b small-b) in
    let distinct = distinct_two a b (λ e. apart (ap (λ t. slice_index t 0) (sym id) ∙ e)) in
    rw (← id) (required_in_chain start cmd (a ∷ b ∷ []) 0 a m (mid, added, (cmd, more, refl)) bare.arguments bare.groups bare.local bare.strict
    all distinct (omega arith) value p)

-- a command to which a required argument is added, and then another
pub requires_first : {E : Type 0} (start mid : Command) (r : Result Command E) (a b : Arg) (name : List ℕ) → AddsArg start a mid
    → IfOk r (λ c. AddsArg mid b c) → IsBare start → IsPlainArg a → a.global ≡ false → TakesValue a → a.id.now ≡ name
    → 0 < slice_index name 0 → slice_index name 0 < 97
    → IsPlainArg b → b.global ≡ false → 0 < slice_index b.id.now 0 → slice_index b.id.now 0 < 97
    → (slice_index name 0 ≡ slice_index b.id.now 0 → ⊥) → IfOk r (λ c. Requires c name)
requires_first start mid (Ok cmd) a b name added more bare plain global value id first small plain-b global-b first-b small-b apart =
    requires_beside start mid cmd a b name added more bare plain global value id first small plain-b global-b first-b small-b apart
requires_first start mid (Err e) a b name added more bare plain global value id first small plain-b global-b first-b small-b apart = tt
