-- A set from which nodes are taken, the lowest first, ends.
use lib.Count.{ones_step}
use Rattle.std.proofs.Common.{◌≡◌, ℕ, zero, suc, ◌/◌, ◌<◌, ◌≤◌, Bool, true, not, ◌&&◌, eqb, Some, None, Option, count_ones, sym, refl, arith, rules}
use Rattle.std.specs.Bool.{⊤}
use Rattle.std.specs.Int.{bit_at}
use Rattle.std.specs.Iterator.{at_most, MakesProgress}
use Rattle.std.proofs.lemmas.Nat.{ones-le}
use Rattle.std.proofs.lemmas.Nat.Bits.{bit_at-lt, bit_at_lowest, bit_at-suc}
use Rattle.std.proofs.lemmas.Bool.{eq-eqb, eqb-true, and_parts}
use Rattle.types.specs.NodeSets.{TakenFirst}
use Rattle.types.specs.declared.node_set.NodeSet.{NodeSet}

-- each bit of m is one of n
abbrev Within : ℕ → ℕ → Type 0
Within m n = (v : ℕ) → bit_at m v ≤ bit_at n v

halves : (m n : ℕ) → Within m n → Within (m / 2) (n / 2)
halves m n h v = omega (arith, h (suc v), bit_at-suc m v, bit_at-suc n v)

no_more : (d m n : ℕ) → m ≤ d → Within m n → count_ones m ≤ count_ones n
no_more zero m n l h = omega (arith, ones-le 0 m (omega arith))
no_more (suc d) m n l h =
    let rest = no_more d (m / 2) (n / 2) (omega arith) (halves m n h) in
    omega (arith, ones_step m, ones_step n, h 0, bit_at_lowest m, bit_at_lowest n)

-- where one bit more is set, there are more
fewer : (u m n : ℕ) → Within m n → bit_at m u < bit_at n u → count_ones m < count_ones n
fewer zero m n h l =
    let rest = no_more m (m / 2) (n / 2) (omega arith) (halves m n h) in
    omega (arith, ones_step m, ones_step n, bit_at_lowest m, bit_at_lowest n)
fewer (suc u) m n h l =
    let rest = fewer u (m / 2) (n / 2) (halves m n h) (omega (arith, bit_at-suc m u, bit_at-suc n u)) in
    omega (arith, ones_step m, ones_step n, h 0, bit_at_lowest m, bit_at_lowest n)

-- a bit that is kept, and one that is not
kept : (x y : ℕ) (b : Bool) → x < 2 → eqb x 1 ≡ (eqb y 1 && b) → x ≤ y
kept zero y b l e = omega arith
kept (suc zero) y b l e = omega (arith, eqb-true y 1 (and_parts (eqb y 1) b (sym e)).0)
kept (suc (suc x)) y b l e = absurd (omega arith)

gone : (x y : ℕ) (b : Bool) → x < 2 → eqb y 1 ≡ true → eqb x 1 ≡ (eqb y 1 && not b) → b ≡ true → x < y
gone zero y b l h e t = omega (arith, eqb-true y 1 h)
gone (suc zero) y b l h e t = absurd (search rules)
gone (suc (suc x)) y b l h e t = absurd (omega arith)

-- once the lowest node is taken out, fewer are left
pub taken_fewer : (old new : NodeSet) (r : Option ℕ) → TakenFirst old new r →
    MakesProgress (λ _. ⊤) (λ (s : NodeSet). at_most (count_ones s.0)) old r new
taken_fewer old new None h = record { on = search rules; keeps = search rules; rests = search rules }
taken_fewer old new (Some u) h =
    let within : Within new.0 old.0 =
    λ v. kept (bit_at new.0 v) (bit_at old.0 v) (not (eqb v u)) (bit_at-lt new.0 v) (h.1 v) in
    let less : bit_at new.0 u < bit_at old.0 u =
    gone (bit_at new.0 u) (bit_at old.0 u) (eqb u u) (bit_at-lt new.0 u) h.0.in_set (h.1 u) (eq-eqb u u refl) in
    record { on = λ _. (tt, tt, fewer u new.0 old.0 within less); keeps = search rules; rests = search rules }
