-- What is kept in the order in which it came, and looked through for one that passes a test.
use Rattle.std.proofs.Common.{◌≡◌, ℕ, Bool, ◌||◌, ◌&&◌, eqb, List, [], ◌∷◌, ◌++◌, reverse, sym, refl, ap, ◌∙◌}
use Rattle.std.proofs.Math.Bool.{or-false, or_assoc, or_comm}
use Rattle.std.proofs.lemmas.List.{reverse-append}
use Rattle.std.specs.List.{list_any}
use Rattle.protocol.specs.Hearing.{came_early}
use Rattle.protocol.specs.Router.{same_link, among}
use Rattle.theory.specs.Network.{LinkId}
use Rattle.types.specs.declared.message.Switched.{Switched}

-- the last one comes first
pub reverse-push : {A : Type 0} (old new : List A) (x : A) → new ≡ old ++ x ∷ [] → reverse new ≡ x ∷ reverse old
reverse-push old new x e = ap reverse e ∙ reverse-append old (x ∷ [])

list_any-append : {A : Type 0} (p : A → Bool) (xs ys : List A) → list_any p (xs ++ ys) ≡ (list_any p xs || list_any p ys)
list_any-append p [] ys = refl
list_any-append p (x ∷ xs) ys = ap (λ b. p x || b) (list_any-append p xs ys) ∙ sym (or_assoc (p x) (list_any p xs) (list_any p ys))

-- the order does not matter
list_any-reverse : {A : Type 0} (p : A → Bool) (xs : List A) → list_any p (reverse xs) ≡ list_any p xs
list_any-reverse p [] = refl
list_any-reverse p (x ∷ xs) =
    ap (list_any p) (reverse-append (x ∷ []) xs) ∙ (list_any-append p (reverse xs) (x ∷ []) ∙
    (ap (λ b. b || (p x || list_any p [])) (list_any-reverse p xs) ∙ (ap (λ b. list_any p xs || b) (or-false (p x)) ∙ or_comm (list_any p xs) (p x))))

among_any : (l : LinkId) (ms : List LinkId) → list_any (λ m. same_link m l) ms ≡ among l ms
unfolding among
among_any l [] = refl
among_any l (m ∷ ms) = ap (λ b. same_link m l || b) (among_any l ms)

pub among_kept : (l : LinkId) (ms : List LinkId) → list_any (λ m. same_link m l) ms ≡ among l (reverse ms)
among_kept l ms = sym (list_any-reverse (λ m. same_link m l) ms) ∙ among_any l (reverse ms)

-- of this link, for d and from u
abbrev pub said_early : LinkId → ℕ → ℕ → Switched → Bool
said_early l d u e = same_link l e.link && (eqb d e.destination && eqb u e.from)

early_any : (l : LinkId) (d u : ℕ) (es : List Switched) → list_any (said_early l d u) es ≡ came_early l d u es
unfolding came_early
early_any l d u [] = refl
early_any l d u (e ∷ es) = ap (λ b. said_early l d u e || b) (early_any l d u es)

pub early_kept : (l : LinkId) (d u : ℕ) (es : List Switched) → list_any (said_early l d u) es ≡ came_early l d u (reverse es)
early_kept l d u es = sym (list_any-reverse (said_early l d u) es) ∙ early_any l d u (reverse es)
