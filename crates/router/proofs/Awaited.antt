-- Whom a router waits for, found one after another, and one less.
use denote.Param.Members.{Mut}
use Rattle.std.specs.Array.{IsFromFnResult}
use Rattle.std.specs.Fn.{Called}
use Rattle.std.proofs.Common.{◌≡◌, ℕ, ◌+◌, ◌<◌, ◌≤◌, Bool, true, false, not, ◌&&◌, ◌||◌, eqb, ltb, ◌⊎◌, List, length, set, Some, sym, ap, ◌∙◌, inl, inr, arith}
use Rattle.std.proofs.lemmas.List.{get_or_past, get_or-set_same, get_or-set_other}
use Rattle.std.proofs.Math.Bool.{and-true}
use Rattle.std.proofs.lemmas.Bool.{eq-eqb, ne_eqb, lt-ltb, le-ltb, cases_eq, cases_lt, and_left, and_right, and_from}
use Rattle.protocol.specs.Hearing.{awaited, came_early, waits_for}
use Rattle.protocol.specs.Router.{Router}
use Rattle.router.specs.Hearing.{IsSetOf}
use Rattle.router.specs.Transition.{in_set_of}
use Rattle.routes.proofs.Steps.{hop_outside}
use Rattle.theory.specs.Network.{LinkId, Lawful}
use Rattle.theory.specs.NextHop.{same, uses}
use Rattle.theory.specs.Repair.{sends}
use Rattle.types.proofs.Arrays.{from_fn_each}
use Rattle.types.proofs.NodeBits.{empty_has}
use Rattle.types.specs.NodeSets.{has}
use Rattle.types.specs.declared.node_set.NodeSet.{NodeSet}

-- f is p, but only for the first k
abbrev Upto : ℕ → (ℕ → Bool) → (ℕ → Bool) → Type 0
Upto k p f = (v : ℕ) → f v ≡ (ltb v k && p v)

ltb_more : (v k : ℕ) → (v ≡ k → ⊥) → ltb v k ≡ ltb v (k + 1)
ltb_more v k h = elim (cases_lt v k) [
  | inl l ↦ lt-ltb v k l ∙ sym (lt-ltb v (k + 1) (omega arith))
  | inr l ↦ le-ltb v k l ∙ sym (le-ltb v (k + 1) (omega arith))
]

last_in : (k : ℕ) (p : ℕ → Bool) (v : ℕ) → v ≡ k → p k ≡ (ltb v (k + 1) && p v)
last_in k p v e = ap p (sym e) ∙ ap (λ x. x && p v) (sym (lt-ltb v (k + 1) (omega arith)))

-- one more
pub upto_with : (k : ℕ) (p f g : ℕ → Bool) → k < 64 → Upto k p f → true ≡ p k → ((v : ℕ) → g v ≡ ((eqb v k && ltb v 64) || f v)) → Upto (k + 1) p g
upto_with k p f g few h i j v = elim (cases_eq v k) [
  | inl e ↦ j v ∙ (ap (λ x. x || f v) (and_from (eqb v k) (ltb v 64) (eq-eqb v k e) (lt-ltb v 64 (omega arith))) ∙ (i ∙ last_in k p v e))
  | inr e ↦ j v ∙ (ap (λ x. (x && ltb v 64) || f v) (ne_eqb v k e) ∙ (h v ∙ ap (λ x. x && p v) (ltb_more v k e)))
]

-- or not
pub upto_without : (k : ℕ) (p f : ℕ → Bool) → Upto k p f → false ≡ p k → Upto (k + 1) p f
upto_without k p f h i v = elim (cases_eq v k) [
  | inl e ↦ h v ∙ (and_left (ltb v k) (p v) (le-ltb v k (omega arith)) ∙ (i ∙ last_in k p v e))
  | inr e ↦ h v ∙ ap (λ x. x && p v) (ltb_more v k e)
]

pub upto_all : (n k : ℕ) (p f : ℕ → Bool) → n ≤ k → ((v : ℕ) → n ≤ v → p v ≡ false) → Upto k p f → (v : ℕ) → f v ≡ p v
upto_all n k p f l none h v = elim (cases_lt v n) [
  | inl m ↦ h v ∙ ap (λ x. x && p v) (lt-ltb v k (omega arith))
  | inr m ↦ h v ∙ (and_right (ltb v k) (p v) (none v m) ∙ sym (none v m))
]

-- by destination, what a closure that changes nothing gives
pub from_fn_waited : {F : Type 0} (g : Mut F (ℕ × Unit {0}) NodeSet) (p : ℕ → ℕ → Bool) (n : ℕ) (f : F) (l : List NodeSet) → ((d : ℕ) (y : NodeSet) (q : F) → Called g f (d, tt) y q → (q ≡ f) × IsSetOf (p d) y) →
    IsFromFnResult g f l 64 → n ≤ 64 → ((d u : ℕ) → n ≤ d → p d u ≡ false) → (d u : ℕ) → in_set_of l d u ≡ p d u
from_fn_waited g p n f l h r few none d u = elim (cases_lt d 64) [
  | inl i ↦ (from_fn_each g (λ d y. IsSetOf (p d) y) f l 0 64 h r.each d _ (omega arith) (omega arith)).each u
  | inr i ↦ ap (λ s. has s u) (get_or_past l d _ (omega (arith, r.long))) ∙ (empty_has u ∙ sym (none d u (omega arith)))
]

-- the set of d has u no more
pub one_less : (l : List NodeSet) (d u : ℕ) (s : NodeSet) → d < length l → ((v : ℕ) → has s v ≡ (in_set_of l d v && not (eqb v u))) → (e v : ℕ) → in_set_of (set l d s) e v ≡ (in_set_of l e v && not (eqb e d && eqb v u))
one_less l d u s b h e v = elim (cases_eq e d) [
  | inl i ↦
      ap (λ x. in_set_of (set l d s) x v) i ∙ (ap (λ x. has x v) (get_or-set_same l d s _ b) ∙ h v) ∙
      sym (ap (λ x. in_set_of l x v && not (eqb e d && eqb v u)) i ∙ ap (λ b. in_set_of l d v && not (b && eqb v u)) (eq-eqb e d i))
  | inr i ↦ ap (λ x. has x v) (get_or-set_other l d e s _ i) ∙ sym (ap (λ b. in_set_of l e v && not (b && eqb v u)) (ne_eqb e d i) ∙ and-true (in_set_of l e v))
]

-- nobody outside the network is waited for
pub awaited_outside : (s : Router) → Lawful s.links → (l : LinkId) (d u : ℕ) → (s.links.n ≤ d) ⊎ (s.links.n ≤ u) → awaited s l d u ≡ false
awaited_outside s g l d u h =
    let z = s.links in
    let none : sends z u s.me d ≡ false = ap (λ x. same x (Some s.me)) (sym (hop_outside z g d u (λ k. elim h [ inl i ↦ omega (arith, k.0) | inr i ↦ omega (arith, k.1) ]))) in
    and_left (waits_for z l d s.me u) (not (came_early l d u s.early))
    (and_right (uses z l d s.me) (sends z u s.me d && uses z l d u) (and_left (sends z u s.me d) (uses z l d u) none))
