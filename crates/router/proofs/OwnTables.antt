-- The router's own tables, filled one after another.
use denote.Param.Members.{Mut}
use Rattle.std.proofs.Common.{◌≡◌, ℕ, ◌+◌, ◌*◌, ◌≤◌, true, false, eqb, is_some, Some, List, None, Option, sym, ◌∙◌, refl, ap, inl, inr, arith}
use Rattle.std.specs.Array.{IsFromFnResult}
use Rattle.std.specs.Fn.{Called}
use Rattle.std.proofs.lemmas.Bool.{both_ways, eq-eqb, eqb-true, and_from, cases_Bool, cases_eq, cond-false}
use Rattle.theory.specs.Network.{Network}
use Rattle.theory.specs.NextHop.{next_hop}
use Rattle.theory.specs.Repair as theory
use Rattle.theory.proofs.NextHops.{eq_same}
use Rattle.repairs.specs.Table.{IsLinkFilled}
use Rattle.repairs.specs.declared.repair.Entry.{Entry}
use Rattle.types.proofs.Arrays.{from_fn_each}
use Rattle.routes.specs.Costs.{link_cost}
use Rattle.router.specs.Tables.{OwnHops, OwnRepairs, same_laid}

pub from_fn_hops : {F : Type 0} (g : Mut F (ℕ × Unit {0}) (Option ℕ)) (z : Network) (u k : ℕ) (f : F) (l : List (Option ℕ)) → ((d : ℕ) (y : Option ℕ) (q : F) → Called g f (d, tt) y q → (q ≡ f) × (y ≡ next_hop z d u)) →
    IsFromFnResult g f l 64 → k ≤ 64 → OwnHops z u k l
from_fn_hops g z u k f l h r few d below = eq_same _ _ (from_fn_each g (λ j y. y ≡ next_hop z j u) f l 0 64 h r.each d None (omega arith) (omega arith))

same_self : (x : theory.Laid) → same_laid x x ≡ true
same_self theory.Unused = refl
same_self theory.Apart = refl
same_self (theory.Via p q) = and_from _ _ (eq-eqb p p refl) (eq-eqb q q refl)

is_laid : (x y : theory.Laid) → x ≡ y → same_laid x y ≡ true
is_laid x y e = rw e (same_self y)

-- one row more
pub own_repairs_more : (z : Network) (u f : ℕ) (old new : List Entry) → z.n ≤ 64 → OwnRepairs z u f old → IsLinkFilled z u f old new → OwnRepairs z u (f + 1) new
own_repairs_more z u f old new few h l g d p = elim (cases_eq g f) [
  | inl x ↦ rw x (is_laid _ _ (l.row d p.1))
  | inr x ↦ rw (l.rest (g * 64 + d) (inl (omega (arith, p.0, p.1)))) (h g d (omega (arith, p.0), p.1, p.2))
]

-- there is no such link
pub own_repairs_kept : (z : Network) (u f : ℕ) (l : List Entry) → OwnRepairs z u f l → z.cost u f ≡ 0 → OwnRepairs z u (f + 1) l
own_repairs_kept z u f l h none g d p = elim (cases_eq g f) [
  | inl y ↦ absurd (omega (arith, p.2, ap (λ i. z.cost u i) y, none))
  | inr y ↦ h g d (omega (arith, p.0), p.1, p.2)
]

pub no_link : (z : Network) (a b : ℕ) (o : Option ℕ) → o ≡ link_cost z a b → false ≡ is_some o → z.cost a b ≡ 0
no_link z a b o e h = elim (cases_Bool (eqb (z.cost a b) 0)) [
  | inl t ↦ eqb-true (z.cost a b) 0 t
  | inr t ↦ absurd (both_ways (is_some o) (sym h) (ap is_some (e ∙ cond-false (eqb (z.cost a b) 0) None (Some (z.cost a b)) t)))
]
