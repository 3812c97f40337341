-- The next hops after a change: those of touched nodes anew, the others as they are.
use Rattle.std.proofs.Common.{◌≡◌, ℕ, ◌<◌, true, false, List, length, get_or, set, None, Option, sym, refl, ap, ◌∙◌, inl, inr, arith, length-set}
use Rattle.std.proofs.lemmas.Bool.{both_ways, cases_eq, cases_Bool}
use Rattle.std.proofs.lemmas.List.{get_or-set_same, get_or-set_other}
use Rattle.theory.specs.Network.{Network}
use Rattle.theory.specs.NextHop.{next_hop}
use Rattle.types.specs.NodeSets.{has}
use Rattle.types.specs.declared.node_set.NodeSet.{NodeSet}
use Rattle.routes.specs.NextHops.{HopRow}
use Rattle.routes.specs.Touched.{Touched}
use Rattle.routes.proofs.Sets.{Less, left_in, same_other}

-- the nodes of t have their next hops in y, but for those of rest; the others have those of old
pub record Renewed (y : Network) (d : ℕ) (t rest : NodeSet) (old new : List (Option ℕ)) : Type 0 where
  pub some : (a : ℕ) → has rest a ≡ true → has t a ≡ true
  pub size : length new ≡ length old
  pub others : (a : ℕ) → has t a ≡ false → get_or new a None ≡ get_or old a None
  pub these : (a : ℕ) → has t a ≡ true → has rest a ≡ false → get_or new a None ≡ next_hop y d a

pub renewed_none : (y : Network) (d : ℕ) (t : NodeSet) (old : List (Option ℕ)) → Renewed y d t t old old
renewed_none y d t old = record { some = λ a h. h; size = refl; others = λ a h. refl; these = λ a h n. absurd (both_ways (has t a) n h) }

pub renewed_more : (y : Network) (d : ℕ) (t rest less : NodeSet) (old new : List (Option ℕ)) (x : ℕ) (h : Option ℕ) → has rest x ≡ true → Less x rest less → x < length old → h ≡ next_hop y d x →
    Renewed y d t rest old new → Renewed y d t less old (set new x h)
renewed_more y d t rest less old new x h in_rest w l e n = record {
  some = λ a k. n.some a (left_in rest less x w a k);
  size = length-set new x h ∙ n.size;
  others = λ a u. get_or-set_other new x a h None (λ i. both_ways (has t x) (ap (has t) (sym i) ∙ u) (n.some x in_rest)) ∙ n.others a u;
  these = λ a u k. elim (cases_eq a x) [
    | inl i ↦ ap (λ j. get_or (set new x h) j None) i ∙ (get_or-set_same new x h None (omega (arith, n.size)) ∙ (e ∙ ap (next_hop y d) (sym i)))
    | inr i ↦ get_or-set_other new x a h None i ∙ n.these a u (sym (same_other rest less x w a i) ∙ k)
  ];
}

pub renewed_all : (z y : Network) (d : ℕ) (t rest : NodeSet) (old new : List (Option ℕ)) → y.n ≡ z.n → Touched z y d t → ((a : ℕ) → has rest a ≡ false) → HopRow z d old → Renewed y d t rest old new → HopRow y d new
renewed_all z y d t rest old new e w none h n a l = elim (cases_Bool (has t a)) [
  | inl u ↦ n.these a u (none a)
  | inr u ↦ let p : a < z.n = omega arith in n.others a u ∙ (h a p ∙ sym (w.same_hop a p u))
]
