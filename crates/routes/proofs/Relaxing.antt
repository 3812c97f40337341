-- The links of a node to the nodes of a set, taken one after another.
use Rattle.std.proofs.Common.{◌≡◌, ℕ, ◌+◌, ◌<◌, ◌≤◌, Bool, true, false, not, cond, ◌&&◌, ◌⊎◌, List, length, get_or, set, sym, refl, ap, ◌∙◌, subst, inl, inr, arith, length-set}
use Rattle.std.proofs.lemmas.Bool.{both_ways, cases_eq, and_from, and_right, cond-true, cond-false}
use Rattle.std.proofs.lemmas.List.{get_or-set_same, get_or-set_other}
use Rattle.std.proofs.Math.Bool.{and-true}
use Rattle.types.specs.NodeSets.{has}
use Rattle.types.specs.declared.node_set.NodeSet.{NodeSet}
use Rattle.theory.specs.Network.{Network}
use Rattle.routes.specs.Dijkstra.{relaxed, Relaxes, LeastOver}
use Rattle.routes.proofs.Settled.{relaxed_is}
use Rattle.routes.proofs.Sets.{Less, left_in, gone, same_other}

-- the links to the nodes of s are relaxed, but for those of rest
pub record RelaxedBut (z : Network) (u here : ℕ) (s rest : NodeSet) (old new : List ℕ) : Type 0 where
  pub some : (e : ℕ) → has rest e ≡ true → has s e ≡ true
  pub size : length new ≡ length old
  pub each : (e : ℕ) → e < z.n → get_or new e 0 ≡ cond (has s e && not (has rest e)) (relaxed (z.cost u e) here (get_or old e 0)) (get_or old e 0)

pub relaxed_start : (z : Network) (u here : ℕ) (s : NodeSet) (old : List ℕ) → RelaxedBut z u here s s old old
relaxed_start z u here s old = record {
  some = λ e h. h;
  size = refl;
  each = λ e p. sym (cond-false (has s e && not (has s e)) (relaxed (z.cost u e) here (get_or old e 0)) (get_or old e 0) (none (has s e)));
}
  where
    none : (b : Bool) → (b && not b) ≡ false
    none true = refl
    none false = refl

pub relaxed_more : (z : Network) (u here : ℕ) (s rest less : NodeSet) (old now : List ℕ) (e r : ℕ) → length old ≡ z.n → e < z.n → has rest e ≡ true → Less e rest less → RelaxedBut z u here s rest old now →
    r ≡ relaxed (z.cost u e) here (get_or now e 0) → RelaxedBut z u here s less old (set now e r)
relaxed_more z u here s rest less old now e r size l in_rest t h q = record {
  some = λ v x. h.some v (left_in rest less e t v x);
  size = length-set now e r ∙ h.size;
  each = each;
}
  where
    each : (v : ℕ) → v < z.n → get_or (set now e r) v 0 ≡ cond (has s v && not (has less v)) (relaxed (z.cost u v) here (get_or old v 0)) (get_or old v 0)
    each v p = elim (cases_eq v e) [
      | inl x ↦
          let there = relaxed (z.cost u e) here (get_or old e 0) in
          let before : get_or now e 0 ≡ get_or old e 0 = h.each e l ∙ cond-false (has s e && not (has rest e)) there (get_or old e 0) (and_right (has s e) (not (has rest e)) (ap not in_rest)) in
          let yes : (has s e && not (has less e)) ≡ true = and_from (has s e) (not (has less e)) (h.some e in_rest) (ap not (gone rest less e t)) in
          rw x (get_or-set_same now e r 0 (omega (arith, h.size)) ∙ (q ∙ (ap (relaxed (z.cost u e) here) before ∙ sym (cond-true (has s e && not (has less e)) there (get_or old e 0) yes))))
      | inr x ↦
          get_or-set_other now e v r 0 x ∙ (h.each v p ∙ ap (λ b. cond (has s v && not b) (relaxed (z.cost u v) here (get_or old v 0)) (get_or old v 0)) (sym (same_other rest less e t v x)))
    ]

pub relaxed_all : (z : Network) (u here : ℕ) (s rest : NodeSet) (old new : List ℕ) → ((e : ℕ) → has rest e ≡ false) → RelaxedBut z u here s rest old new → Relaxes z u here s old new
relaxed_all z u here s rest old new none h = record {
  size = h.size;
  each = λ e p. h.each e p ∙ ap (λ b. cond b (relaxed (z.cost u e) here (get_or old e 0)) (get_or old e 0)) (ap (λ b. has s e && not b) (none e) ∙ and-true (has s e));
}

-- the least over the links to the nodes of s, but for those of rest
pub record LeastBut (z : Network) (a : ℕ) (s rest : NodeSet) (dist : List ℕ) (c : ℕ) : Type 0 where
  pub some : (e : ℕ) → has rest e ≡ true → has s e ≡ true
  pub top : c ≤ 4294967295
  pub least : (e : ℕ) → has s e ≡ true → has rest e ≡ false → c ≤ z.cost a e + get_or dist e 0
  pub one : (c ≡ 4294967295) ⊎ ((e : ℕ) × (has s e ≡ true) × (c ≡ z.cost a e + get_or dist e 0))

pub least_start : (z : Network) (a : ℕ) (s : NodeSet) (dist : List ℕ) → LeastBut z a s s dist 4294967295
least_start z a s dist = record { some = λ e h. h; top = omega arith; least = λ e h n. absurd (both_ways (has s e) n h); one = inl refl }

pub least_more : (z : Network) (a : ℕ) (s rest less : NodeSet) (dist : List ℕ) (e c r : ℕ) → has rest e ≡ true → 0 < z.cost a e → Less e rest less → LeastBut z a s rest dist c → r ≡ relaxed (z.cost a e) (get_or dist e 0) c → LeastBut z a s less dist r
least_more z a s rest less dist e c r in_rest link t h q =
    let x = relaxed_is (z.cost a e) (get_or dist e 0) c in
    record {
      some = λ v y. h.some v (left_in rest less e t v y);
      top = omega (arith, x.less, h.top);
      least = λ v y n. elim (cases_eq v e) [
        | inl i ↦ subst (λ j. r ≤ z.cost a j + get_or dist j 0) (sym i) (omega (arith, x.over link))
        | inr i ↦ omega (arith, x.less, h.least v y (sym (same_other rest less e t v i) ∙ n))
      ];
      one = elim x.one [
        | inl y ↦ elim h.one [ inl k ↦ inl (q ∙ (y ∙ k)) | inr k ↦ inr (k.0, k.1, q ∙ (y ∙ k.2)) ]
        | inr y ↦ inr (e, h.some e in_rest, q ∙ y.1)
      ];
    }

pub least_all : (z : Network) (a : ℕ) (s rest : NodeSet) (dist : List ℕ) (c : ℕ) → ((e : ℕ) → has rest e ≡ false) → LeastBut z a s rest dist c → LeastOver z a s dist c
least_all z a s rest dist c none h = record { top = h.top; least = λ e y. h.least e y (none e); one = h.one }
