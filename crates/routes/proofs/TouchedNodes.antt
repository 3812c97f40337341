-- Which nodes a change touches, one after another.
use Rattle.std.proofs.Common.{◌≡◌, ℕ, ◌+◌, ◌<◌, Bool, true, false, not, ◌&&◌, ◌||◌, eqb, ltb, ◌⊎◌, length, set, Some, None, Option, sym, refl, ap, ◌∙◌, inl, inr, arith, length-set}
use Rattle.std.proofs.lemmas.Bool.{both_ways, cases_eq, cases_lt, cases_Bool, eqb-true, eq-eqb, ne_eqb, ltb-true, lt-ltb, le-ltb, not-true, not_from_false, and_parts, and_from, and_left, and_right, or_cases, or_left, or_right}
use Rattle.theory.specs.Network.{Network, Lawful, Limited}
use Rattle.theory.specs.NextHop.{at_hop, next_hop}
use Rattle.theory.proofs.NextHops.{next_hop_is, next_hop_here}
use Rattle.types.specs.Change.{changed}
use Rattle.types.specs.declared.change.Change.{Change}
use Rattle.types.specs.NodeSets.{has}
use Rattle.types.specs.declared.node_set.NodeSet.{NodeSet}
use Rattle.routes.specs.Neighbours.{set_at}
use Rattle.routes.specs.Touched.{Touched, Sorted, cut_off, sends_to}
use Rattle.routes.specs.declared.routes.Senders.{Senders}
use Rattle.routes.proofs.Changes.{breaks, breaks_stop, breaks_to, unbroken_distance, unbroken_hop}
use Rattle.routes.proofs.Sets.{Less, left_in, gone, same_other}
use Rattle.theory.proofs.Distances.{count, count_lt}
use Rattle.theory.proofs.HopPaths.{by_next_hops}
use Rattle.std.proofs.lemmas.List.{get_or-set_same, get_or-set_other}

pub hop_within : (z : Network) → Lawful z → (d a e : ℕ) → Some e ≡ next_hop z d a → e < z.n
hop_within z g d a e h = (g.within a e (next_hop_is z d a e (sym h)).near.link).1

-- one more is in the set
abbrev pub More : ℕ → (old new : NodeSet) → Type 0
More u old new = (v : ℕ) → has new v ≡ ((eqb v u && ltb v 64) || has old v)

module _ (u : ℕ) (old new : NodeSet) (m : More u old new) where
  pub more_in : u < 64 → has new u ≡ true
  more_in l = m u ∙ or_left (eqb u u && ltb u 64) (has old u) (and_from (eqb u u) (ltb u 64) (eq-eqb u u refl) (lt-ltb u 64 l))

  pub more_same : (v : ℕ) → (v ≡ u → ⊥) → has new v ≡ has old v
  more_same v h = m v ∙ ap (λ b. (b && ltb v 64) || has old v) (ne_eqb v u h)

  pub more_still : (v : ℕ) → has old v ≡ true → has new v ≡ true
  more_still v h = m v ∙ or_right (eqb v u && ltb v 64) (has old v) h

below_one : (k a : ℕ) → (a ≡ k → ⊥) → ltb a (k + 1) ≡ ltb a k
below_one k a h = elim (cases_lt a k) [
  | inl l ↦ lt-ltb a (k + 1) (omega arith) ∙ sym (lt-ltb a k l)
  | inr l ↦ le-ltb a (k + 1) (omega arith) ∙ sym (le-ltb a k l)
]

-- a set of the first k nodes that pass p; k passes, or doesn't
abbrev FirstOf : ℕ → (ℕ → Bool) → NodeSet → Type 0
FirstOf k p s = (a : ℕ) → has s a ≡ (ltb a k && p a)

first_with : (k : ℕ) (p : ℕ → Bool) (s t : NodeSet) → k < 64 → p k ≡ true → FirstOf k p s → More k s t → FirstOf (k + 1) p t
first_with k p s t l y h m a = elim (cases_eq a k) [
  | inl e ↦ rw e (more_in k s t m l ∙ sym (and_from (ltb k (k + 1)) (p k) (lt-ltb k (k + 1) (omega arith)) y))
  | inr e ↦ more_same k s t m a e ∙ (h a ∙ ap (λ x. x && p a) (sym (below_one k a e)))
]

first_without : (k : ℕ) (p : ℕ → Bool) (s : NodeSet) → p k ≡ false → FirstOf k p s → FirstOf (k + 1) p s
first_without k p s n h a = elim (cases_eq a k) [
  | inl e ↦ rw e (h k ∙ (and_left (ltb k k) (p k) (le-ltb k k (omega arith)) ∙ sym (and_right (ltb k (k + 1)) (p k) n)))
  | inr e ↦ h a ∙ ap (λ x. x && p a) (sym (below_one k a e))
]

-- at first nobody is sorted
pub sorted_none : (z y : Network) (d : ℕ) (s : Senders) → length s.to ≡ 64 → ((u : ℕ) → has s.cut u ≡ false) → ((e u : ℕ) → e < z.n → has (set_at s.to e) u ≡ false) → Sorted z y d 0 s
sorted_none z y d s size o t = record {
  size = size;
  cut = λ a. o a ∙ sym (ap (λ x. x && cut_off z y d a) (le-ltb a 0 (omega arith)));
  to = λ e a l. t e a l ∙ sym (ap (λ x. x && sends_to z y d a e) (le-ltb a 0 (omega arith)));
}

at_some : (f : ℕ → Bool) (o : Option ℕ) (e : ℕ) → Some e ≡ o → at_hop f o ≡ f e
at_some f o e h = ap (at_hop f) (sym h)

at_none : (f : ℕ → Bool) (o : Option ℕ) → None ≡ o → at_hop f o ≡ false
at_none f o h = ap (at_hop f) (sym h)

module _ (z y : Network) (few : Limited z) (d k : ℕ) (s t : Senders) (l : k < z.n) (h : Sorted z y d k s) where
  abbrev there : ℕ → Bool
  there x = ltb 0 (y.cost k x)

  -- the link of k to its next hop is gone
  pub sorted_cut : (e : ℕ) → Some e ≡ next_hop z d k → there e ≡ false → t.to ≡ s.to → More k s.cut t.cut → Sorted z y d (k + 1) t
  sorted_cut e n j same m = record {
    size = ap length same ∙ h.size;
    cut = first_with k (cut_off z y d) s.cut t.cut (omega (arith, few.few)) (at_some (λ x. not (there x)) (next_hop z d k) e n ∙ ap not j) h.cut m;
    to = λ v a p. ap (λ x. has (set_at x v) a) same ∙
        first_without k (λ i. sends_to z y d i v) (set_at s.to v) (at_some (λ x. there x && eqb x v) (next_hop z d k) e n ∙ ap (λ x. x && eqb e v) j) (λ i. h.to v i p) a;
  }

  -- it is there
  pub sorted_to : (e : ℕ) (more : NodeSet) → e < z.n → Some e ≡ next_hop z d k → there e ≡ true → t.cut ≡ s.cut → t.to ≡ set s.to e more → More k (set_at s.to e) more → Sorted z y d (k + 1) t
  sorted_to e more w n j same q m = record {
    size = ap length q ∙ (length-set s.to e more ∙ h.size);
    cut = λ a. ap (λ x. has x a) same ∙ first_without k (cut_off z y d) s.cut (at_some (λ x. not (there x)) (next_hop z d k) e n ∙ ap not j) h.cut a;
    to = λ v a p. ap (λ x. has (set_at x v) a) q ∙ elim (cases_eq v e) [
      | inl i ↦
          rw i (ap (λ x. has x a) (get_or-set_same s.to e more (record { 0 = 0 }) (omega (arith, h.size, few.few))) ∙
          first_with k (λ u. sends_to z y d u e) (set_at s.to e) more (omega (arith, few.few)) (at_some (λ x. there x && eqb x e) (next_hop z d k) e n ∙ (ap (λ x. x && eqb e e) j ∙ eq-eqb e e refl)) (λ u. h.to e u w) m a)
      | inr i ↦
          ap (λ x. has x a) (get_or-set_other s.to e v more (record { 0 = 0 }) i) ∙
          first_without k (λ u. sends_to z y d u v) (set_at s.to v) (at_some (λ x. there x && eqb x v) (next_hop z d k) e n ∙ and_right (there e) (eqb e v) (ne_eqb e v (λ u. i (sym u)))) (λ u. h.to v u p) a
    ];
  }

  -- it doesn't send
  pub sorted_not : None ≡ next_hop z d k → t ≡ s → Sorted z y d (k + 1) t
  sorted_not n same = rw same (record {
    size = h.size;
    cut = first_without k (cut_off z y d) s.cut (at_none (λ x. not (there x)) (next_hop z d k) n) h.cut;
    to = λ v a p. first_without k (λ u. sends_to z y d u v) (set_at s.to v) (at_none (λ x. there x && eqb x v) (next_hop z d k) n) (λ u. h.to v u p) a;
  })

-- the paths of the nodes that were found break; the rest are found, too, and who sends to one that is done is found
pub record Found (z : Network) (c : Change) (d : ℕ) (done rest : NodeSet) : Type 0 where
  pub done_breaks : (a : ℕ) → has done a ≡ true → (a < z.n) × (breaks c z d a ≡ true)
  pub rest_breaks : (a : ℕ) → has rest a ≡ true → (a < z.n) × (breaks c z d a ≡ true)
  pub apart : (a : ℕ) → has rest a ≡ true → has done a ≡ false
  pub first : (a : ℕ) → a < z.n → cut_off z (changed c z) d a ≡ true → (has done a ≡ true) ⊎ (has rest a ≡ true)
  pub next : (a e : ℕ) → a < z.n → has done e ≡ true → sends_to z (changed c z) d a e ≡ true → (has done a ≡ true) ⊎ (has rest a ≡ true)

module _ (z : Network) (g : Lawful z) (few : Limited z) (c : Change) (d : ℕ) (s : Senders) (h : Sorted z (changed c z) d z.n s) where
  abbrev y : Network
  y = changed c z

  abbrev link : ℕ → ℕ → Bool
  link a e = ltb 0 (y.cost a e)

  cut_breaks : (a : ℕ) → cut_off z y d a ≡ true → breaks c z d a ≡ true
  cut_breaks a t = go (next_hop z d a) refl t
    where
      go : (o : Option ℕ) → next_hop z d a ≡ o → at_hop (λ e. not (link a e)) o ≡ true → breaks c z d a ≡ true
      go None e i = absurd (both_ways false refl i)
      go (Some v) e i = breaks_to c z g d a v e ∙ or_left (not (link a v)) (breaks c z d v) i

  breaks_behind : (a e : ℕ) → sends_to z y d a e ≡ true → breaks c z d e ≡ true → breaks c z d a ≡ true
  breaks_behind a e t u = go (next_hop z d a) refl t
    where
      go : (o : Option ℕ) → next_hop z d a ≡ o → at_hop (λ x. link a x && eqb x e) o ≡ true → breaks c z d a ≡ true
      go None q i = absurd (both_ways false refl i)
      go (Some v) q i = breaks_to c z g d a v q ∙ or_right (not (link a v)) (breaks c z d v) (ap (breaks c z d) (eqb-true v e (and_parts (link a v) (eqb v e) i).1) ∙ u)

  pub found_first : (none : NodeSet) → ((u : ℕ) → has none u ≡ false) → Found z c d none s.cut
  found_first none n = record {
    done_breaks = λ a i. absurd (both_ways (has none a) (n a) i);
    rest_breaks = λ a i. let p = and_parts (ltb a z.n) (cut_off z y d a) (sym (h.cut a) ∙ i) in (ltb-true a z.n p.0, cut_breaks a p.1);
    apart = λ a i. n a;
    first = λ a l i. inr (h.cut a ∙ and_from (ltb a z.n) (cut_off z y d a) (lt-ltb a z.n l) i);
    next = λ a e l i. absurd (both_ways (has none e) (n e) i);
  }

  pub found_more : (done rest less more new fresh : NodeSet) (a : ℕ) → has rest a ≡ true → Less a rest less → More a done more → ((v : ℕ) → has fresh v ≡ (has (set_at s.to a) v && not (has more v))) → ((v : ℕ) → has new v ≡ (has less v || has fresh v)) → Found z c d done rest → Found z c d more new
  found_more done rest less more new fresh a in_rest w m f q k =
      let a_breaks = k.rest_breaks a in_rest in
      let a_in : has more a ≡ true = more_in a done more m (omega (arith, a_breaks.0, few.few)) in
      let in_less : (v : ℕ) → has less v ≡ true → has new v ≡ true = λ v i. q v ∙ or_left (has less v) (has fresh v) i in
      let still : (v : ℕ) → has done v ≡ true ⊎ (has rest v ≡ true) → has more v ≡ true ⊎ (has new v ≡ true) = λ v j. elim j [
        | inl i ↦ inl (more_still a done more m v i)
        | inr i ↦ elim (cases_eq v a) [
          | inl e ↦ inl (ap (has more) e ∙ a_in)
          | inr e ↦ inr (in_less v (same_other rest less a w v e ∙ i))
        ]
      ] in
      let parts : (v : ℕ) → has new v ≡ true → has less v ≡ true ⊎ (has fresh v ≡ true) = λ v i. or_cases (has less v) (has fresh v) (sym (q v) ∙ i) in
      record {
        done_breaks = λ v i. elim (cases_eq v a) [
          | inl e ↦ rw e a_breaks
          | inr e ↦ k.done_breaks v (sym (more_same a done more m v e) ∙ i)
        ];
        rest_breaks = λ v j. elim (parts v j) [
          | inl i ↦ k.rest_breaks v (left_in rest less a w v i)
          | inr i ↦
              let b = (and_parts (has (set_at s.to a) v) (not (has more v)) (sym (f v) ∙ i)).0 in
              let p = and_parts (ltb v z.n) (sends_to z y d v a) (sym (h.to a v a_breaks.0) ∙ b) in
              (ltb-true v z.n p.0, breaks_behind v a p.1 a_breaks.1)
        ];
        apart = λ v j. elim (parts v j) [
          | inl i ↦ elim (cases_eq v a) [
            | inl e ↦ absurd (both_ways (has less a) (gone rest less a w) (ap (has less) (sym e) ∙ i))
            | inr e ↦ more_same a done more m v e ∙ k.apart v (left_in rest less a w v i)
          ]
          | inr i ↦ not-true (has more v) (and_parts (has (set_at s.to a) v) (not (has more v)) (sym (f v) ∙ i)).1
        ];
        first = λ v l i. still v (k.first v l i);
        next = λ v e l j t. elim (cases_eq e a) [
          | inl i ↦ elim (cases_Bool (has more v)) [
            | inl b ↦ inl b
            | inr b ↦
                let t' : sends_to z y d v a ≡ true = ap (sends_to z y d v) (sym i) ∙ t in
                let o = h.to a v a_breaks.0 ∙ and_from (ltb v z.n) (sends_to z y d v a) (lt-ltb v z.n l) t' in
                inr (q v ∙ or_right (has less v) (has fresh v) (f v ∙ and_from (has (set_at s.to a) v) (not (has more v)) o (ap not b)))
          ]
          | inr i ↦ still v (k.next v e l (sym (more_same a done more m e i) ∙ j) t)
        ];
      }

  pub found_all : (done rest : NodeSet) → ((u : ℕ) → has rest u ≡ false) → Found z c d done rest → Touched z y d done
  found_all done rest none k = record {
    within = λ a i. (k.done_breaks a i).0;
    aim = elim (cases_Bool (has done d)) [
      | inl i ↦ absurd (both_ways (breaks c z d d) (breaks_stop c z d d (next_hop_here z d)) (k.done_breaks d i).1)
      | inr i ↦ i
    ];
    same_distance = λ a l i. unbroken_distance c z g d a (unbroken a l i);
    same_hop = λ a l i. unbroken_hop c z g d a (unbroken a l i);
  }
    where
      in_done : (v : ℕ) → has done v ≡ true ⊎ (has rest v ≡ true) → has done v ≡ true
      in_done v j = elim j [ inl i ↦ i | inr i ↦ absurd (both_ways (has rest v) (none v) i) ]

      all : (v : ℕ) → v < z.n → breaks c z d v ≡ true → has done v ≡ true
      all = by_next_hops z g d (λ v. v < z.n → breaks c z d v ≡ true → has done v ≡ true)
          (λ v n l u. absurd (both_ways (breaks c z d v) (breaks_stop c z d v n) u))
          (λ v e n i l u.
          let m = hop_within z g d v e (sym n) in
          elim (cases_Bool (link v e)) [
            | inl j ↦
                let on : breaks c z d e ≡ true = sym (breaks_to c z g d v e n ∙ ap (λ b. not b || breaks c z d e) j) ∙ u in
                in_done v (k.next v e l (i m on) (at_some (λ x. link v x && eqb x e) (next_hop z d v) e (sym n) ∙ (ap (λ b. b && eqb e e) j ∙ eq-eqb e e refl)))
            | inr j ↦ in_done v (k.first v l (at_some (λ x. not (link v x)) (next_hop z d v) e (sym n) ∙ ap not j))
          ])

      unbroken : (a : ℕ) → a < z.n → has done a ≡ false → breaks c z d a ≡ false
      unbroken a l i = elim (cases_Bool (breaks c z d a)) [
        | inl u ↦ absurd (both_ways (has done a) i (all a l u))
        | inr u ↦ u
      ]

-- one node more is done
pub undone_falls : (a : ℕ) (done more : NodeSet) → More a done more → a < 64 → has done a ≡ false → count 64 (λ v. not (has more v)) < count 64 (λ v. not (has done v))
undone_falls a done more m l n =
    count_lt 64 (λ v. not (has more v)) (λ v. not (has done v)) (λ v y. not_from_false (has done v) (out v (not-true (has more v) y))) a l (ap not (more_in a done more m l)) (ap not n)
  where
    out : (v : ℕ) → has more v ≡ false → has done v ≡ false
    out v y = elim (cases_Bool (has done v)) [ inr i ↦ i | inl i ↦ absurd (both_ways (has more v) y (more_still a done more m v i)) ]
