-- How the sets of neighbours are made.
use Rattle.std.proofs.Common.{◌≡◌, ℕ, ◌+◌, ◌*◌, ◌<◌, false, ◌&&◌, ltb, List, length, get_or, set, sym, ap, ◌∙◌, inl, inr, arith}
use Rattle.std.proofs.lemmas.Bool.{cases_eq, cases_lt, lt-ltb, le-ltb, and_from, and_right, cond-true, cond-false}
use Rattle.std.proofs.lemmas.List.{get_or-set_same, get_or-set_other}
use Rattle.types.specs.NodeSets.{has}
use Rattle.types.specs.declared.node_set.NodeSet.{NodeSet}
use Rattle.routes.specs.Costs.{cost_at}
use Rattle.routes.specs.Neighbours.{set_at}
use Rattle.routes.proofs.TouchedNodes.{More, more_in, more_same}

-- the nodes below k to which f has a cost
abbrev pub Below : ℕ → (ℕ → ℕ) → NodeSet → Type 0
Below k f s = (b : ℕ) → has s b ≡ (ltb b k && ltb 0 (f b))

pub below_none : (f : ℕ → ℕ) (s : NodeSet) → ((u : ℕ) → has s u ≡ false) → Below 0 f s
below_none f s h b = h b ∙ sym (ap (λ x. x && ltb 0 (f b)) (le-ltb b 0 (omega arith)))

one_more : (k b : ℕ) → (b ≡ k → ⊥) → ltb b (k + 1) ≡ ltb b k
one_more k b h = elim (cases_lt b k) [
  | inl l ↦ lt-ltb b (k + 1) (omega arith) ∙ sym (lt-ltb b k l)
  | inr l ↦ le-ltb b (k + 1) (omega arith) ∙ sym (le-ltb b k l)
]

-- k has a link
pub below_more : (k : ℕ) (f : ℕ → ℕ) (s t : NodeSet) → k < 64 → 0 < f k → Below k f s → More k s t → Below (k + 1) f t
below_more k f s t l p h m b = elim (cases_eq b k) [
  | inl e ↦ rw e (more_in k s t m l ∙ sym (and_from (ltb k (k + 1)) (ltb 0 (f k)) (lt-ltb k (k + 1) (omega arith)) (lt-ltb 0 (f k) p)))
  | inr e ↦ more_same k s t m b e ∙ (h b ∙ ap (λ x. x && ltb 0 (f b)) (sym (one_more k b e)))
]

-- it has none
pub below_kept : (k : ℕ) (f : ℕ → ℕ) (s : NodeSet) → f k ≡ 0 → Below k f s → Below (k + 1) f s
below_kept k f s p h b = elim (cases_eq b k) [
  | inl e ↦ rw e (h k ∙ ap (λ x. x && ltb 0 (f k)) (le-ltb k k (omega arith)) ∙ sym (and_right (ltb k (k + 1)) (ltb 0 (f k)) (le-ltb 0 (f k) (omega arith))))
  | inr e ↦ h b ∙ ap (λ x. x && ltb 0 (f b)) (sym (one_more k b e))
]

-- so are those of a row of costs
pub linked_row : (n : ℕ) (costs : List ℕ) (a : ℕ) (s : NodeSet) → a < n → Below n (λ b. get_or costs (a * 64 + b) 0) s → (b : ℕ) → has s b ≡ ltb 0 (cost_at n costs a b)
linked_row n costs a s p h b =
    let v = get_or costs (a * 64 + b) 0 in
    h b ∙ elim (cases_lt b n) [
      | inl l ↦
          ap (λ x. x && ltb 0 v) (lt-ltb b n l) ∙ sym (ap (ltb 0) (cond-true (ltb a n && ltb b n) v 0 (and_from (ltb a n) (ltb b n) (lt-ltb a n p) (lt-ltb b n l))))
      | inr l ↦
          ap (λ x. x && ltb 0 v) (le-ltb b n l) ∙ sym (ap (ltb 0) (cond-false (ltb a n && ltb b n) v 0 (and_right (ltb a n) (ltb b n) (le-ltb b n l))) ∙ le-ltb 0 0 (omega arith))
    ]

-- one set more
pub linked_more : (n : ℕ) (costs : List ℕ) (l : List NodeSet) (k : ℕ) (s : NodeSet) → k < length l → k < n → ((a b : ℕ) → a < k → has (set_at l a) b ≡ ltb 0 (cost_at n costs a b)) → Below n (λ b. get_or costs (k * 64 + b) 0) s →
    (a b : ℕ) → a < k + 1 → has (set_at (set l k s) a) b ≡ ltb 0 (cost_at n costs a b)
linked_more n costs l k s size p h x a b q = elim (cases_eq a k) [
  | inl e ↦ rw e (ap (λ i. has i b) (get_or-set_same l k s (record { 0 = 0 }) size) ∙ linked_row n costs k s p x b)
  | inr e ↦ ap (λ i. has i b) (get_or-set_other l k a s (record { 0 = 0 }) e) ∙ h a b (omega arith)
]
