-- A set of nodes, taken one after another.
use Rattle.std.proofs.Common.{◌≡◌, ℕ, ◌<◌, true, false, not, ◌&&◌, eqb, sym, refl, ap, ◌∙◌}
use Rattle.std.proofs.lemmas.Bool.{eq-eqb, ne_eqb, and_parts, and_right}
use Rattle.std.proofs.Math.Bool.{and-true}
use Rattle.types.specs.NodeSets.{has}
use Rattle.types.specs.declared.node_set.NodeSet.{NodeSet}
use Rattle.theory.proofs.Distances.{count, count_lt}

-- how many nodes are in it
abbrev pub size_of : NodeSet → ℕ
size_of s = count 64 (has s)

-- new is old without u
abbrev pub Less : ℕ → (old new : NodeSet) → Type 0
Less u old new = (v : ℕ) → has new v ≡ (has old v && not (eqb v u))

module _ (old new : NodeSet) (u : ℕ) (t : Less u old new) where
  pub left_in : (v : ℕ) → has new v ≡ true → has old v ≡ true
  left_in v h = (and_parts (has old v) (not (eqb v u)) (sym (t v) ∙ h)).0

  pub gone : has new u ≡ false
  gone = t u ∙ and_right (has old u) (not (eqb u u)) (ap not (eq-eqb u u refl))

  pub same_other : (v : ℕ) → (v ≡ u → ⊥) → has new v ≡ has old v
  same_other v h = t v ∙ (ap (λ b. has old v && not b) (ne_eqb v u h) ∙ and-true (has old v))

  pub size_falls : u < 64 → has old u ≡ true → size_of new < size_of old
  size_falls l h = count_lt 64 (has new) (has old) left_in u l gone h
