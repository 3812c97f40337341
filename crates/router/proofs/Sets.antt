-- Sets of nodes that no node is in.
use Rattle.std.proofs.Common.{◌≡◌, ℕ, zero, suc, ◌≤◌, Bool, true, false, not, ◌↔◌, IsTrue, sym, refl, inl, inr}
use Rattle.std.proofs.lemmas.Bool.{cases_lt, and_from, not_from_false}
use Rattle.protocol.proofs.Changes.{none_at}
use Rattle.protocol.specs.Switching.{none_below}

none_from : (n : ℕ) (p : ℕ → Bool) → ((u : ℕ) → p u ≡ false) → none_below n p ≡ true
unfolding none_below
none_from zero p h = refl
none_from (suc n) p h = and_from (not (p n)) (none_below n p) (not_from_false (p n) (h n)) (none_from n p h)

-- a set of the first n nodes is empty exactly where none of these is in it
pub none_is : (n : ℕ) (p : ℕ → Bool) (b : Bool) → IsTrue b ↔ ((u : ℕ) → p u ≡ false) → ((u : ℕ) → n ≤ u → p u ≡ false) → b ≡ none_below n p
none_is n p true h beyond = sym (none_from n p (h.0 refl))
none_is n p false h beyond = sym (go (none_below n p) refl)
  where
    go : (b : Bool) → none_below n p ≡ b → b ≡ false
    go false e = refl
    go true e = sym (h.1 (λ u. elim (cases_lt u n) [ inl l ↦ none_at n p e u l | inr l ↦ beyond u l ]))
