-- For how many destinations a router has switched.
use Rattle.std.proofs.Common.{◌≡◌, ℕ, zero, suc, ◌+◌, Bool, ◌&&◌, sym, refl, ap, ◌∙◌, add-zero, add-one, arith}
use Rattle.std.proofs.Math.Bool.{and-true, and_assoc, and_comm}
use Rattle.std.specs.List.{list_all, range_with_len}
use Rattle.protocol.specs.Switching.{all_below}

-- all below k, and then those from k on
all_from : (k n : ℕ) (p : ℕ → Bool) → (all_below k p && list_all p (range_with_len k n)) ≡ all_below (k + n) p
unfolding all_below
all_from k zero p = and-true (all_below k p) ∙ ap (λ i. all_below i p) (sym (add-zero k))
all_from k (suc n) p =
    let e : all_below (k + 1) p ≡ (p k && all_below k p) = rw add-one refl in
    let f : k + 1 + n ≡ k + suc n = omega arith in
    sym (and_assoc (all_below k p) (p k) (list_all p (range_with_len (k + 1) n))) ∙
    (ap (λ b. b && list_all p (range_with_len (k + 1) n)) (and_comm (all_below k p) (p k) ∙ sym e) ∙ (all_from (k + 1) n p ∙ ap (λ i. all_below i p) f))

-- all below n, as a search of the numbers from 0 finds it
pub all_in_range : (n : ℕ) (p : ℕ → Bool) → list_all p (range_with_len 0 n) ≡ all_below n p
unfolding all_below
all_in_range n p = let e : 0 + n ≡ n = omega arith in all_from 0 n p ∙ ap (λ i. all_below i p) e
