-- Arrays of one value, and those that `array::from_fn` makes by a closure that changes nothing.
use denote.Param.Members.{Mut}
use Rattle.std.proofs.Common.{◌≡◌, ℕ, zero, suc, ◌+◌, ◌<◌, ◌≤◌, List, get_or, slice_index_or, replicate, refl, subst, inl, inr, arith}
use Rattle.std.specs.Array.{IsFromFnResultFrom}
use Rattle.std.specs.Fn.{Called}
use Rattle.std.proofs.lemmas.Bool.{cases_eq}

-- what the closure gives at each index is there
pub from_fn_each : {F B : Type 0} (g : Mut F (ℕ × Unit {0}) B) (P : ℕ → B → Type 0) (f : F) (ys : List B) (i n : ℕ) →
    ((j : ℕ) (y : B) (q : F) → Called g f (j, tt) y q → (q ≡ f) × P j y) →
    IsFromFnResultFrom g f ys i n → (k : ℕ) (e : B) → i ≤ k → k < i + n → P k (slice_index_or ys k e)
from_fn_each g P f ys i zero h r k e a b = absurd (omega arith)
from_fn_each g P f ys i (suc n) h (q, y, at, called, rest) k e a b = elim (cases_eq k i) [
  | inl x ↦ rw (x, at.1 e) ((h i y q called).1)
  | inr x ↦
      let next = subst (λ s. IsFromFnResultFrom g s ys (i + 1) n) ((h i y q called).0) rest in
      from_fn_each g P f ys (i + 1) n h next k e (omega arith) (omega arith)
]

pub all_alike : {A : Type 0} (x : A) (k d : ℕ) → get_or (replicate k x) d x ≡ x
all_alike x zero d = refl
all_alike x (suc k) zero = refl
all_alike x (suc k) (suc d) = all_alike x k d
