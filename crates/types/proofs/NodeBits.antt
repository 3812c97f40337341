-- Sets of nodes, bit by bit.
use Rattle.std.proofs.Common.{◌≡◌, ℕ, zero, suc, ◌-◌, ◌*◌, ◌/◌, ◌%◌, ◌^◌, ◌<◌, ◌≤◌, Bool, true, false, not, ◌&&◌, ◌||◌, eqb, ltb, min, max, w64, sym, refl, ap, ◌∙◌, inl, inr, arith}
use Rattle.std.specs.Int.{bit_at, bit_not, trailing_zeros}
use Rattle.std.specs.Int.Bits.{bit_and, bit_or}
use Rattle.std.proofs.lemmas.Nat.Bits.{bit_at-zero, bit_at-suc, bit_at_lowest, bit_at-lt, bit_at_above, bit_at_and, bit_at_or, bit_at_not, bit_at_set_same, bit_at_set_other, bit_at_ones, bit_at_ones_above, bit_at-trailing_zeros}
use Rattle.std.proofs.lemmas.Bool.{both_ways, cases_eq, cases_lt, eq-eqb, ne_eqb, eqb-true, lt-ltb, le-ltb, and_from, and_right}
use Rattle.std.proofs.Math.Bool.{and-true}
use Rattle.types.specs.NodeSets.{has, Lowest}
use Rattle.types.specs.declared.node_set.NodeSet.{NodeSet}

abbrev set_of : ℕ → NodeSet
set_of n = record { 0 = n }

is_one : (x y : ℕ) → x ≡ y → eqb x 1 ≡ eqb y 1
is_one x y e = ap (λ i. eqb i 1) e

-- no node from 64 on
pub none_above : (n v : ℕ) → n < 18446744073709551616 → 64 ≤ v → has (set_of n) v ≡ false
none_above n v f h = is_one (bit_at n v) 0 (bit_at_above n 64 v f h)

both_bits : (x y : ℕ) → x < 2 → y < 2 → eqb (min x y) 1 ≡ (eqb x 1 && eqb y 1)
both_bits zero zero p q = refl
both_bits zero (suc zero) p q = refl
both_bits zero (suc (suc y)) p q = absurd (omega arith)
both_bits (suc zero) zero p q = refl
both_bits (suc zero) (suc zero) p q = refl
both_bits (suc zero) (suc (suc y)) p q = absurd (omega arith)
both_bits (suc (suc x)) y p q = absurd (omega arith)

pub and_has : (m n v : ℕ) → has (set_of (bit_and m n)) v ≡ (has (set_of m) v && has (set_of n) v)
and_has m n v =
    is_one (bit_at (bit_and m n) v) (min (bit_at m v) (bit_at n v)) (bit_at_and m n v) ∙
    both_bits (bit_at m v) (bit_at n v) (bit_at-lt m v) (bit_at-lt n v)

other_bit : (x : ℕ) → x < 2 → eqb (1 - x) 1 ≡ not (eqb x 1)
other_bit zero h = refl
other_bit (suc zero) h = refl
other_bit (suc (suc x)) h = absurd (omega arith)

pub minus_has : (m n v : ℕ) → m < 18446744073709551616 → n < 18446744073709551616 →
    has (set_of (bit_and m (bit_not w64 n))) v ≡ (has (set_of m) v && not (has (set_of n) v))
minus_has m n v f g = and_has m (bit_not w64 n) v ∙ elim (cases_lt v 64) [
  | inl l ↦
      ap (λ b. has (set_of m) v && b)
      (is_one (bit_at (bit_not w64 n) v) (1 - bit_at n v) (bit_at_not w64 n v g l) ∙ other_bit (bit_at n v) (bit_at-lt n v))
  | inr l ↦
      ap (λ b. b && has (set_of (bit_not w64 n)) v) (none_above m v f l) ∙
      sym (ap (λ b. b && not (has (set_of n) v)) (none_above m v f l))
]

pub empty_has : (u : ℕ) → has (set_of 0) u ≡ false
empty_has u = is_one (bit_at 0 u) 0 (bit_at-zero u)

abbrev one : ℕ → ℕ
one u = 1 * 2 ^ u % 18446744073709551616

pub only_has : (u v : ℕ) → u < 64 → has (set_of (one u)) v ≡ (eqb v u && ltb v 64)
only_has u v h = elim (cases_eq v u) [
  | inl e ↦
      let t : (eqb v u && ltb v 64) ≡ true = and_from (eqb v u) (ltb v 64) (eq-eqb v u e) (lt-ltb v 64 (omega arith)) in
      ap (has (set_of (one u))) e ∙ (is_one (bit_at (one u) u) 1 (bit_at_set_same w64 0 u h) ∙ sym t)
  | inr e ↦
      is_one (bit_at (one u) v) 0 (bit_at_set_other w64 0 u h v e ∙ bit_at-zero v) ∙
      sym (ap (λ b. b && ltb v 64) (ne_eqb v u e))
]

-- where u is not below 64 there is none
pub only_none : (u v : ℕ) → 64 ≤ u → has (set_of 0) v ≡ (eqb v u && ltb v 64)
only_none u v h = empty_has v ∙ sym (elim (cases_eq v u) [
  | inl e ↦ and_right (eqb v u) (ltb v 64) (le-ltb v 64 (omega arith))
  | inr e ↦ ap (λ b. b && ltb v 64) (ne_eqb v u e)
])

either_bit : (x y : ℕ) → x < 2 → y < 2 → eqb (max x y) 1 ≡ (eqb x 1 || eqb y 1)
either_bit zero zero p q = refl
either_bit zero (suc zero) p q = refl
either_bit zero (suc (suc y)) p q = absurd (omega arith)
either_bit (suc zero) zero p q = refl
either_bit (suc zero) (suc zero) p q = refl
either_bit (suc zero) (suc (suc y)) p q = absurd (omega arith)
either_bit (suc (suc x)) y p q = absurd (omega arith)

pub or_has : (m n v : ℕ) → has (set_of (bit_or m n)) v ≡ (has (set_of m) v || has (set_of n) v)
or_has m n v =
    is_one (bit_at (bit_or m n) v) (max (bit_at m v) (bit_at n v)) (bit_at_or m n v) ∙
    either_bit (bit_at m v) (bit_at n v) (bit_at-lt m v) (bit_at-lt n v)

-- what is left once the node u is taken out
pub without_only : (p q : ℕ → Bool) (u : ℕ) → ((v : ℕ) → q v ≡ (eqb v u && ltb v 64)) → ((v : ℕ) → 64 ≤ v → p v ≡ false) →
    (v : ℕ) → (p v && not (q v)) ≡ (p v && not (eqb v u))
without_only p q u h above v = ap (λ b. p v && not b) (h v) ∙ elim (cases_lt v 64) [
  | inl l ↦ ap (λ b. p v && not b) (ap (λ b. eqb v u && b) (lt-ltb v 64 l) ∙ and-true (eqb v u))
  | inr l ↦ ap (λ b. b && not (eqb v u && ltb v 64)) (above v l) ∙ sym (ap (λ b. b && not (eqb v u)) (above v l))
]

pub lowest_bit : (n : ℕ) → 0 < n → n < 18446744073709551616 → Lowest (set_of n) (trailing_zeros w64 n)
lowest_bit n p f =
    let t = bit_at-trailing_zeros w64 n p f in
    record {
      within = t.0;
      in_set = is_one (bit_at n (trailing_zeros w64 n)) 1 t.1;
      none_lower = λ v l. is_one (bit_at n v) 0 (t.2 v l);
    }

pub none_zero : (n : ℕ) → n < 18446744073709551616 → ((u : ℕ) → has (set_of n) u ≡ false) → n ≡ 0
none_zero n f h = elim (cases_lt 0 n) [
  | inl p ↦
      let t = lowest_bit n p f in
      absurd (both_ways (has (set_of n) (trailing_zeros w64 n)) (h (trailing_zeros w64 n)) t.in_set)
  | inr p ↦ omega arith
]

-- the lowest n bits
pub below_has : (n v : ℕ) → n ≤ 64 → has (set_of (2 ^ n - 1)) v ≡ (ltb v n && ltb v 64)
below_has n v h = elim (cases_lt v n) [
  | inl l ↦
      is_one (bit_at (2 ^ n - 1) v) 1 (bit_at_ones n v l) ∙
      sym (and_from (ltb v n) (ltb v 64) (lt-ltb v n l) (lt-ltb v 64 (omega arith)))
  | inr l ↦ is_one (bit_at (2 ^ n - 1) v) 0 (bit_at_ones_above n v l) ∙ sym (ap (λ b. b && ltb v 64) (le-ltb v n l))
]

pub all_has : (n v : ℕ) → 64 ≤ n → has (set_of 18446744073709551615) v ≡ (ltb v n && ltb v 64)
all_has n v h = below_has 64 v (omega arith) ∙ elim (cases_lt v 64) [
  | inl l ↦ ap (λ b. b && ltb v 64) (lt-ltb v 64 l ∙ sym (lt-ltb v n (omega arith)))
  | inr l ↦ and_right (ltb v 64) (ltb v 64) (le-ltb v 64 l) ∙ sym (and_right (ltb v n) (ltb v 64) (le-ltb v 64 l))
]

-- of a number whose lowest 1 is at the place t: the number before it has none there
off : (t n : ℕ) → bit_at n t ≡ 1 → ((i : ℕ) → i < t → bit_at n i ≡ 0) → bit_at (n - 1) t ≡ 0
off zero n h k = omega (arith, h, bit_at_lowest n, bit_at_lowest (n - 1))
off (suc t) n h k =
    let half : (n - 1) / 2 ≡ n / 2 - 1 = omega (arith, k 0 (omega arith), bit_at_lowest n) in
    bit_at-suc (n - 1) t ∙
    (ap (λ m. bit_at m t) half ∙
    off t (n / 2) (sym (bit_at-suc n t) ∙ h) (λ i l. sym (bit_at-suc n i) ∙ k (suc i) (omega arith)))

-- and the same bits above it
same_above : (t n v : ℕ) → bit_at n t ≡ 1 → ((i : ℕ) → i < t → bit_at n i ≡ 0) → t < v → bit_at (n - 1) v ≡ bit_at n v
same_above t n zero h k l = absurd (omega arith)
same_above zero n (suc v) h k l =
    let half : (n - 1) / 2 ≡ n / 2 = omega (arith, h, bit_at_lowest n) in
    bit_at-suc (n - 1) v ∙ (ap (λ m. bit_at m v) half ∙ sym (bit_at-suc n v))
same_above (suc t) n (suc v) h k l =
    let half : (n - 1) / 2 ≡ n / 2 - 1 = omega (arith, k 0 (omega arith), bit_at_lowest n) in
    bit_at-suc (n - 1) v ∙
    (ap (λ m. bit_at m v) half ∙
    (same_above t (n / 2) v (sym (bit_at-suc n t) ∙ h) (λ i l. sym (bit_at-suc n i) ∙ k (suc i) (omega arith)) (omega arith) ∙
    sym (bit_at-suc n v)))

twice : (a : Bool) → (a && a) ≡ (a && true)
twice true = refl
twice false = refl

no_one : (x : ℕ) → x < 2 → eqb x 1 ≡ false → x ≡ 0
no_one zero l h = refl
no_one (suc zero) l h = absurd (both_ways (eqb 1 1) h refl)
no_one (suc (suc x)) l h = absurd (omega arith)

-- what is left without the lowest node
pub without_lowest : (n u v : ℕ) → Lowest (set_of n) u →
    has (set_of (bit_and n (n - 1))) v ≡ (has (set_of n) v && not (eqb v u))
without_lowest n u v h =
    let one = eqb-true (bit_at n u) 1 h.in_set in
    let zeros : (i : ℕ) → i < u → bit_at n i ≡ 0 = λ i l. no_one (bit_at n i) (bit_at-lt n i) (h.none_lower i l) in
    and_has n (n - 1) v ∙ elim (cases_eq v u) [
      | inl e ↦
          let none : has (set_of (n - 1)) v ≡ false =
          ap (has (set_of (n - 1))) e ∙ is_one (bit_at (n - 1) u) 0 (off u n one zeros) in
          ap (λ b. has (set_of n) v && b) (none ∙ sym (ap not (eq-eqb v u e)))
      | inr e ↦ elim (cases_lt v u) [
        | inl l ↦
            let none = h.none_lower v l in
            ap (λ b. b && has (set_of (n - 1)) v) none ∙ sym (ap (λ b. b && not (eqb v u)) none)
        | inr l ↦
            let same = is_one (bit_at (n - 1) v) (bit_at n v) (same_above u n v one zeros (omega arith)) in
            ap (λ b. has (set_of n) v && b) same ∙
            (twice (has (set_of n) v) ∙ sym (ap (λ b. has (set_of n) v && not b) (ne_eqb v u e)))
      ]
    ]
