-- As long as something can change, something that brings the end nearer can happen.
use Rattle.std.proofs.Common.{◌≡◌, ℕ, zero, suc, ◌<◌, ◌≤◌, Bool, true, false, not, ◌&&◌, ltb, List, [], ◌∷◌, length, is_some, sym, refl, ap, ◌∙◌, subst, inl, inr, arith}
use Rattle.std.proofs.lemmas.Bool.{both_ways, not-true, not-false, ltb-true, cases_lt, and_parts, cases_Bool, and_cases, not_from_false}
use Rattle.protocol.specs.Failed.{after, Failed}
use Rattle.protocol.specs.Progress.{changes, CanEnd, Quiet}
use Rattle.protocol.specs.System.{step, run, count_if, System, Event, Arrive, Switch}
use Rattle.protocol.specs.Router.{Router}
use Rattle.protocol.specs.Switching.{none_below, may_in, may}
use Rattle.protocol.proofs.Said.{nth_within}
use Rattle.protocol.proofs.Touched.{greatest}
use Rattle.protocol.proofs.Measure.{todo, falls}
use Rattle.protocol.proofs.Shape.{build, Shape, Unaware, Switching, Settled}
use Rattle.protocol.proofs.Steps.{held_later, Held, stepped, held}
use Rattle.protocol.proofs.Changes.{none_at}
use Rattle.theory.specs.Network.{Network, LinkId}

-- nothing more can change, or this event does: a message that has not come, or a switch that may be
data Possible (σ : System) : Type 0 where
  quiet : Quiet σ → Possible σ
  can : (e : Event) → changes e σ ≡ true → Possible σ

none_miss : (k : ℕ) (p : ℕ → Bool) → none_below k p ≡ false → ((u : ℕ) → u < k → p u ≡ false) → ⊥
unfolding none_below
none_miss zero p h none = both_ways true h refl
none_miss (suc k) p h none = elim (and_cases (not (p k)) (none_below k p) h) [
  | inl e ↦ both_ways (p k) (none k (omega arith)) (not-false (p k) e)
  | inr e ↦ none_miss k p e (λ u b. none u (omega arith))
]

module _ (z : Network) (r : LinkId) (G : ℕ → List LinkId) (σ : System) (H : Held z r G σ) where
  -- nobody may switch for a destination that is not there
  may_inside : (u d : ℕ) → may (σ.routers u) d ≡ true → (u < z.n) × (d < z.n)
  may_inside u d t = elim (cases_lt u z.n) [
    | inl b ↦ (b, at (H.inv.shape u) (sym (ap (λ (s : Router). may s d) (H.inv.is u b)) ∙ t))
    | inr b ↦ absurd (both_ways (may (σ.routers u) d) (ap (λ f. may_in (σ.routers u) d f) (H.inv.others u b)) t)
  ]
    where
      at : (S : Shape) → may (build z r G u S) d ≡ true → d < z.n
      at (Unaware es) e = absurd (both_ways false refl e)
      at (Switching sw pe) e = ltb-true d z.n (and_parts (ltb d z.n) (not (sw d) && none_below z.n (pe d)) e).0
      at Settled e = absurd (both_ways false refl e)

  find : Possible σ
  find = elim (greatest (length σ.said) (λ k. changes (Arrive k) σ) (λ k. 0)) [
    | inr w ↦ can (Arrive w.v) w.passes
    | inl came ↦ elim (greatest z.n (λ u. not (none_below z.n (may (σ.routers u)))) (λ u. 0)) [
      | inr w ↦ elim (greatest z.n (may (σ.routers w.v)) (λ d. 0)) [
        | inr v ↦ can (Switch w.v v.v) v.passes
        | inl none ↦ absurd (none_miss z.n (may (σ.routers w.v)) (not-true (none_below z.n (may (σ.routers w.v))) w.passes) none)
      ]
      | inl none ↦
          quiet (record {
            came = λ k m e. elim (cases_Bool (σ.came k)) [
              | inl y ↦ y
              | inr y ↦
                  let t : changes (Arrive k) σ ≡ true = ap (λ o. is_some o && not (σ.came k)) e ∙ not_from_false (σ.came k) y in
                  absurd (both_ways (changes (Arrive k) σ) (came k (nth_within σ.said k m e)) t)
            ];
            still = λ u d. elim (cases_Bool (may (σ.routers u) d)) [
              | inr y ↦ y
              | inl y ↦
                  let b = may_inside u d y in
                  absurd (both_ways (may (σ.routers u) d) (none_at z.n (may (σ.routers u)) (not-false (none_below z.n (may (σ.routers u))) (none u b.0)) d b.1) y)
            ];
          })
    ]
  ]

module _ (z : Network) (r : LinkId) (ω : System) (F : Failed z r ω) where
  end_by : (k : ℕ) (σ : System) (H : Held z r F.calm.gone σ) → todo z σ H.inv.shape ≤ k → (fs : List Event) × Quiet (run fs σ)
  unfolding run
  end_by zero σ H le = go (find z r F.calm.gone σ H)
    where
      go : Possible σ → (fs : List Event) × Quiet (run fs σ)
      go (quiet q) = ([], q)
      go (can e t) = absurd (omega (arith, subst (λ b. count_if b (todo z (step e σ) (stepped z r ω F e σ H).inv.shape) ≤ todo z σ H.inv.shape) t (falls z r ω F e σ H)))
  end_by (suc k) σ H le = go (find z r F.calm.gone σ H) (λ e l. end_by k (step e σ) (held_later z r F.calm.gone σ (step e σ) H (stepped z r ω F e σ H)) l)
    where
      go : Possible σ → ((e : Event) → todo z (step e σ) (stepped z r ω F e σ H).inv.shape ≤ k → (fs : List Event) × Quiet (run fs (step e σ))) → (fs : List Event) × Quiet (run fs σ)
      go (quiet q) ih = ([], q)
      go (can e t) ih =
          let w = ih e (omega (arith, subst (λ b. count_if b (todo z (step e σ) (stepped z r ω F e σ H).inv.shape) ≤ todo z σ H.inv.shape) t (falls z r ω F e σ H))) in
          (e ∷ w.0, w.1)

pub can_end : CanEnd
can_end z r ω F es = let H = held z r ω F es in end_by z r ω F (todo z (after r ω es) H.inv.shape) (after r ω es) H (omega arith)
