-- Bytes behind those that were there before.
use Rattle.std.proofs.Common.{◌≡◌, ℕ, List, ◌++◌, ap, ◌∙◌, append_assoc}

-- one part, and then some more
pub behind_part : (before part mid after : List ℕ) → mid ≡ before ++ part → (more : List ℕ) × (after ≡ mid ++ more) →
    (more : List ℕ) × (after ≡ before ++ more)
behind_part before part mid after p h = (part ++ h.0, h.1 ∙ (ap (λ bs. bs ++ h.0) p ∙ append_assoc before part h.0))
