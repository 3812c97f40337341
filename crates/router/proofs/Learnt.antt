-- A router that has learnt of a failure.
use Rattle.std.proofs.Common.{◌≡◌, ℕ, Some, subst}
use Rattle.router.specs.Tables.{IsUnderWay, OnlyBelow, OwnHops}
use Rattle.router.specs.declared.transition.Transition.{Transition}
use Rattle.theory.specs.Network.{Network, without}

same : (t x : Transition) → Some t ≡ Some x → t ≡ x
same t x e = cc

pub learnt : (z : Network) (u : ℕ) (t : Transition) → OwnHops (without t.link z) u z.n t.hops → OnlyBelow z.n t.pending → IsUnderWay z u (Some t)
learnt z u t h p x e =
    (subst (λ (y : Transition). OwnHops (without y.link z) u z.n y.hops) (same t x e) h, subst (λ (y : Transition). OnlyBelow z.n y.pending) (same t x e) p)
