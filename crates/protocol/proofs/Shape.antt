-- The three states in which a router can be when one link fails: it does not know, it is switching, it has switched for all destinations.
use Rattle.std.proofs.Common.{◌≡◌, ℕ, ◌<◌, Bool, true, false, cond, not, List, [], ◌∷◌, Some, None, refl, ap, ◌∙◌, inl, inr}
use Rattle.std.proofs.lemmas.Bool.{both_ways, cases_Bool, not_from_true, not_from_false}
use Rattle.protocol.specs.Router.{idle, has_link, entry, has_switched, Router, Transition}
use Rattle.protocol.specs.Packet.{known_down}
use Rattle.protocol.proofs.Touched.{Steady}
use Rattle.protocol.proofs.Links.{link_gone, link_there}
use Rattle.theory.specs.NextHop.{next_hop}
use Rattle.theory.specs.Network.{joins, without, Network, LinkId}
use Rattle.theory.proofs.Without.{cost_left}
use Rattle.types.specs.declared.message.Switched.{Switched}

pub data Shape : Type 0 where
  Unaware : List Switched → Shape
  Switching : (ℕ → Bool) → (ℕ → ℕ → Bool) → Shape
  Settled : Shape

abbrev pub transition_of : LinkId → (ℕ → Bool) → (ℕ → ℕ → Bool) → Transition
transition_of r sw pe = record { link = r; switched = sw; pending = pe }

-- the router u of that shape; G has the links that each router had taken out before
abbrev pub build : Network → LinkId → (ℕ → List LinkId) → ℕ → Shape → Router
build z r G u (Unaware es) = record { me = u; links = z; removed = G u; transition = None; early = es }
build z r G u (Switching sw pe) = record { me = u; links = z; removed = G u; transition = Some (transition_of r sw pe); early = [] }
build z r G u Settled = idle (without r z) (r ∷ G u) u

-- it has switched for d
abbrev pub over : Shape → ℕ → Bool
over (Unaware es) d = false
over (Switching sw pe) d = sw d
over Settled d = true

-- it has learned of the failure
abbrev pub knows : Shape → Bool
knows (Unaware es) = false
knows (Switching sw pe) = true
knows Settled = true

pub over_knows : (S : Shape) (d : ℕ) → over S d ≡ true → knows S ≡ true
over_knows (Unaware es) d h = absurd (both_ways false refl h)
over_knows (Switching sw pe) d h = refl
over_knows Settled d h = refl

pub me_is : (z : Network) (r : LinkId) (G : ℕ → List LinkId) (u : ℕ) (S : Shape) → (build z r G u S).me ≡ u
me_is z r G u (Unaware es) = refl
me_is z r G u (Switching sw pe) = refl
me_is z r G u Settled = refl

-- what the specification calls switched is the same
pub switched_is : (z : Network) (r : LinkId) (G : ℕ → List LinkId) → 0 < z.cost r.a r.b → (u : ℕ) (S : Shape) (d : ℕ) → has_switched r (build z r G u S) d ≡ over S d
switched_is z r G pos u (Unaware es) d = not_from_true (has_link z r) (link_there z r pos)
switched_is z r G pos u (Switching sw pe) d = go (sw d)
  where
    go : (b : Bool) → not (has_link (cond b (without r z) z) r) ≡ b
    go true = not_from_false (has_link (without r z) r) (link_gone z r)
    go false = not_from_true (has_link z r) (link_there z r pos)
switched_is z r G pos u Settled d = not_from_false (has_link (without r z) r) (link_gone z r)

-- the next hop in use
pub entry_is : (z : Network) (r : LinkId) (G : ℕ → List LinkId) (u aim : ℕ) (S : Shape) → entry (build z r G u S) aim ≡ next_hop (cond (over S aim) (without r z) z) aim u
entry_is z r G u aim (Unaware es) = refl
entry_is z r G u aim (Switching sw pe) = refl
entry_is z r G u aim Settled = refl

pub entry_new : (z : Network) (r : LinkId) (G : ℕ → List LinkId) (u aim v : ℕ) (S : Shape) → over S aim ≡ true → next_hop (without r z) aim u ≡ Some v → entry (build z r G u S) aim ≡ Some v
entry_new z r G u aim v S t p = entry_is z r G u aim S ∙ (ap (λ b. next_hop (cond b (without r z) z) aim u) t ∙ p)

pub entry_old : (z : Network) (r : LinkId) (G : ℕ → List LinkId) (u aim v : ℕ) (S : Shape) → over S aim ≡ false → next_hop z aim u ≡ Some v → entry (build z r G u S) aim ≡ Some v
entry_old z r G u aim v S t p = entry_is z r G u aim S ∙ (ap (λ b. next_hop (cond b (without r z) z) aim u) t ∙ p)

pub entry_steady : (z : Network) (r : LinkId) (G : ℕ → List LinkId) (u aim v : ℕ) (S : Shape) → Steady z r aim u v → entry (build z r G u S) aim ≡ Some v
entry_steady z r G u aim v S k = elim (cases_Bool (over S aim)) [ inl t ↦ entry_new z r G u aim v S t k.new | inr t ↦ entry_old z r G u aim v S t k.old ]

-- another link is not down, and costs what it did
pub down_not : (z : Network) (r : LinkId) (G : ℕ → List LinkId) (u v w : ℕ) (S : Shape) →
    joins r u v ≡ false → known_down (build z r G w S) u v ≡ false
down_not z r G u v w (Unaware es) h = refl
down_not z r G u v w (Switching sw pe) h = h
down_not z r G u v w Settled h = refl

pub cost_is : (z : Network) (r : LinkId) (G : ℕ → List LinkId) (u v w : ℕ) (S : Shape) → joins r u v ≡ false → (build z r G w S).links.cost u v ≡ z.cost u v
cost_is z r G u v w (Unaware es) h = refl
cost_is z r G u v w (Switching sw pe) h = refl
cost_is z r G u v w Settled h = cost_left r z u v h
