-- Lists that have a link or not, and messages about links that are not in the list.
use Rattle.std.proofs.Common.{◌≡◌, ℕ, ◌<◌, Bool, true, false, cond, ◌&&◌, eqb, ltb, List, ◌∷◌, sym, refl, ap, ◌∙◌, subst, ap₂, inl, inr, arith}
use Rattle.std.proofs.lemmas.Bool.{ltb-false, lt-ltb, le-ltb, eq-eqb, cases_Bool, and_from, or_left, cond-false, cond_both}
use Rattle.protocol.specs.Hearing.{hear}
use Rattle.protocol.specs.Failed.{Stale}
use Rattle.protocol.specs.Order.{StaleIgnored}
use Rattle.protocol.specs.System.{go_on, System}
use Rattle.protocol.specs.Router.{same_link, has_link, among, Router, Reply, Refused, Stays, Goes}
use Rattle.theory.specs.Network.{joins, without, Network, Lawful, LinkId}
use Rattle.theory.proofs.Joins.{joins_ends}
use Rattle.theory.proofs.Without.{cost_failed}
use Rattle.types.specs.declared.fault.Refusal.TheVariants.{NoSuchLink, NotPending}
use Rattle.types.specs.declared.message.Message.{Message}
use Rattle.types.specs.declared.message.Message.TheVariants.{LinkDown}
use Rattle.types.specs.declared.message.Message.TheVariants as message
use Rattle.types.specs.declared.message.Switched.{Switched}

pub joins_self : (r : LinkId) → joins r r.a r.b ≡ true
joins_self r =
    or_left (eqb r.a r.a && eqb r.b r.b) (eqb r.a r.b && eqb r.b r.a)
    (and_from (eqb r.a r.a) (eqb r.b r.b) (eq-eqb r.a r.a refl) (eq-eqb r.b r.b refl))

pub link_gone : (z : Network) (r : LinkId) → has_link (without r z) r ≡ false
link_gone z r = le-ltb 0 ((without r z).cost r.a r.b) (omega (arith, cost_failed r z r.a r.b (joins_self r)))

pub link_there : (z : Network) (r : LinkId) → 0 < z.cost r.a r.b → has_link z r ≡ true
link_there z r h = lt-ltb 0 (z.cost r.a r.b) h

-- a link that was not there is not there without another
pub still_gone : (z : Network) (r l : LinkId) → has_link z l ≡ false → has_link (without r z) l ≡ false
still_gone z r l n = cond_both (joins r l.a l.b) 0 (z.cost l.a l.b) (λ c. ltb 0 c ≡ false) (λ t. refl) (λ t. n)

-- one that is there is another than one that is not
pub other_link : (z : Network) → Lawful z → (m l : LinkId) → 0 < z.cost m.a m.b → has_link z l ≡ false → same_link m l ≡ false
other_link z g m l h n = elim (cases_Bool (same_link m l)) [
  | inr f ↦ f
  | inl t ↦
      let c : z.cost l.a l.b ≡ z.cost m.a m.b =
      elim (joins_ends m l.a l.b t) [ inl e ↦ ap₂ (λ x y. z.cost x y) e.0 e.1 | inr e ↦ ap₂ (λ x y. z.cost x y) e.0 e.1 ∙ g.symmetric m.b m.a ] in
      absurd (omega (arith, ltb-false 0 (z.cost l.a l.b) n))
]

pub among_first : (l : LinkId) (ms : List LinkId) → among l (l ∷ ms) ≡ true
unfolding among
among_first l ms = or_left (same_link l l) (among l ms) (joins_self l)

pub stale_ignored : StaleIgnored
stale_ignored s l n w = record { taken = at true; unknown = at false }
  where
    at : (b : Bool) → among l s.removed ≡ b →
        (hear s w (LinkDown l) ≡ cond b Stays (Refused NoSuchLink)) ×
        ((m : Switched) → m.link ≡ l → hear s w (message.Switched m) ≡ Refused (cond b NotPending NoSuchLink))
    at b t = (
      cond-false (has_link s.links l) _ _ n ∙ ap (λ x. cond x Stays (Refused NoSuchLink)) t,
      λ m e.
          cond-false (has_link s.links m.link) _ _ (ap (λ x. has_link s.links x) e ∙ n) ∙
          ap (λ x. Refused (cond x NotPending NoSuchLink)) (ap (λ x. among x s.removed) e ∙ t),
    )

-- the router stays as it is, and says nothing
abbrev pub Ignored : Reply → Type 0
Ignored (Refused k) = Unit {0}
Ignored Stays = Unit {0}
Ignored (Goes s new) = ⊥

pub ignored_stays : (σ : System) (u : ℕ) (came : ℕ → Bool) (R : Reply) → Ignored R → go_on σ u came R ≡ go_on σ u came Stays
ignored_stays σ u came (Refused k) i = refl
ignored_stays σ u came Stays i = refl
ignored_stays σ u came (Goes s new) i = absurd i

pub stale_heard : (s : Router) (w : ℕ) (m : Message) → Stale s.links m → Ignored (hear s w m)
stale_heard s w (LinkDown l) n =
    let o = stale_ignored s l n w in
    elim (cases_Bool (among l s.removed)) [
      | inl t ↦ subst Ignored (sym (o.taken t).0) tt
      | inr t ↦ subst Ignored (sym (o.unknown t).0) tt
    ]
stale_heard s w (message.Switched m) n =
    let o = stale_ignored s m.link n w in
    elim (cases_Bool (among m.link s.removed)) [
      | inl t ↦ subst Ignored (sym ((o.taken t).1 m refl)) tt
      | inr t ↦ subst Ignored (sym ((o.unknown t).1 m refl)) tt
    ]
