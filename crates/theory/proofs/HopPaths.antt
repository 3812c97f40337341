-- Following the next hops leads there, at the least cost, and past no node twice. Assumes nothing.
use Rattle.std.proofs.Common.{◌≡◌, ℕ, zero, suc, ◌+◌, ◌*◌, ◌<◌, ◌≤◌, false, ◌||◌, List, [], ◌∷◌, length, Some, None, Option, sym, refl, ap, ◌∙◌, inl, inr, arith}
use Rattle.std.proofs.lemmas.Bool.{cases_lt, cases_eq}
use Rattle.theory.specs.NextHop.{next_hop, followed, hop_or, path_by, path, at_hop, uses_by, uses}
use Rattle.theory.specs.Distance.{IsPath, path_cost, distance}
use Rattle.theory.specs.Network.{joins, Network, Lawful, LinkId}
use Rattle.theory.specs.Laws.{Leads, NotIn, Once, NoNodeTwice, FewHops, Bounded}
use Rattle.theory.proofs.DistanceLaws.{distance_self}
use Rattle.theory.proofs.NextHops.{next_hop_is, next_hop_where, next_hop_none}
use Rattle.theory.proofs.Distances.{rank, rank_most, rank_less, rank_falls, dist_distance}
use Rattle.theory.proofs.Paths.{some_inj, none_some}

-- how many nodes are nearer to d than a, which bounds the hops of the path from a
abbrev pub rank_of : Network → ℕ → Option ℕ → ℕ
rank_of z d None = 0
rank_of z d (Some c) = rank z d c

abbrev pub hops : Network → ℕ → ℕ → ℕ
hops z d a = rank_of z d (distance z d a)

pub hops_most : (z : Network) (d a : ℕ) → hops z d a ≤ z.n
hops_most z d a = go (distance z d a)
  where
    go : (f : Option ℕ) → rank_of z d f ≤ z.n
    go None = omega arith
    go (Some c) = rank_most z d c

pub hops_less : (z : Network) → Lawful z → (d a c : ℕ) → a < z.n → distance z d a ≡ Some c → hops z d a < z.n
hops_less z g d a c l p = rw p (rank_less z d a c l (dist_distance z g d a c p))

pub hops_fall : (z : Network) → Lawful z → (d a e : ℕ) → next_hop z d a ≡ Some e → hops z d e < hops z d a
hops_fall z g d a e p =
    let x = (next_hop_is z d a e p).near in
    rw (x.here, x.there) (rank_falls z g d e x.rest (z.cost a e + x.rest) (g.within a e x.link).1 (dist_distance z g d e x.rest x.there) (omega (arith, x.link)))

-- what holds where there is no next hop, and at a node if at its next hop, holds everywhere
by_fuel : (z : Network) → Lawful z → (d : ℕ) (P : ℕ → Type 0) → ((a : ℕ) → next_hop z d a ≡ None → P a) → ((a e : ℕ) → next_hop z d a ≡ Some e → P e → P a) → (k a : ℕ) → hops z d a ≤ k → (h : Option ℕ) → next_hop z d a ≡ h → P a
by_fuel z g d P stop go k a l None p = stop a p
by_fuel z g d P stop go zero a l (Some e) p = absurd (omega (arith, hops_fall z g d a e p))
by_fuel z g d P stop go (suc k) a l (Some e) p = go a e p (by_fuel z g d P stop go k e (omega (arith, hops_fall z g d a e p)) (next_hop z d e) refl)

pub by_next_hops : (z : Network) → Lawful z → (d : ℕ) (P : ℕ → Type 0) → ((a : ℕ) → next_hop z d a ≡ None → P a) → ((a e : ℕ) → next_hop z d a ≡ Some e → P e → P a) → (a : ℕ) → P a
by_next_hops z g d P stop go a = by_fuel z g d P stop go z.n a (hops_most z d a) (next_hop z d a) refl

-- more steps than are needed change nothing

path_none : (k : ℕ) (z : Network) (d a : ℕ) → next_hop z d a ≡ None → path_by k z d a ≡ []
unfolding path_by
path_none zero z d a p = refl
path_none (suc k) z d a p = ap (λ h. followed h (path_by k z d (hop_or a h))) p

path_one : (k : ℕ) (z : Network) (d a e : ℕ) → next_hop z d a ≡ Some e → path_by (suc k) z d a ≡ (e ∷ path_by k z d e)
unfolding path_by
path_one k z d a e p = ap (λ h. followed h (path_by k z d (hop_or a h))) p

path_enough : (k j : ℕ) (z : Network) → Lawful z → (d a : ℕ) → hops z d a ≤ k → hops z d a ≤ j → (h : Option ℕ) → next_hop z d a ≡ h → path_by k z d a ≡ path_by j z d a
path_enough k j z g d a l m None p = path_none k z d a p ∙ sym (path_none j z d a p)
path_enough zero j z g d a l m (Some e) p = absurd (omega (arith, hops_fall z g d a e p))
path_enough (suc k) zero z g d a l m (Some e) p = absurd (omega (arith, hops_fall z g d a e p))
path_enough (suc k) (suc j) z g d a l m (Some e) p =
    let f = hops_fall z g d a e p in
    path_one k z d a e p ∙ (ap (λ ws. e ∷ ws) (path_enough k j z g d e (omega arith) (omega arith) (next_hop z d e) refl) ∙ sym (path_one j z d a e p))

uses_by_none : (k : ℕ) (z : Network) (r : LinkId) (d a : ℕ) → next_hop z d a ≡ None → uses_by k z r d a ≡ false
unfolding uses_by
uses_by_none zero z r d a p = refl
uses_by_none (suc k) z r d a p = ap (at_hop (λ y. joins r a y || uses_by k z r d y)) p

uses_by_one : (k : ℕ) (z : Network) (r : LinkId) (d a e : ℕ) → next_hop z d a ≡ Some e → uses_by (suc k) z r d a ≡ (joins r a e || uses_by k z r d e)
unfolding uses_by
uses_by_one k z r d a e p = ap (at_hop (λ y. joins r a y || uses_by k z r d y)) p

uses_by_enough : (k j : ℕ) (z : Network) → Lawful z → (r : LinkId) (d a : ℕ) → hops z d a ≤ k → hops z d a ≤ j → (h : Option ℕ) → next_hop z d a ≡ h → uses_by k z r d a ≡ uses_by j z r d a
uses_by_enough k j z g r d a l m None p = uses_by_none k z r d a p ∙ sym (uses_by_none j z r d a p)
uses_by_enough zero j z g r d a l m (Some e) p = absurd (omega (arith, hops_fall z g d a e p))
uses_by_enough (suc k) zero z g r d a l m (Some e) p = absurd (omega (arith, hops_fall z g d a e p))
uses_by_enough (suc k) (suc j) z g r d a l m (Some e) p =
    let f = hops_fall z g d a e p in
    uses_by_one k z r d a e p ∙ (ap (λ b. joins r a e || b) (uses_by_enough k j z g r d e (omega arith) (omega arith) (next_hop z d e) refl) ∙ sym (uses_by_one j z r d a e p))

-- so that the path, and what it uses, go by the next hops alone

pub path_stop : (z : Network) (d a : ℕ) → next_hop z d a ≡ None → path z d a ≡ []
path_stop z d a p = path_none z.n z d a p

pub path_to : (z : Network) → Lawful z → (d a e : ℕ) → next_hop z d a ≡ Some e → path z d a ≡ (e ∷ path z d e)
path_to z g d a e p =
    path_enough z.n (suc z.n) z g d a (hops_most z d a) (omega (arith, hops_most z d a)) (next_hop z d a) refl ∙ path_one z.n z d a e p

pub uses_stop : (z : Network) (r : LinkId) (d a : ℕ) → next_hop z d a ≡ None → uses z r d a ≡ false
uses_stop z r d a p = uses_by_none z.n z r d a p

pub uses_to : (z : Network) → Lawful z → (r : LinkId) (d a e : ℕ) → next_hop z d a ≡ Some e → uses z r d a ≡ (joins r a e || uses z r d e)
uses_to z g r d a e p =
    uses_by_enough z.n (suc z.n) z g r d a (hops_most z d a) (omega (arith, hops_most z d a)) (next_hop z d a) refl ∙ uses_by_one z.n z r d a e p

-- where there is a path and no next hop, it is the end
pub stop_end : (z : Network) → Lawful z → (d a c : ℕ) → next_hop z d a ≡ None → distance z d a ≡ Some c → (a ≡ d) × (c ≡ 0)
stop_end z g d a c p q =
    elim (cases_eq a d) [
      | inl e ↦ (e, some_inj c 0 (sym q ∙ (ap (λ x. distance z d x) e ∙ distance_self z g d)))
      | inr h ↦ let t = next_hop_where z g d a c h q in absurd (none_some t.0 (sym p ∙ t.1))
    ]

-- the path by next hops

pub leads : Leads
unfolding path_cost
leads z g d = by_next_hops z g d (λ a. (c : ℕ) → distance z d a ≡ Some c → IsPath z d a (path z d a) × (path_cost z a (path z d a) ≡ c))
    (λ a p c q. let s = stop_end z g d a c p q in rw (path_stop z d a p) (s.0, omega (arith, s.1)))
    (λ a e p i c q.
    let x = (next_hop_is z d a e p).near in
    let j = i x.rest x.there in
    let k : c ≡ z.cost a e + x.rest = some_inj c (z.cost a e + x.rest) (sym q ∙ x.here) in
    rw (path_to z g d a e p) ((x.link, j.0), omega (arith, j.1)))

-- along the path the distance falls, so that no node comes twice

abbrev Lower : Network → ℕ → ℕ → List ℕ → Type 0
Lower z d c [] = Unit {0}
Lower z d c (y ∷ ys) = ((b : ℕ) × (distance z d y ≡ Some b) × (b < c)) × Lower z d c ys

lower_more : (z : Network) (d c m : ℕ) (ws : List ℕ) → c ≤ m → Lower z d c ws → Lower z d m ws
lower_more z d c m [] h l = tt
lower_more z d c m (y ∷ ys) h l = ((l.0.0, l.0.1, omega (arith, l.0.2)), lower_more z d c m ys h l.1)

lower_path : (z : Network) → Lawful z → (d a c : ℕ) → distance z d a ≡ Some c → Lower z d c (path z d a)
lower_path z g d = by_next_hops z g d (λ a. (c : ℕ) → distance z d a ≡ Some c → Lower z d c (path z d a))
    (λ a p c q. rw (path_stop z d a p) tt)
    (λ a e p i c q.
    let x = (next_hop_is z d a e p).near in
    let k : c ≡ z.cost a e + x.rest = some_inj c (z.cost a e + x.rest) (sym q ∙ x.here) in
    rw (path_to z g d a e p) ((x.rest, x.there, omega (arith, x.link)), lower_more z d x.rest c (path z d e) (omega arith) (i x.rest x.there)))

lower_apart : (z : Network) (d c a : ℕ) (ws : List ℕ) → distance z d a ≡ Some c → Lower z d c ws → NotIn a ws
lower_apart z d c a [] p l = tt
lower_apart z d c a (y ∷ ys) p l =
    (λ e. let h : c ≡ l.0.0 = some_inj c l.0.0 (sym p ∙ (ap (λ v. distance z d v) e ∙ l.0.1)) in omega (arith, l.0.2), lower_apart z d c a ys p l.1)

pub once : NoNodeTwice
once z g d = by_next_hops z g d (λ a. Once (a ∷ path z d a))
    (λ a p. rw (path_stop z d a p) (tt, tt))
    (λ a e p i.
    let x = (next_hop_is z d a e p).near in
    let l = lower_path z g d a (z.cost a e + x.rest) x.here in
    rw (path_to z g d a e p) (lower_apart z d (z.cost a e + x.rest) a (e ∷ path z d e) x.here (rw (path_to z g d a e p) at l), i))

pub path_hops : (z : Network) → Lawful z → (d a : ℕ) → length (path z d a) ≤ hops z d a
path_hops z g d = by_next_hops z g d (λ a. length (path z d a) ≤ hops z d a)
    (λ a p. rw (path_stop z d a p) (omega arith))
    (λ a e p i. rw (path_to z g d a e p) (omega (arith, hops_fall z g d a e p)))

pub few_hops : FewHops
few_hops z g d a l = go (distance z d a) refl
  where
    go : (f : Option ℕ) → distance z d a ≡ f → length (path z d a) < z.n
    go None p = rw (path_stop z d a (next_hop_none z d a p)) (omega arith)
    go (Some c) p = omega (arith, path_hops z g d a, hops_less z g d a c l p)

cost_most : (z : Network) (m : ℕ) → ((x y : ℕ) → z.cost x y ≤ m) → (a : ℕ) (ws : List ℕ) → path_cost z a ws ≤ m * length ws
unfolding path_cost
cost_most z m h a [] = omega arith
cost_most z m h a (y ∷ ys) = omega (arith, h a y, cost_most z m h y ys)

-- outside the network a node reaches only itself
outside : (z : Network) → Lawful z → (d a c : ℕ) → z.n ≤ a → distance z d a ≡ Some c → c ≡ 0
unfolding path_cost
outside z g d a c l p = let f = (dist_distance z g d a c p).found in go f.nodes f.path f.cost
  where
    go : (ws : List ℕ) → IsPath z d a ws → path_cost z a ws ≡ c → c ≡ 0
    go [] w e = sym e
    go (y ∷ ys) w e = absurd (omega (arith, (g.within a y w.0).0))

pub bounded : Bounded
bounded z g s d a c p = elim (cases_lt a z.n) [
  | inl l ↦ omega (arith, (leads z g d a c p).1, cost_most z 65535 s.light a (path z d a), few_hops z g d a l, s.few)
  | inr l ↦ omega (arith, outside z g d a c l p)
]
