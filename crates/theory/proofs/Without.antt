-- The network without a link: nothing is nearer, and who does not use the link keeps distance, next hop and path. Assumes nothing.
use Rattle.std.proofs.Common.{◌≡◌, ℕ, ◌+◌, ◌<◌, true, false, cond, List, [], ◌∷◌, Some, None, Option, sym, refl, ap, ◌∙◌, ap₂, inl, inr, arith}
use Rattle.std.proofs.lemmas.Bool.{cases_Bool, or_parts, cond-true, cond-false}
use Rattle.theory.specs.NextHop.{next_hop, path, uses, AsNear}
use Rattle.theory.specs.Distance.{IsPath, path_cost, distance}
use Rattle.theory.specs.Network.{joins, without, Network, Lawful, LinkId}
use Rattle.theory.specs.RepairLaws.{NotNearer, Untouched, Kept}
use Rattle.theory.proofs.DistanceLaws.{distance_least, distance_self, distance_over}
use Rattle.theory.proofs.NextHops.{next_hop_is, is_next_hop, next_hop_here, next_hop_none}
use Rattle.theory.proofs.Joins.{joins_symmetric}
use Rattle.theory.proofs.HopPaths.{by_next_hops, path_stop, path_to, uses_to, stop_end}
use Rattle.theory.proofs.Paths.{some_inj, none_some, within_more, sound}

pub cost_left : (r : LinkId) (z : Network) (x y : ℕ) → joins r x y ≡ false → (without r z).cost x y ≡ z.cost x y
cost_left r z x y f = cond-false (joins r x y) 0 (z.cost x y) f

pub cost_failed : (r : LinkId) (z : Network) (x y : ℕ) → joins r x y ≡ true → (without r z).cost x y ≡ 0
cost_failed r z x y t = cond-true (joins r x y) 0 (z.cost x y) t

pub link_left_lem : (r : LinkId) (z : Network) (x y : ℕ) → 0 < (without r z).cost x y → joins r x y ≡ false
link_left_lem r z x y h = elim (cases_Bool (joins r x y)) [ inl t ↦ absurd (omega (arith, cost_failed r z x y t)) | inr f ↦ f ]

pub link_kept : (r : LinkId) (z : Network) (x y : ℕ) → 0 < (without r z).cost x y → 0 < z.cost x y
link_kept r z x y h = omega (arith, cost_left r z x y (link_left_lem r z x y h))

pub lawful_without : (r : LinkId) (z : Network) → Lawful z → Lawful (without r z)
lawful_without r z g =
    record {
      symmetric = λ a e. ap₂ (λ b c. cond b 0 c) (joins_symmetric r a e) (g.symmetric a e);
      loopless = λ a. elim (cases_Bool (joins r a a)) [ inl t ↦ cost_failed r z a a t | inr f ↦ cost_left r z a a f ∙ g.loopless a ];
      within = λ a e h. g.within a e (link_kept r z a e h);
    }

-- a path that is left was one before, at the same cost

pub path_kept : (r : LinkId) (z : Network) (d a : ℕ) (ws : List ℕ) → IsPath (without r z) d a ws → IsPath z d a ws
path_kept r z d a [] w = w
path_kept r z d a (y ∷ ys) w = (link_kept r z a y w.0, path_kept r z d y ys w.1)

pub cost_kept : (r : LinkId) (z : Network) (d a : ℕ) (ws : List ℕ) → IsPath (without r z) d a ws → path_cost (without r z) a ws ≡ path_cost z a ws
unfolding path_cost
cost_kept r z d a [] w = refl
cost_kept r z d a (y ∷ ys) w = omega (arith, cost_kept r z d y ys w.1, cost_left r z a y (link_left_lem r z a y w.0))

-- nothing is nearer
pub not_nearer : NotNearer
not_nearer z g r d a c p =
    let s = sound z.n (without r z) d a c p in
    within_more (distance z d a) (path_cost z a s.nodes) c (omega (arith, cost_kept r z d a s.nodes s.path, s.cost)) (distance_least z g d a s.nodes (path_kept r z d a s.nodes s.path))

pub same_distance_lem : (r : LinkId) (z : Network) → Lawful z → (d a : ℕ) → uses z r d a ≡ false → (c : ℕ) → distance z d a ≡ Some c → distance (without r z) d a ≡ Some c
same_distance_lem r z g d = by_next_hops z g d (λ a. uses z r d a ≡ false → (c : ℕ) → distance z d a ≡ Some c → distance (without r z) d a ≡ Some c)
    (λ a p f c q.
    let s = stop_end z g d a c p q in
    rw (s.0, s.1) (distance_self (without r z) (lawful_without r z g) d))
    (λ a e p i f c q.
    let x = (next_hop_is z d a e p).near in
    let h = or_parts (joins r a e) (uses z r d e) (sym (uses_to z g r d a e p) ∙ f) in
    let k = cost_left r z a e h.0 in
    let j = distance_over (without r z) (lawful_without r z g) d a e x.rest (omega (arith, k, x.link)) (i h.1 x.rest x.there) in
    let l = not_nearer z g r d a j.0 j.1 in
    let m : c ≡ z.cost a e + x.rest = some_inj c (z.cost a e + x.rest) (sym q ∙ x.here) in
    let u : c ≡ l.0 = some_inj c l.0 (sym q ∙ l.1) in
    let v : j.0 ≡ c = omega (arith, k, j.2, l.2) in
    j.1 ∙ ap Some v)

-- a neighbour that is best afterwards was best before, where the distance is the same
pub next_kept : (r : LinkId) (z : Network) → Lawful z → (d a y : ℕ) → distance (without r z) d a ≡ distance z d a → AsNear (without r z) d a y → AsNear z d a y
next_kept r z g d a y p n =
    let k = cost_left r z a y (link_left_lem r z a y n.link) in
    let h : 0 < z.cost a y = link_kept r z a y n.link in
    let l = not_nearer z g r d y n.rest n.there in
    let j = distance_over z g d a y l.0 h l.1 in
    let u : (without r z).cost a y + n.rest ≡ j.0 = some_inj ((without r z).cost a y + n.rest) j.0 (sym n.here ∙ (p ∙ j.1)) in
    let v : j.0 ≡ z.cost a y + l.0 = omega (arith, k, l.2, j.2) in
    record { rest = l.0; link = h; there = l.1; here = j.1 ∙ ap Some v }

pub same_hop_lem : (r : LinkId) (z : Network) → Lawful z → (d a c : ℕ) → uses z r d a ≡ false → distance z d a ≡ Some c → next_hop (without r z) d a ≡ next_hop z d a
same_hop_lem r z g d a c f q = go (next_hop z d a) refl
  where
    go : (h : Option ℕ) → next_hop z d a ≡ h → next_hop (without r z) d a ≡ next_hop z d a
    go None p = rw (stop_end z g d a c p q).0 (next_hop_here (without r z) d ∙ sym (next_hop_here z d))
    go (Some e) p =
        let s = next_hop_is z d a e p in
        let x = s.near in
        let h = or_parts (joins r a e) (uses z r d e) (sym (uses_to z g r d a e p) ∙ f) in
        let k = cost_left r z a e h.0 in
        let b = same_distance_lem r z g d a f c q in
        let n : AsNear (without r z) d a e =
        record { rest = x.rest; link = omega (arith, k, x.link); there = same_distance_lem r z g d e h.1 x.rest x.there; here = b ∙ (sym q ∙ (x.here ∙ ap (λ v. Some (v + x.rest)) (sym k))) } in
        is_next_hop (without r z) (lawful_without r z g) d a e (record { elsewhere = s.elsewhere; near = n; lowest = λ y m. s.lowest y (next_kept r z g d a y (b ∙ sym q) m) }) ∙ sym p

pub same_path_lem : (r : LinkId) (z : Network) → Lawful z → (d a : ℕ) → uses z r d a ≡ false → (c : ℕ) → distance z d a ≡ Some c → path (without r z) d a ≡ path z d a
same_path_lem r z g d = by_next_hops z g d (λ a. uses z r d a ≡ false → (c : ℕ) → distance z d a ≡ Some c → path (without r z) d a ≡ path z d a)
    (λ a p f c q. path_stop (without r z) d a (same_hop_lem r z g d a c f q ∙ p) ∙ sym (path_stop z d a p))
    (λ a e p i f c q.
    let x = (next_hop_is z d a e p).near in
    let h = or_parts (joins r a e) (uses z r d e) (sym (uses_to z g r d a e p) ∙ f) in
    path_to (without r z) (lawful_without r z g) d a e (same_hop_lem r z g d a c f q ∙ p) ∙ (ap (λ ws. e ∷ ws) (i h.1 x.rest x.there) ∙ sym (path_to z g d a e p)))

-- where there was no path there is none
pub still_none : (r : LinkId) (z : Network) → Lawful z → (d a : ℕ) → distance z d a ≡ None → distance (without r z) d a ≡ None
still_none r z g d a p = go (distance (without r z) d a) refl
  where
    go : (f : Option ℕ) → distance (without r z) d a ≡ f → distance (without r z) d a ≡ None
    go None q = q
    go (Some c) q = let h = not_nearer z g r d a c q in absurd (none_some h.0 (sym p ∙ h.1))

-- so all is the same wherever the link isn't used
pub untouched : Untouched
untouched z g r d a f = go (distance z d a) refl
  where
    go : (v : Option ℕ) → distance z d a ≡ v → Kept z r d a
    go None p =
        let q = still_none r z g d a p in
        let h = next_hop_none z d a p in
        let k = next_hop_none (without r z) d a q in
        record { same_distance = q ∙ sym p; same_hop = k ∙ sym h; same_path = path_stop (without r z) d a k ∙ sym (path_stop z d a h) }
    go (Some c) p = record { same_distance = same_distance_lem r z g d a f c p ∙ sym p; same_hop = same_hop_lem r z g d a c f p; same_path = same_path_lem r z g d a f c p }
