-- Along the post-convergence path, the nodes that the end reaches by another neighbour come first.
use Rattle.std.proofs.Common.{◌≡◌, ℕ, ◌+◌, true, false, cond, Some, None, Option, sym, refl, ap, ◌∙◌, inl, inr, arith}
use Rattle.std.proofs.lemmas.Bool.{both_ways, cases_Bool, or_parts, cond-true, cond-false}
use Rattle.theory.specs.Network.{Network, Lawful, LinkId, joins, without}
use Rattle.theory.specs.Distance.{distance}
use Rattle.theory.specs.NextHop.{AsNear, next_hop, path, uses, same}
use Rattle.theory.specs.Repair.{Repair, via, later, sends, last_reached}
use Rattle.theory.proofs.Using.{same_some}
use Rattle.theory.proofs.DistanceLaws.{distance_self, distance_over, distance_by_lem}
use Rattle.theory.proofs.NextHops.{same_eq, eq_same, next_hop_is, next_hop_where, next_hop_here}
use Rattle.theory.proofs.HopPaths.{by_next_hops, uses_to}
use Rattle.theory.proofs.Without.{cost_left, link_left_lem, lawful_without, not_nearer, untouched}
use Rattle.theory.proofs.Reached.{sends_uses}
use Rattle.theory.proofs.Repairs.{some_none}
use Rattle.repairs.specs.Ahead.{On, Ahead}
use Rattle.repairs.proofs.Right.{own_link_lem}
use Rattle.repairs.proofs.Found.{along_stop, along_step}

module _ (z : Network) (g : Lawful z) (s f d : ℕ) where
  abbrev r : LinkId
  r = record { a = s; b = f }

  abbrev y : Network
  y = without r z

  pub laws : Lawful y
  laws = lawful_without r z g

  pub on_first : Ahead y s d s
  on_first w h =
      let n = (next_hop_is y d s w h).near in
      let k = distance_over y laws w s w 0 n.link (distance_self y laws w) in
      let l = distance_by_lem y laws d w s k.0 n.rest k.1 n.there in
      let e : l.0 ≡ y.cost s w + n.rest = same_some (distance y d s) l.0 (y.cost s w + n.rest) l.1 n.here in
      record {
        w = w;
        a = y.cost s w;
        on = 0;
        b = n.rest;
        first = h;
        to_q = k.1 ∙ ap Some (omega (arith, k.2, l.2));
        from_w = distance_self y laws w;
        sum = omega arith;
        left = n.there;
        whole = n.here;
      }

  pub on_next : (q : ℕ) → On y s d q → Ahead y s d q
  on_next q o x h =
      let n = (next_hop_is y d q x h).near in
      let c = distance_over y laws x q x 0 n.link (distance_self y laws x) in
      let there : o.b ≡ y.cost q x + n.rest = same_some (distance y d q) o.b (y.cost q x + n.rest) o.left n.here in
      let k = distance_by_lem y laws x q s o.a c.0 o.to_q c.1 in
      let l = distance_by_lem y laws d x s k.0 n.rest k.1 n.there in
      let e : l.0 ≡ o.a + o.b = same_some (distance y d s) l.0 (o.a + o.b) l.1 o.whole in
      let is : k.0 ≡ o.a + y.cost q x = omega (arith, k.2, c.2, l.2) in
      let m = distance_by_lem y laws x q o.w o.on c.0 o.from_w c.1 in
      let link = (next_hop_is y d s o.w o.first).near.link in
      let p = distance_over y laws x s o.w m.0 link m.1 in
      let i : p.0 ≡ k.0 = same_some (distance y x s) p.0 k.0 p.1 k.1 in
      record {
        w = o.w;
        a = o.a + y.cost q x;
        on = o.on + y.cost q x;
        b = n.rest;
        first = o.first;
        to_q = k.1 ∙ ap Some is;
        from_w = m.1 ∙ ap Some (omega (arith, m.2, c.2, p.2, o.sum));
        sum = omega (arith, o.sum);
        left = n.there;
        whole = o.whole ∙ ap Some (omega arith);
      }

  on_next_is : (q x : ℕ) → (o : On y s d q) → (h : next_hop y d q ≡ Some x) → (on_next q o x h).a ≡ o.a + y.cost q x
  unfolding on_next
  on_next_is q x o h = refl

  -- who is reached over the link is followed by such nodes alone
  pub sends_on : (q x : ℕ) → On y s d q → next_hop y d q ≡ Some x → sends z s f q ≡ true → sends z s f x ≡ true
  sends_on q x o h so = elim (cases_Bool (sends z s f x)) [
    | inl t ↦ t
    | inr not_so ↦
        let n = (next_hop_is y d q x h).near in
        let ox = on_next q o x h in
        let u : uses z r x s ≡ false = sym (sends_uses z g r s f x (own_link_lem s f)) ∙ not_so in
        let to_x : distance z x s ≡ Some ox.a = sym (untouched z g r x s u).same_distance ∙ ox.to_q in
        let ax : ox.a ≡ o.a + y.cost q x = on_next_is q x o h in
        let cq : y.cost q x ≡ z.cost q x = cost_left r z q x (link_left_lem r z q x n.link) in
        let c = distance_over z g x q x 0 (omega (arith, n.link)) (distance_self z g x) in
        let q0 = not_nearer z g r q s o.a o.to_q in
        let k = distance_by_lem z g x q s q0.0 c.0 q0.1 c.1 in
        let ek : k.0 ≡ ox.a = same_some (distance z x s) k.0 ox.a k.1 to_x in
        let aq : q0.0 ≡ o.a = omega (arith, q0.2, k.2, c.2) in
        -- f, by which s reaches q, is as near to x
        let hq : next_hop z q s ≡ Some f = same_eq (next_hop z q s) (Some f) so in
        let nf = next_hop_is z q s f hq in
        let af : q0.0 ≡ z.cost s f + nf.near.rest = same_some (distance z q s) q0.0 (z.cost s f + nf.near.rest) q0.1 nf.near.here in
        let kf = distance_by_lem z g x q f nf.near.rest c.0 nf.near.there c.1 in
        let lf = distance_over z g x s f kf.0 nf.near.link kf.1 in
        let ef : lf.0 ≡ ox.a = same_some (distance z x s) lf.0 ox.a lf.1 to_x in
        let near_f : AsNear z x s f = record { rest = kf.0; link = nf.near.link; there = kf.1; here = to_x ∙ ap Some (omega (arith, kf.2, c.2, lf.2)) } in
        -- e, by which s reaches x, is as near to d when the link fails
        let other : s ≡ x → ⊥ = λ i.
        let zero : ox.a ≡ 0 = same_some (distance z x s) ox.a 0 to_x (ap (λ j. distance z x j) i ∙ distance_self z g x) in
        omega (arith, n.link) in
        let he = next_hop_where z g x s ox.a other to_x in
        let e = he.0 in
        let ne = next_hop_is z x s e he.1 in
        let parts = or_parts (joins r s e) (uses z r x e) (sym (uses_to z g r x s e he.1) ∙ u) in
        let ce : y.cost s e ≡ z.cost s e = cost_left r z s e parts.0 in
        let ye : distance y x e ≡ Some ne.near.rest = (untouched z g r x e parts.1).same_distance ∙ ne.near.there in
        let ae : ox.a ≡ z.cost s e + ne.near.rest = same_some (distance z x s) ox.a (z.cost s e + ne.near.rest) to_x ne.near.here in
        let ke = distance_by_lem y laws d x e ne.near.rest ox.b ye ox.left in
        let le = distance_over y laws d s e ke.0 (omega (arith, ne.near.link)) ke.1 in
        let ee : le.0 ≡ ox.a + ox.b = same_some (distance y d s) le.0 (ox.a + ox.b) le.1 ox.whole in
        let near_e : AsNear y d s e = record { rest = ke.0; link = omega (arith, ne.near.link); there = ke.1; here = ox.whole ∙ ap Some (omega (arith, ke.2, le.2)) } in
        -- w, the first node of the post-convergence path, is as near to q
        let nw = next_hop_is y d s o.w o.first in
        let cw : y.cost s o.w ≡ z.cost s o.w = cost_left r z s o.w (link_left_lem r z s o.w nw.near.link) in
        let w0 = not_nearer z g r q o.w o.on o.from_w in
        let lw = distance_over z g q s o.w w0.0 (omega (arith, nw.near.link)) w0.1 in
        let ew : lw.0 ≡ q0.0 = same_some (distance z q s) lw.0 q0.0 lw.1 q0.1 in
        let near_w : AsNear z q s o.w = record { rest = w0.0; link = omega (arith, nw.near.link); there = w0.1; here = q0.1 ∙ ap Some (omega (arith, w0.2, lw.2, o.sum)) } in
        let all : e ≡ f = omega (arith, ne.lowest f near_f, nw.lowest e near_e, nf.lowest o.w near_w) in
        absurd (both_ways (sends z s f x) not_so (eq_same (next_hop z x s) (Some f) (he.1 ∙ ap Some all)))
  ]

  abbrev reached : ℕ → Option Repair
  reached w = last_reached z s f w (path y d w)

  none_after : (q : ℕ) → On y s d q → sends z s f q ≡ true → reached q ≡ None
  none_after = by_next_hops y laws d (λ q. On y s d q → sends z s f q ≡ true → reached q ≡ None)
      (λ q h o t. sym (along_stop z y s f d q (sym h)))
      (λ q x h i o t.
      let next = i (on_next q o x h) (sends_on q x o h t) in
      along_step z y laws s f d q x (sym h) ∙ (ap (λ k. later k (cond (sends z s f q) None (via q x))) next ∙ cond-true (sends z s f q) None (via q x) t))

  -- the link to the first node that is reached over the failed one is the last that serves
  pub along_here : (w q : ℕ) → On y s d q → next_hop y d w ≡ Some q → sends z s f w ≡ false → sends z s f q ≡ true → reached w ≡ via w q
  along_here w q o h not_so so = along_step z y laws s f d w q (sym h) ∙ (ap (λ k. later k (cond (sends z s f w) None (via w q))) (none_after q o so) ∙ cond-false (sends z s f w) None (via w q) not_so)

  later_some : (k : Option Repair) (v : Repair) → later k (Some v) ≡ None → ⊥
  later_some None v e = some_none v e
  later_some (Some x) v e = some_none x e

  -- where q is reached by another neighbour, a later link serves
  pub along_further : (w q : ℕ) → On y s d q → sends z s f d ≡ true → next_hop y d w ≡ Some q → sends z s f q ≡ false → reached w ≡ reached q
  along_further w q o end h not_so = along_step z y laws s f d w q (sym h) ∙ go (reached q) refl
    where
      more : (x : ℕ) × (next_hop y d q ≡ Some x)
      more = next_hop_where y laws d q o.b (λ i. both_ways (sends z s f q) not_so (ap (sends z s f) i ∙ end)) o.left

      go : (k : Option Repair) → reached q ≡ k → later (reached q) (cond (sends z s f w) None (via w q)) ≡ reached q
      go (Some c) e = ap (λ i. later i (cond (sends z s f w) None (via w q))) e ∙ sym e
      go None e =
          let v : cond (sends z s f q) None (via q more.0) ≡ via q more.0 = cond-false (sends z s f q) None (via q more.0) not_so in
          absurd (later_some (reached more.0) (record { p = q; q = more.0 }) (sym (along_step z y laws s f d q more.0 (sym more.1) ∙ ap (later (reached more.0)) v) ∙ e))

  -- s sends nothing to itself
  pub not_itself : sends z s f s ≡ false
  not_itself = ap (λ h. same h (Some f)) (next_hop_here z s)
