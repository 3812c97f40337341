-- A piece of a path by next hops is the path by next hops to its own end. Assumes nothing.
-- x lies on a least path from a to d
use Rattle.std.proofs.Common.{◌≡◌, ℕ, ◌+◌, List, [], ◌∷◌, ◌++◌, Some, None, Option, sym, refl, ap, ◌∙◌, subst, arith}
use Rattle.theory.specs.NextHop.{next_hop, path, AsNear}
use Rattle.theory.specs.Distance.{distance}
use Rattle.theory.specs.Network.{Network, Lawful}
use Rattle.theory.specs.Laws.{Piece}
use Rattle.theory.proofs.DistanceLaws.{distance_self, distance_over, distance_by_lem}
use Rattle.theory.proofs.NextHops.{next_hop_is, is_next_hop, next_hop_here}
use Rattle.theory.proofs.HopPaths.{path_stop, path_to}
use Rattle.theory.proofs.Paths.{some_inj, nil_cons}

pub record On (z : Network) (d a x : ℕ) : Type 0 where
  pub before : ℕ
  pub after : ℕ
  pub to_it : distance z x a ≡ Some before
  pub from_it : distance z d x ≡ Some after
  pub whole : distance z d a ≡ Some (before + after)

-- the next hop for d leads to any node on the rest of the path by a least path too
near_on : (z : Network) → Lawful z → (d a e x : ℕ) → AsNear z d a e → On z d e x → AsNear z x a e
near_on z g d a e x n o =
    let h = distance_over z g x a e o.before n.link o.to_it in
    let t = distance_by_lem z g d x a h.0 o.after h.1 o.from_it in
    let r : n.rest ≡ o.before + o.after = some_inj n.rest (o.before + o.after) (sym n.there ∙ o.whole) in
    let w : z.cost a e + n.rest ≡ t.0 = some_inj (z.cost a e + n.rest) t.0 (sym n.here ∙ t.1) in
    let v : h.0 ≡ z.cost a e + o.before = omega (arith, h.2, t.2) in
    record { rest = o.before; link = n.link; there = o.to_it; here = h.1 ∙ ap Some v }

-- and whatever neighbour does so for x does so for d
near_whole : (z : Network) → Lawful z → (d a e x y : ℕ) → AsNear z d a e → On z d e x → AsNear z x a y → AsNear z d a y
near_whole z g d a e x y n o m =
    let k = near_on z g d a e x n o in
    let s : z.cost a y + m.rest ≡ z.cost a e + k.rest = some_inj (z.cost a y + m.rest) (z.cost a e + k.rest) (sym m.here ∙ k.here) in
    let b : k.rest ≡ o.before = some_inj k.rest o.before (sym k.there ∙ o.to_it) in
    let r : n.rest ≡ o.before + o.after = some_inj n.rest (o.before + o.after) (sym n.there ∙ o.whole) in
    let t = distance_by_lem z g d x y m.rest o.after m.there o.from_it in
    let h = distance_over z g d a y t.0 m.link t.1 in
    let w : z.cost a e + n.rest ≡ h.0 = some_inj (z.cost a e + n.rest) h.0 (sym n.here ∙ h.1) in
    let v : h.0 ≡ z.cost a y + t.0 = omega (arith, h.2, t.2) in
    record { rest = t.0; link = m.link; there = t.1; here = h.1 ∙ ap Some v }

pub record OnStep (z : Network) (d a e x : ℕ) : Type 0 where
  pub hop : next_hop z x a ≡ Some e
  pub on : On z d a x

-- so the next hop for d is the next hop for every node on the rest of the path
on_step : (z : Network) → Lawful z → (d a e x : ℕ) → next_hop z d a ≡ Some e → On z d e x → OnStep z d a e x
on_step z g d a e x p o =
    let s = next_hop_is z d a e p in
    let n = s.near in
    let k = near_on z g d a e x n o in
    let b : k.rest ≡ o.before = some_inj k.rest o.before (sym k.there ∙ o.to_it) in
    let r : n.rest ≡ o.before + o.after = some_inj n.rest (o.before + o.after) (sym n.there ∙ o.whole) in
    record {
      hop = is_next_hop z g x a e (record {
        elsewhere = λ q.
            let i : z.cost a e + k.rest ≡ 0 = some_inj (z.cost a e + k.rest) 0 (sym k.here ∙ (ap (λ v. distance z x v) q ∙ distance_self z g x)) in
            omega (arith, k.link);
        near = k;
        lowest = λ y m. s.lowest y (near_whole z g d a e x y n o m);
      });
      on = record { before = z.cost a e + o.before; after = o.after; to_it = k.here ∙ ap (λ v. Some (z.cost a e + v)) b; from_it = o.from_it; whole = n.here ∙ ap Some (omega arith) };
    }

pub on_itself : (z : Network) → Lawful z → (d x c : ℕ) → distance z d x ≡ Some c → On z d x x
on_itself z g d x c p = record { before = 0; after = c; to_it = distance_self z g x; from_it = p; whole = p ∙ ap Some (omega arith) }

-- a path by next hops to d cut at x: up to x it is the path to x, and from there the path to d
pub record Cut (z : Network) (d a x : ℕ) (xs ys : List ℕ) : Type 0 where
  pub front : path z x a ≡ (xs ++ (x ∷ []))
  pub back : path z d x ≡ ys
  pub on : On z d a x

pub cut : (z : Network) → Lawful z → (d a x : ℕ) (xs ys : List ℕ) → path z d a ≡ (xs ++ (x ∷ ys)) → Cut z d a x xs ys
cut z g d a x [] ys p = go (next_hop z d a) refl
  where
    go : (h : Option ℕ) → next_hop z d a ≡ h → Cut z d a x [] ys
    go None q = absurd (nil_cons x ys (sym (path_stop z d a q) ∙ p))
    go (Some e) q =
        let t : (e ∷ path z d e) ≡ (x ∷ ys) = sym (path_to z g d a e q) ∙ p in
        let i : e ≡ x = cc in
        let r : next_hop z d a ≡ Some x = q ∙ ap Some i in
        let n = (next_hop_is z d a x r).near in
        let s = on_step z g d a x x r (on_itself z g d x n.rest n.there) in
        record { front = path_to z g x a x s.hop ∙ ap (λ l. x ∷ l) (path_stop z x x (next_hop_here z x)); back = subst (λ v. path z d v ≡ ys) i (cc); on = s.on }
cut z g d a x (w ∷ ws) ys p = step (next_hop z d a) refl (λ e h. cut z g d e x ws ys h)
  where
    step : (h : Option ℕ) → next_hop z d a ≡ h → ((e : ℕ) → path z d e ≡ (ws ++ (x ∷ ys)) → Cut z d e x ws ys) → Cut z d a x (w ∷ ws) ys
    step None q i = absurd (nil_cons w (ws ++ (x ∷ ys)) (sym (path_stop z d a q) ∙ p))
    step (Some e) q i =
        let t : (e ∷ path z d e) ≡ (w ∷ (ws ++ (x ∷ ys))) = sym (path_to z g d a e q) ∙ p in
        let v : e ≡ w = cc in
        let u : path z d e ≡ (ws ++ (x ∷ ys)) = cc in
        let c = i e u in
        let s = on_step z g d a e x q c.on in
        record { front = path_to z g x a e s.hop ∙ (ap (λ l. e ∷ l) c.front ∙ ap (λ k. k ∷ (ws ++ (x ∷ []))) v); back = c.back; on = s.on }

pub piece : Piece
piece z g d a x y [] between after p =
    let i : a ≡ x = cc in
    let u : path z d a ≡ (between ++ (y ∷ after)) = cc in
    subst (λ v. path z y v ≡ (between ++ (y ∷ []))) i (cut z g d a y between after u).front
piece z g d a x y (b ∷ bs) between after p =
    let u : path z d a ≡ (bs ++ (x ∷ (between ++ (y ∷ after)))) = cc in
    (cut z g d x y between after (cut z g d a x bs (between ++ (y ∷ after)) u).back).front
