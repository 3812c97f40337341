-- The repair exists wherever a path is left, and is the post-convergence path. Assumes nothing.
use Rattle.std.proofs.Common.{◌≡◌, ℕ, ◌+◌, true, false, cond, not, List, [], ◌∷◌, ◌++◌, Some, None, Option, sym, refl, ap, ◌∙◌, subst, ap₂, inl, inr, append_assoc, arith}
use Rattle.std.proofs.lemmas.Bool.{both_ways, not-true, and_parts, cases_Bool, and_from, or_left, not_from_false, cond-true, cond-false}
use Rattle.theory.specs.Repair.{via, path_without, clear, later, last_clear, repair, Repair, IsRepair}
use Rattle.theory.specs.NextHop.{next_hop, path, uses}
use Rattle.theory.specs.Distance.{IsPath, distance}
use Rattle.theory.specs.Network.{joins, without, Network, Lawful, LinkId}
use Rattle.theory.specs.RepairLaws.{LastClear, Repaired, NoRepair, SamePath, Serves}
use Rattle.theory.proofs.Pieces.{on_itself, cut, On}
use Rattle.theory.proofs.NextHops.{next_hop_is, next_hop_here, next_hop_none}
use Rattle.theory.proofs.Without.{cost_left, link_left_lem, lawful_without, untouched}
use Rattle.theory.proofs.Using.{same_some, either}
use Rattle.theory.proofs.HopPaths.{path_stop, path_to, uses_stop, uses_to, leads}
use Rattle.theory.proofs.Paths.{nil_cons}

pub some_none : (x : Repair) → Some x ≡ None → ⊥
some_none x p = let z : ◌≡◌ {A = ℕ} 0 1 = cc in omega arith

some_repair : (x y : Repair) → Some x ≡ Some y → x ≡ y
some_repair x y p = cc

clear_parts : (z : Network) (r : LinkId) (s d p q : ℕ) → clear z r s d p q ≡ true → (uses z r p s ≡ false) × (uses z r d q ≡ false)
clear_parts z r s d p q t = let h = and_parts (not (uses z r p s)) (not (uses z r d q)) t in (not-true (uses z r p s) h.0, not-true (uses z r d q) h.1)

pub clear_from_lem : (z : Network) (r : LinkId) (s d p q : ℕ) → uses z r p s ≡ false → uses z r d q ≡ false → clear z r s d p q ≡ true
clear_from_lem z r s d p q t u = and_from (not (uses z r p s)) (not (uses z r d q)) (not_from_false (uses z r p s) t) (not_from_false (uses z r d q) u)

-- a link along the nodes from p on, as last_clear finds it
record Lies (z : Network) (r : LinkId) (s d w : ℕ) (ws : List ℕ) (p q : ℕ) : Type 0 where
  before : List ℕ
  after : List ℕ
  along : (w ∷ ws) ≡ (before ++ (p ∷ (q ∷ after)))
  both_clear : clear z r s d p q ≡ true
  last : (u v : ℕ) (us vs : List ℕ) → (q ∷ after) ≡ (us ++ (u ∷ (v ∷ vs))) → clear z r s d u v ≡ true → ⊥

none_clear : (z : Network) (r : LinkId) (s d w : ℕ) (ws : List ℕ) → last_clear z r s d w ws ≡ None → (u v : ℕ) (us vs : List ℕ) → (w ∷ ws) ≡ (us ++ (u ∷ (v ∷ vs))) → clear z r s d u v ≡ true → ⊥
unfolding last_clear
none_clear z r s d w [] e u v [] vs a t = nil_cons v vs (cc)
none_clear z r s d w [] e u v (x ∷ []) vs a t = nil_cons u (v ∷ vs) (cc)
none_clear z r s d w [] e u v (x ∷ (y ∷ us)) vs a t = nil_cons y (us ++ (u ∷ (v ∷ vs))) (cc)
none_clear z r s d w (q ∷ qs) e u v us vs a t = go (last_clear z r s d q qs) refl e us a (λ h ns n. none_clear z r s d q qs h u v ns vs n t)
  where
    go : (o : Option Repair) → last_clear z r s d q qs ≡ o → later o (cond (clear z r s d w q) (via w q) None) ≡ None → (us : List ℕ) → (w ∷ (q ∷ qs)) ≡ (us ++ (u ∷ (v ∷ vs))) → (last_clear z r s d q qs ≡ None → (ns : List ℕ) → (q ∷ qs) ≡ (ns ++ (u ∷ (v ∷ vs))) → ⊥) → ⊥
    go (Some x) h k us a more = some_none x k
    go None h k [] a more =
        let i : w ≡ u = cc in
        let j : q ≡ v = cc in
        let c : clear z r s d w q ≡ true = subst (λ x. clear z r s d x q ≡ true) (sym i) (subst (λ x. clear z r s d u x ≡ true) (sym j) t) in
        some_none (record { p = w; q = q }) (sym (cond-true (clear z r s d w q) (via w q) None c) ∙ k)
    go None h k (x ∷ us) a more = more h us (cc)

last_lies : (z : Network) (r : LinkId) (s d w : ℕ) (ws : List ℕ) (p q : ℕ) → last_clear z r s d w ws ≡ via p q → Lies z r s d w ws p q
unfolding last_clear
last_lies z r s d w [] p q e = absurd (some_none (record { p = p; q = q }) (sym e))
last_lies z r s d w (x ∷ xs) p q e = go (last_clear z r s d x xs) refl e (λ h. last_lies z r s d x xs p q h)
  where
    go : (o : Option Repair) → last_clear z r s d x xs ≡ o → later o (cond (clear z r s d w x) (via w x) None) ≡ via p q → (last_clear z r s d x xs ≡ via p q → Lies z r s d x xs p q) → Lies z r s d w (x ∷ xs) p q
    go (Some y) h k i =
        let l = i (h ∙ k) in
        record { before = w ∷ l.before; after = l.after; along = ap (λ ns. w ∷ ns) l.along; both_clear = l.both_clear; last = l.last }
    go None h k i = elim (cases_Bool (clear z r s d w x)) [
      | inr f ↦ absurd (some_none (record { p = p; q = q }) (sym (sym (cond-false (clear z r s d w x) (via w x) None f) ∙ k)))
      | inl t ↦
          let m = some_repair (record { p = w; q = x }) (record { p = p; q = q }) (sym (cond-true (clear z r s d w x) (via w x) None t) ∙ k) in
          let a : w ≡ p = ap (λ (y : Repair). y.p) m in
          let b : x ≡ q = ap (λ (y : Repair). y.q) m in
          record {
            before = [];
            after = xs;
            along = ap₂ (λ i j. i ∷ (j ∷ xs)) a b;
            both_clear = subst (λ i. clear z r s d i q ≡ true) a (subst (λ i. clear z r s d w i ≡ true) b t);
            last = λ u v us vs n c. none_clear z r s d x xs h u v us vs (ap (λ i. i ∷ xs) b ∙ n) c;
          }
    ]

-- where some link is clear, one is found
clear_found : (z : Network) (r : LinkId) (s d w : ℕ) (ws : List ℕ) (u v : ℕ) (us vs : List ℕ) → (w ∷ ws) ≡ (us ++ (u ∷ (v ∷ vs))) → clear z r s d u v ≡ true → (x : Repair) × (last_clear z r s d w ws ≡ Some x)
clear_found z r s d w ws u v us vs a t = go (last_clear z r s d w ws) refl
  where
    go : (o : Option Repair) → last_clear z r s d w ws ≡ o → (x : Repair) × (last_clear z r s d w ws ≡ Some x)
    go None h = absurd (none_clear z r s d w ws h u v us vs a t)
    go (Some x) h = (x, h)

-- two cuts of a list at the last link that serves are the same cut
same_cut : (P : ℕ → ℕ → Type 0) (p q x y : ℕ) (us vs bs cs : List ℕ) → (us ++ (p ∷ (q ∷ vs))) ≡ (bs ++ (x ∷ (y ∷ cs))) → P p q → P x y →
    ((i j : ℕ) (is js : List ℕ) → (q ∷ vs) ≡ (is ++ (i ∷ (j ∷ js))) → P i j → ⊥) →
    ((i j : ℕ) (is js : List ℕ) → (y ∷ cs) ≡ (is ++ (i ∷ (j ∷ js))) → P i j → ⊥) → (p ≡ x) × (q ≡ y)
same_cut P p q x y [] vs [] cs e m n f g = (cc, cc)
same_cut P p q x y [] vs (b ∷ bs) cs e m n f g = absurd (f x y bs cs (cc) n)
same_cut P p q x y (u ∷ us) vs [] cs e m n f g = absurd (g p q us vs (cc) m)
same_cut P p q x y (u ∷ us) vs (b ∷ bs) cs e m n f g = same_cut P p q x y us vs bs cs (cc) m n f g

pub is_repair : (z : Network) (r : LinkId) (s d p q : ℕ) → repair z r s d ≡ via p q → IsRepair z r s d p q
is_repair z r s d p q e =
    let l = last_lies z r s d s (path_without z r d s) p q e in
    record { before = l.before; after = l.after; along = l.along; both_clear = l.both_clear; last = l.last }

repair_is : (z : Network) (r : LinkId) (s d p q : ℕ) → IsRepair z r s d p q → repair z r s d ≡ via p q
repair_is z r s d p q i =
    let f = clear_found z r s d s (path_without z r d s) p q i.before i.after i.along i.both_clear in
    let l = is_repair z r s d f.0.p f.0.q f.1 in
    let c = same_cut (λ u v. clear z r s d u v ≡ true) f.0.p f.0.q p q l.before l.after i.before i.after (sym l.along ∙ i.along) l.both_clear i.both_clear l.last i.last in
    f.1 ∙ ap₂ (λ u v. via u v) c.0 c.1

pub last_clear_lem : LastClear
last_clear_lem z r s d p q g = (is_repair z r s d p q, repair_is z r s d p q)

-- both parts of a repair are pieces of the post-convergence path, and are kept
pub record Split (z : Network) (r : LinkId) (s d : ℕ) (x : Repair) : Type 0 where
  pub clear_to : uses z r x.p s ≡ false
  pub clear_from : uses z r d x.q ≡ false
  pub front : path (without r z) x.p s ≡ path z x.p s
  pub back : path (without r z) d x.q ≡ path z d x.q
  pub step : next_hop (without r z) d x.p ≡ Some x.q
  pub whole : path_without z r d s ≡ (path z x.p s ++ (x.q ∷ path z d x.q))
  pub on : On (without r z) d s x.p

path_hop : (z : Network) → Lawful z → (d a e : ℕ) (es : List ℕ) → path z d a ≡ (e ∷ es) → next_hop z d a ≡ Some e
path_hop z g d a e es p = go (next_hop z d a) refl
  where
    go : (h : Option ℕ) → next_hop z d a ≡ h → next_hop z d a ≡ Some e
    go None q = absurd (nil_cons e es (sym (path_stop z d a q) ∙ p))
    go (Some y) q =
        let t : (y ∷ path z d y) ≡ (e ∷ es) = sym (path_to z g d a y q) ∙ p in
        let i : y ≡ e = cc in
        q ∙ ap Some i

-- the rest of a path after its first node
path_rest : (z : Network) → Lawful z → (d a e : ℕ) (es : List ℕ) → path z d a ≡ (e ∷ es) → path z d e ≡ es
path_rest z g d a e es p = let u = sym (path_to z g d a e (path_hop z g d a e es p)) ∙ p in cc

split_at : (z : Network) → Lawful z → (r : LinkId) (s d : ℕ) (x : Repair) (before after : List ℕ) → (s ∷ path_without z r d s) ≡ (before ++ (x.p ∷ (x.q ∷ after))) → uses z r x.p s ≡ false → uses z r d x.q ≡ false → Split z r s d x
split_at z g r s d x [] after a ct cf =
    let y = without r z in
    let h = lawful_without r z g in
    let u : s ≡ x.p = cc in
    let v : path_without z r d s ≡ (x.q ∷ after) = cc in
    let w = subst (λ i. path y d i ≡ (x.q ∷ after)) u v in
    let b = (untouched z g r d x.q cf).same_path in
    let k = path_hop y h d x.p x.q after w in
    let m = path_rest y h d x.p x.q after w in
    let o : path z x.p s ≡ [] = subst (λ i. path z x.p i ≡ []) (sym u) (path_stop z x.p x.p (next_hop_here z x.p)) in
    let n = (next_hop_is y d x.p x.q k).near in
    record {
      clear_to = ct;
      clear_from = cf;
      front = (untouched z g r x.p s ct).same_path;
      back = b;
      step = k;
      whole = v ∙ (ap (λ i. x.q ∷ i) (sym m ∙ b) ∙ ap (λ i. i ++ (x.q ∷ path z d x.q)) (sym o));
      on = subst (λ i. On y d i x.p) (sym u) (on_itself y h d x.p (y.cost x.p x.q + n.rest) n.here);
    }
split_at z g r s d x (w ∷ ws) after a ct cf =
    let y = without r z in
    let h = lawful_without r z g in
    let v : path_without z r d s ≡ (ws ++ (x.p ∷ (x.q ∷ after))) = cc in
    let c = cut y h d s x.p ws (x.q ∷ after) v in
    let f = (untouched z g r x.p s ct).same_path in
    let b = (untouched z g r d x.q cf).same_path in
    let m = path_rest y h d x.p x.q after c.back in
    record {
      clear_to = ct;
      clear_from = cf;
      front = f;
      back = b;
      step = path_hop y h d x.p x.q after c.back;
      whole = v ∙ (sym (append_assoc ws (x.p ∷ []) (x.q ∷ after)) ∙ ap₂ (λ i j. i ++ (x.q ∷ j)) (sym c.front ∙ f) (sym m ∙ b));
      on = c.on;
    }

pub split : (z : Network) → Lawful z → (r : LinkId) (s d : ℕ) (x : Repair) → repair z r s d ≡ Some x → Split z r s d x
split z g r s d x e =
    let i = is_repair z r s d x.p x.q e in
    let c = clear_parts z r s d x.p x.q i.both_clear in
    split_at z g r s d x i.before i.after i.along c.0 c.1

pub same_path_repaired : SamePath
same_path_repaired z g r s d x e = sym (split z g r s d x e).whole

-- a repair costs what the post-convergence path costs
pub serves : (z : Network) → Lawful z → (r : LinkId) (s d c : ℕ) (x : Repair) → repair z r s d ≡ Some x → distance (without r z) d s ≡ Some c → Serves z r s d c x
serves z g r s d c x e q =
    let y = without r z in
    let t = split z g r s d x e in
    let n = (next_hop_is y d x.p x.q t.step).near in
    let o = t.on in
    let left = link_left_lem r z x.p x.q n.link in
    let k = cost_left r z x.p x.q left in
    let i : o.after ≡ y.cost x.p x.q + n.rest = same_some (distance y d x.p) o.after (y.cost x.p x.q + n.rest) o.from_it n.here in
    let j : c ≡ o.before + o.after = same_some (distance y d s) c (o.before + o.after) q o.whole in
    record {
      first = o.before;
      rest = n.rest;
      to_p = sym (untouched z g r x.p s t.clear_to).same_distance ∙ o.to_it;
      from_q = sym (untouched z g r d x.q t.clear_from).same_distance ∙ n.there;
      link_left = n.link;
      cost = omega (arith, k);
      clear_to = t.clear_to;
      clear_over = left;
      clear_from = t.clear_from;
    }

-- along the post-convergence path: s reaches its first node without the link, and not its last
found_along : (z : Network) → Lawful z → (r : LinkId) (s f d : ℕ) → joins r s f ≡ true → next_hop z d s ≡ Some f → (w : ℕ) (ws : List ℕ) → IsPath (without r z) d w ws → uses z r w s ≡ false → uses z r d s ≡ true → (u : ℕ) × (v : ℕ) × (us : List ℕ) × (vs : List ℕ) × ((w ∷ ws) ≡ (us ++ (u ∷ (v ∷ vs)))) × (clear z r s d u v ≡ true)
found_along z g r s f d e h w [] i t k = absurd (both_ways (uses z r d s) (subst (λ x. uses z r x s ≡ false) i t) k)
found_along z g r s f d e h w (v ∷ ws) i t k = elim (cases_Bool (uses z r v s)) [
  | inl n ↦
      let c : uses z r d v ≡ false = elim (either z g r s f d e h v) [ inl m ↦ absurd (both_ways (uses z r v s) m n) | inr m ↦ m ] in
      (w, v, [], ws, refl, clear_from_lem z r s d w v t c)
  | inr n ↦
      let x = found_along z g r s f d e h v ws i.1 n k in
      (x.0, x.1, w ∷ x.2, x.3, ap (λ l. w ∷ l) x.4, x.5)
]

-- s itself is reached without the link, and d, to which s sends over it, is not
pub uses_self : (z : Network) (r : LinkId) (s : ℕ) → uses z r s s ≡ false
uses_self z r s = uses_stop z r s s (next_hop_here z s)

pub uses_over : (z : Network) → Lawful z → (r : LinkId) (s f d : ℕ) → joins r s f ≡ true → next_hop z d s ≡ Some f → uses z r d s ≡ true
uses_over z g r s f d e h = uses_to z g r d s f h ∙ or_left (joins r s f) (uses z r d f) e

pub repair_found : (z : Network) → Lawful z → (r : LinkId) (s f d c : ℕ) → joins r s f ≡ true → next_hop z d s ≡ Some f → distance (without r z) d s ≡ Some c → (x : Repair) × (repair z r s d ≡ Some x)
repair_found z g r s f d c e h q =
    let p = (leads (without r z) (lawful_without r z g) d s c q).0 in
    let x = found_along z g r s f d e h s (path_without z r d s) p (uses_self z r s) (uses_over z g r s f d e h) in
    clear_found z r s d s (path_without z r d s) x.0 x.1 x.2 x.3 x.4 x.5

pub repaired : Repaired
repaired z g r s f d c e h q = let x = repair_found z g r s f d c e h q in (x.0, x.1, serves z g r s d c x.0 x.1 q)

no_repair_where : (z : Network) → Lawful z → (r : LinkId) (s f d : ℕ) → joins r s f ≡ true → next_hop z d s ≡ Some f → repair z r s d ≡ None → distance (without r z) d s ≡ None
no_repair_where z g r s f d e h n = go (distance (without r z) d s) refl
  where
    go : (o : Option ℕ) → distance (without r z) d s ≡ o → distance (without r z) d s ≡ None
    go None q = q
    go (Some c) q = let x = repair_found z g r s f d c e h q in absurd (some_none x.0 (sym x.1 ∙ n))

where_no_repair : (z : Network) (r : LinkId) (s d : ℕ) → distance (without r z) d s ≡ None → repair z r s d ≡ None
unfolding last_clear
where_no_repair z r s d q = ap (λ ws. last_clear z r s d s ws) (path_stop (without r z) d s (next_hop_none (without r z) d s q))

pub no_repair : NoRepair
no_repair z g r s f d e h = (no_repair_where z g r s f d e h, where_no_repair z r s d)
