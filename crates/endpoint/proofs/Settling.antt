-- A router that has been asked to switch for all destinations may switch for none.
use Rattle.std.proofs.Common.{◌≡◌, ℕ, zero, suc, ◌<◌, ◌≤◌, Bool, true, false, cond, not, ◌&&◌, ◌||◌, eqb, ltb, ◌⊎◌, List, ◌∷◌, Some, None, Option, sym, refl, ap, ap₂, ◌∙◌, inl, inr, arith, rules}
use Rattle.std.proofs.lemmas.Bool.{cases_eq, eq-eqb}
use Rattle.std.proofs.lemmas.Grind.{common_steps, flat_map-append}
use Rattle.theory.specs.Network.{without}
use Rattle.protocol.specs.Router as protocol
use Rattle.protocol.specs.Router.{idle, Router, Transition, Reply, Stays, Goes}
use Rattle.protocol.specs.Switching.{none_below, all_below, mark, may, may_in, after_switch, says, switch_in, switch}
use Rattle.types.specs.declared.message.Sent.{Sent}
use Rattle.router.specs.Replies.{Accepted}
use Rattle.endpoint.specs.Frames.{go_on, saying, sent_bytes, switch_below, Served, IsSettled}

-- the router that a reply leads to
abbrev next : Router → Reply → Router
next s (protocol.Refused refusal) = s
next s Stays = s
next s (Goes t ms) = t

on_router : (x : Served) (r : Reply) → (go_on x r).router ≡ next x.router r
on_router x (protocol.Refused refusal) = refl
on_router x Stays = refl
on_router x (Goes t ms) = refl

nodes_kept : (s : Router) (d : ℕ) → (next s (switch s d)).links.n ≡ s.links.n
nodes_kept s d = search rules

-- what an accepted reply makes of a router, and of what it said before
accepted : (r : Reply) (s t : Router) (before after : List Sent) → Accepted r s t before after →
    saying t after ≡ go_on (saying s before) r
accepted (protocol.Refused refusal) s t before after h = absurd h
accepted Stays s t before after h = ap₂ saying h.0 h.1
accepted (Goes u ms) s t before after h =
    ap₂ saying h.0 h.1 ∙
    ap (λ (w : List ℕ). record { router = u; written = w }) (flat_map-append sent_bytes before ms)

pub none_asked : (x : Served) → x ≡ switch_below 0 x
unfolding switch_below
none_asked x = refl

-- it is asked for d, too
pub one_more : (d : ℕ) (x : Served) (s t : Router) (before after : List Sent) →
    saying s before ≡ switch_below d x → Accepted (switch s d) s t before after →
    saying t after ≡ switch_below (suc d) x
unfolding switch_below
one_more d x s t before after e h =
    accepted (switch s d) s t before after h ∙ ap (λ (y : Served). go_on y (switch y.router d)) e

shut : (x y z w : Bool) → (x ≡ true) ⊎ ((z && (not y && w)) ≡ false) → (z && (not (x || y) && w)) ≡ false
shut x y z w h = search rules

-- asked for d, it may switch neither for d nor for those for which it could not before
done_more : (d e : ℕ) (s : Router) → (e ≡ d) ⊎ (may s e ≡ false) → may (next s (switch s d)) e ≡ false
done_more d e s h = by s.transition refl
  where
    by : (t : Option Transition) → s.transition ≡ t → may (next s (switch_in s d t)) e ≡ false
    by None i = ap (may_in s e) i
    by (Some t) i = go (may_in s d (Some t)) refl
      where
        marked : Router
        marked = record s { transition = Some (record t { switched = mark d t.switched }) }

        end : (b : Bool) → may (cond b (idle (without t.link s.links) (t.link ∷ s.removed) s.me) marked) e ≡ false
        end true = refl
        end false =
            shut (eqb e d) (t.switched e) (ltb e s.links.n) (none_below s.links.n (t.pending e))
            (elim h [ inl w ↦ inl (eq-eqb e d w) | inr w ↦ inr (sym (ap (may_in s e) i) ∙ w) ])

        go : (b : Bool) → may_in s d (Some t) ≡ b →
            may (next s (cond b (Goes (after_switch d t s) (says d t.link s)) Stays)) e ≡ false
        go true j = end (all_below s.links.n (mark d t.switched))
        go false j = elim h [ inl w ↦ ap (may s) w ∙ (ap (may_in s d) i ∙ j) | inr w ↦ w ]

nodes_below : (k : ℕ) (x : Served) → (switch_below k x).router.links.n ≡ x.router.links.n
unfolding switch_below
nodes_below zero x = refl
nodes_below (suc k) x =
    let y : Served = switch_below k x in
    ap (λ (s : Router). s.links.n) (on_router y (switch y.router k)) ∙ (nodes_kept y.router k ∙ nodes_below k x)

done_below : (k : ℕ) (x : Served) (e : ℕ) → e < k → may (switch_below k x).router e ≡ false
unfolding switch_below
done_below zero x e l = absurd (omega arith)
done_below (suc k) x e l =
    let y : Served = switch_below k x in
    let before : (e ≡ k) ⊎ (may y.router e ≡ false) =
    elim (cases_eq e k) [ inl w ↦ inl w | inr w ↦ inr (done_below k x e (omega arith)) ] in
    ap (λ (s : Router). may s e) (on_router y (switch y.router k)) ∙ done_more k e y.router before

outside : (s : Router) (d : ℕ) → s.links.n ≤ d → may s d ≡ false
outside s d h = grind (arith, common_steps)

pub settled : (x : Served) → IsSettled (switch_below x.router.links.n x).router
settled x d = by (ltb d x.router.links.n) refl
  where
    y : Served
    y = switch_below x.router.links.n x

    by : (b : Bool) → ltb d x.router.links.n ≡ b → may y.router d ≡ false
    by true h = done_below x.router.links.n x d (grind (arith, common_steps))
    by false h = outside y.router d (rw (nodes_below x.router.links.n x) (grind (arith, common_steps)))
