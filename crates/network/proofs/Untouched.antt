-- A router switches for the destinations to which its path does not use the failed link.
use Rattle.std.proofs.Common.{◌≡◌, ℕ, zero, suc, ◌+◌, ◌<◌, ◌≤◌, Bool, true, false, cond, not, ◌&&◌, ◌||◌, eqb, ltb, ◌⊎◌, [], ◌∷◌, ◌++◌, filter, map, Some, None, Option, vec_items, sym, refl, ap, ◌∙◌, subst, inl, inr, arith}
use Rattle.network.proofs.Becoming.{equally, then}
use Rattle.network.proofs.Replies.{no_router}
use Rattle.network.specs.Events.{untouched_below, untouched_switches, Becomes, OnlyTouched, Unchanged}
use Rattle.network.specs.Model.{nodes_in, system}
use Rattle.network.specs.declared.network.Network.{Network}
use Rattle.protocol.proofs.Playing.{run_after}
use Rattle.protocol.specs.Router as protocol
use Rattle.protocol.specs.Switching.{after_switch, all_below, mark, may, may_in, none_below, says, switch, switch_in}
use Rattle.protocol.specs.System.{System, Switch, go_on, run, step}
use Rattle.router.specs.Uses.{uses_failed, uses_in}
use Rattle.std.proofs.lemmas.Bool.{and_parts, both_ways, cases_eq, cases_lt, cond-true, cond_both, eq-eqb, eqb-false, ltb-true}
use Rattle.std.proofs.lemmas.List.{map-append}
use Rattle.std.proofs.lemmas.List.Elements.{filter-append}
use Rattle.std.specs.List.{range_with_len}
use Rattle.std.specs.Option.{option_map}
use Rattle.theory.specs.Network.{without}

range_more : (a n : ℕ) → range_with_len a (suc n) ≡ range_with_len a n ++ (a + n) ∷ []
range_more a zero = ap (λ i. i ∷ []) (omega arith)
range_more a (suc n) = let e : a + 1 + n ≡ a + suc n = omega arith in ap (λ l. a ∷ l) (range_more (a + 1) n ∙ ap (λ i. range_with_len (a + 1) n ++ i ∷ []) e)

-- one destination more, or not
untouched_more : (s : protocol.Router) (k : ℕ) → untouched_below (k + 1) s ≡ untouched_below k s ++ cond (uses_failed s k) [] (k ∷ [])
untouched_more s k =
    let p : ℕ → Bool = λ d. not (uses_failed s d) in
    let e : k + 1 ≡ suc k = omega arith in
    ap (λ n. filter p (range_with_len 0 n)) e ∙ (ap (filter p) (range_more 0 k ∙ ap (λ i. range_with_len 0 k ++ i ∷ []) (omega arith)) ∙
    (filter-append p (range_with_len 0 k) (k ∷ []) ∙ ap (λ l. untouched_below k s ++ l) (flip (uses_failed s k))))
  where
    flip : (b : Bool) → cond (not b) (k ∷ []) [] ≡ cond b [] (k ∷ [])
    flip true = refl
    flip false = refl

switches_more : (u k : ℕ) (σ : System) → run (untouched_switches u (k + 1) σ) σ ≡ cond (uses_failed (σ.routers u) k) (run (untouched_switches u k σ) σ) (step (Switch u k) (run (untouched_switches u k σ) σ))
unfolding run
switches_more u k σ = ap (λ ds. run (map (λ d. Switch u d) ds) σ) (untouched_more (σ.routers u) k) ∙ (ap (λ es. run es σ) (map-append (λ d. Switch u d) (untouched_below k (σ.routers u)) _) ∙ (sym (run_after (untouched_switches u k σ) _ σ) ∙ by (uses_failed (σ.routers u) k) (run (untouched_switches u k σ) σ)))
  where
    by : (b : Bool) (τ : System) → run (map (λ d. Switch u d) (cond b [] (k ∷ []))) τ ≡ cond b τ (step (Switch u k) τ)
    by true τ = refl
    by false τ = refl

-- what a router is that was asked to switch
abbrev goes_on : protocol.Router → protocol.Reply → protocol.Router
goes_on s (protocol.Refused k) = s
goes_on s protocol.Stays = s
goes_on s (protocol.Goes t ms) = t

here : (σ : System) (u : ℕ) (f : ℕ → Bool) (r : protocol.Reply) → (go_on σ u f r).routers u ≡ goes_on (σ.routers u) r
here σ u f (protocol.Refused k) = refl
here σ u f protocol.Stays = refl
here σ u f (protocol.Goes t ms) = cond-true (eqb u u) t (σ.routers u) (eq-eqb u u refl)

-- where no failure is known nothing changes
unknown : (σ : System) (u d : ℕ) → (σ.routers u).transition ≡ None → step (Switch u d) σ ≡ σ
unknown σ u d n = ap (λ o. go_on σ u σ.came (switch_in (σ.routers u) d o)) n

-- it knows of no failure any more, or its paths use the failed link as before
abbrev SameUses : (old new : protocol.Router) → Type 0
SameUses old new = (new.transition ≡ None) ⊎ ((d : ℕ) → uses_failed new d ≡ uses_failed old d)

same_uses : (s : protocol.Router) (d : ℕ) → SameUses s (goes_on s (switch s d))
same_uses s d = by s.transition refl
  where
    by : (o : Option protocol.Transition) → s.transition ≡ o → SameUses s (goes_on s (switch_in s d o))
    by None i = inl i
    by (Some t) i = go (may_in s d (Some t))
      where
        end : (b : Bool) → SameUses s (cond b (protocol.idle (without t.link s.links) (t.link ∷ s.removed) s.me) (record s { transition = Some (record t { switched = mark d t.switched }) }))
        end true = inl refl
        end false = inr (λ e. ap (λ o. uses_in s e (option_map (λ (t : protocol.Transition). t.link) o)) (sym i))

        go : (b : Bool) → SameUses s (goes_on s (cond b (protocol.Goes (after_switch d t s) (says d t.link s)) protocol.Stays))
        go true = end (all_below s.links.n (mark d t.switched))
        go false = inr (λ e. refl)

same_then : (first now next : protocol.Router) → SameUses first now → SameUses now next → (now.transition ≡ None → next.transition ≡ None) → SameUses first next
same_then first now next a (inl n) k = inl n
same_then first now next (inl n) (inr h) k = inl (k n)
same_then first now next (inr g) (inr h) k = inr (λ d. h d ∙ g d)

-- all below k that it may still switch for use the link
abbrev Only : ℕ → protocol.Router → Type 0
Only k s = (d : ℕ) → d < k → may s d ≡ true → uses_failed s d ≡ true

left_open : (x y z w : Bool) → (z && (not (x || y) && w)) ≡ true → (x ≡ false) × ((z && (not y && w)) ≡ true)
left_open true y z w h = absurd (both_ways (z && false) (and_false z) h)
  where
    and_false : (b : Bool) → (b && false) ≡ false
    and_false true = refl
    and_false false = refl
left_open false y z w h = (refl, h)

only_more : (d : ℕ) (s : protocol.Router) → Only d s → Only (d + 1) (goes_on s (switch s d))
only_more d s h e l = by s.transition refl
  where
    old : (e ≡ d → ⊥) → may s e ≡ true → uses_failed s e ≡ true
    old n m = h e (omega arith) m

    by : (o : Option protocol.Transition) → s.transition ≡ o → may (goes_on s (switch_in s d o)) e ≡ true → uses_failed (goes_on s (switch_in s d o)) e ≡ true
    by None i m = absurd (both_ways (may s e) (ap (may_in s e) i) m)
    by (Some t) i m = go (may_in s d (Some t)) refl m
      where
        stays : may s d ≡ false → may s e ≡ true → uses_failed s e ≡ true
        stays n m = elim (cases_eq e d) [
          | inl w ↦ absurd (both_ways (may s d) n (ap (may s) (sym w) ∙ m))
          | inr w ↦ old w m
        ]

        marked : protocol.Router
        marked = record s { transition = Some (record t { switched = mark d t.switched }) }

        end : (b : Bool) (x : protocol.Router) → x.transition ≡ None → may (cond b x marked) e ≡ true → uses_failed (cond b x marked) e ≡ true
        end true x n m = absurd (both_ways (may x e) (ap (may_in x e) n) m)
        end false x n m =
            let o = left_open (eqb e d) (t.switched e) (ltb e s.links.n) (none_below s.links.n (t.pending e)) m in
            ap (λ o. uses_in s e (option_map (λ (t : protocol.Transition). t.link) o)) (sym i) ∙ old (eqb-false e d o.0) (ap (may_in s e) i ∙ o.1)

        go : (b : Bool) → may_in s d (Some t) ≡ b → may (goes_on s (cond b (protocol.Goes (after_switch d t s) (says d t.link s)) protocol.Stays)) e ≡ true → uses_failed (goes_on s (cond b (protocol.Goes (after_switch d t s) (says d t.link s)) protocol.Stays)) e ≡ true
        go true w m = end (all_below s.links.n (mark d t.switched)) (protocol.idle (without t.link s.links) (t.link ∷ s.removed) s.me) refl m
        go false w m = stays (ap (may_in s d) i ∙ w) m

-- since the first state router u has switched for all below k that are untouched
pub record SwitchedBelow (u k : ℕ) (first now : Network) : Type 0 where
  pub becomes : Becomes first now (run (untouched_switches u k (system first)) (system first))
  pub same : SameUses ((system first).routers u) ((system now).routers u)
  pub only : Only k ((system now).routers u)

pub none_switched : (u : ℕ) (net : Network) → SwitchedBelow u 0 net net
unfolding run
none_switched u net =
    record {
      becomes = record { is = refl; beside = record { nodes = refl; packets = refl; paths = λ p. refl }; over = λ k. refl };
      same = inr (λ d. refl);
      only = λ d l m. absurd (omega arith);
    }

-- for one more, or not
pub one_more : (u d : ℕ) (first now next : Network) → SwitchedBelow u d first now → (uses_failed ((system now).routers u) d ≡ true → Unchanged now next) → (uses_failed ((system now).routers u) d ≡ false → Becomes now next (step (Switch u d) (system now))) → SwitchedBelow u (d + 1) first next
one_more u d first now next h a c =
    record {
      becomes = equally first next _ _ (then first now next _ _ h.becomes b) (alike h.same ∙ sym (switches_more u d σ ∙ ap (λ y. cond (uses_failed (σ.routers u) d) y (step (Switch u d) y)) (sym h.becomes.is)));
      same = subst (SameUses (σ.routers u)) (sym router) (by (uses_failed s d) (λ x. SameUses (σ.routers u) x) (λ _. h.same) (λ _. same_then (σ.routers u) s (goes_on s (switch s d)) h.same (same_uses s d) (λ n. ap (λ o. (goes_on s (switch_in s d o)).transition) n ∙ n)));
      only = subst (Only (d + 1)) (sym router) (by (uses_failed s d) (Only (d + 1)) touched (λ _. only_more d s h.only));
    }
  where
    σ : System
    σ = system first

    τ : System
    τ = system now

    s : protocol.Router
    s = τ.routers u

    b : Becomes now next (cond (uses_failed s d) τ (step (Switch u d) τ))
    b = cond_both (uses_failed s d) τ (step (Switch u d) τ) (Becomes now next) a c

    alike : SameUses (σ.routers u) s → cond (uses_failed s d) τ (step (Switch u d) τ) ≡ cond (uses_failed (σ.routers u) d) τ (step (Switch u d) τ)
    alike (inl n) = either (uses_failed s d) ∙ sym (either (uses_failed (σ.routers u) d))
      where
        either : (b : Bool) → cond b τ (step (Switch u d) τ) ≡ τ
        either true = refl
        either false = unknown τ u d n
    alike (inr e) = ap (λ b. cond b τ (step (Switch u d) τ)) (e d)

    by : (b : Bool) (P : protocol.Router → Type 0) → (b ≡ true → P s) → (b ≡ false → P (goes_on s (switch s d))) → P (cond b s (goes_on s (switch s d)))
    by b P = cond_both b s (goes_on s (switch s d)) P

    router : (system next).routers u ≡ cond (uses_failed s d) s (goes_on s (switch s d))
    router = ap (λ (x : System). x.routers u) b.is ∙ go (uses_failed s d)
      where
        go : (b : Bool) → (cond b τ (step (Switch u d) τ)).routers u ≡ cond b s (goes_on s (switch s d))
        go true = refl
        go false = here τ u τ.came (switch s d)

    touched : uses_failed s d ≡ true → Only (d + 1) s
    touched t e l m = elim (cases_eq e d) [
      | inl w ↦ ap (uses_failed s) w ∙ t
      | inr w ↦ h.only e (omega arith) m
    ]

-- for all of its nodes
pub all_switched : (u k : ℕ) (first now : Network) → SwitchedBelow u k first now → nodes_in first ≤ k → OnlyTouched ((system now).routers u)
all_switched u k first now h l d m = h.only d (omega (arith, l, h.becomes.beside.nodes, within)) m
  where
    s : protocol.Router
    s = (system now).routers u

    below : (o : Option protocol.Transition) → may_in s d o ≡ true → d < s.links.n
    below None e = absurd (both_ways false refl e)
    below (Some t) e = ltb-true d s.links.n (and_parts (ltb d s.links.n) _ e).0

    within : d < nodes_in now
    within = elim (cases_lt u (nodes_in now)) [
      | inl i ↦ omega (arith, below s.transition m, (now.routers_in_place u i).1)
      | inr i ↦ let e = no_router (vec_items now.routers) u i in let n : s.links.n ≡ 0 = ap (λ (x : protocol.Router). x.links.n) e in absurd (omega (arith, below s.transition m, n))
    ]

-- and where memory is wanting
pub switched_some : (u k : ℕ) (first now next : Network) → SwitchedBelow u k first now → Unchanged now next → (j : ℕ) × Becomes first next (run (untouched_switches u j (system first)) (system first))
switched_some u k first now next h b = (k, equally first next _ _ (then first now next _ _ h.becomes b) h.becomes.is)
