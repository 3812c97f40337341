-- Messages by their numbers: what was said stays, and what is new comes after it.
use Rattle.std.proofs.Common.{◌≡◌, ℕ, zero, suc, ◌<◌, ◌≤◌, Bool, true, false, cond, ltb, ◌⊎◌, List, [], ◌∷◌, ◌++◌, length, Some, None, Option, sym, refl, ap, ◌∙◌, subst, inl, inr, arith, length-append}
use Rattle.std.proofs.lemmas.Bool.{both_ways, lt-ltb, cases_eq, cond-true, cond-false}
use Rattle.protocol.specs.Hearing.{waits_for, tell}
use Rattle.protocol.specs.System.{nth}
use Rattle.protocol.specs.Switching.{say_to}
use Rattle.protocol.proofs.Touched.{uses_on, waits_from}
use Rattle.theory.specs.NextHop.{next_hop, uses}
use Rattle.theory.specs.Network.{joins, without, Network, Lawful, LinkId}
use Rattle.theory.proofs.NextHops.{next_hop_is}
use Rattle.types.specs.declared.message.Message.{Message}
use Rattle.types.specs.declared.message.Message.TheVariants.{LinkDown}
use Rattle.types.specs.declared.message.Message.TheVariants as message
use Rattle.types.specs.declared.message.Sent.{Sent}
use Rattle.types.specs.declared.message.Switched.{Switched}

pub same_message : (a b : Sent) → Some a ≡ Some b → a ≡ b
same_message a b e = cc

not_said : (m : Sent) → None ≡ Some m → ⊥
not_said m e = cc

pub no_message : (k : ℕ) (m : Sent) → nth [] k ≡ Some m → ⊥
unfolding nth
no_message k m e = not_said m e

pub nth_old : (xs ys : List Sent) (k : ℕ) (m : Sent) → nth xs k ≡ Some m → nth (xs ++ ys) k ≡ Some m
unfolding nth
nth_old [] ys k m e = absurd (not_said m e)
nth_old (x ∷ xs) ys zero m e = e
nth_old (x ∷ xs) ys (suc k) m e = nth_old xs ys k m e

pub nth_new : (xs ys : List Sent) (j : ℕ) (m : Sent) → nth ys j ≡ Some m → (k : ℕ) × (nth (xs ++ ys) k ≡ Some m)
unfolding nth
nth_new [] ys j m e = (j, e)
nth_new (x ∷ xs) ys j m e = let t = nth_new xs ys j m e in (suc t.0, t.1)

pub nth_either : (xs ys : List Sent) (k : ℕ) (m : Sent) → nth (xs ++ ys) k ≡ Some m → (nth xs k ≡ Some m) ⊎ ((j : ℕ) × (nth ys j ≡ Some m))
unfolding nth
nth_either [] ys k m e = inr (k, e)
nth_either (x ∷ xs) ys zero m e = inl e
nth_either (x ∷ xs) ys (suc k) m e = nth_either xs ys k m e

pub nth_within : (xs : List Sent) (k : ℕ) (m : Sent) → nth xs k ≡ Some m → k < length xs
unfolding nth
nth_within [] k m e = absurd (not_said m e)
nth_within (x ∷ xs) zero m e = omega arith
nth_within (x ∷ xs) (suc k) m e = omega (arith, nth_within xs k m e)

-- the only message of a list of at most one
nth_one : (b : Bool) (x : Sent) (k : ℕ) (m : Sent) → nth (cond b (x ∷ []) []) k ≡ Some m → (m ≡ x) × (b ≡ true)
unfolding nth
nth_one true x zero m e = (same_message m x (sym e), refl)
nth_one true x (suc k) m e = absurd (not_said m e)
nth_one false x k m e = absurd (not_said m e)

nth_first : (b : Bool) (x : Sent) → b ≡ true → nth (cond b (x ∷ []) []) 0 ≡ Some x
unfolding nth
nth_first true x e = refl
nth_first false x e = absurd (both_ways false refl e)

abbrev pub down_to : LinkId → ℕ → ℕ → Sent
down_to r u v = record { from = u; to = v; message = LinkDown r }

-- u has switched for d
abbrev pub switched_for : LinkId → ℕ → ℕ → Switched
switched_for r u d = record { from = u; destination = d; link = r }

abbrev pub over_by : LinkId → ℕ → ℕ → Message
over_by r u d = message.Switched (switched_for r u d)

abbrev pub over_to : LinkId → ℕ → ℕ → ℕ → Sent
over_to r u v d = record { from = u; to = v; message = over_by r u d }

-- what a router tells its neighbours when it learns of the failure
pub tell_is : (z : Network) (r : LinkId) (u k j : ℕ) (m : Sent) → nth (tell z r u k) j ≡ Some m → (v : ℕ) × (m ≡ down_to r u v) × (v < k)
unfolding tell
tell_is z r u zero j m e = absurd (no_message j m e)
tell_is z r u (suc k) j m e = elim (nth_either (tell z r u k) (cond (ltb 0 ((without r z).cost u k)) (down_to r u k ∷ []) []) j m e) [
  | inl h ↦ let t = tell_is z r u k j m h in (t.0, t.1, omega (arith, t.2))
  | inr h ↦ (k, (nth_one (ltb 0 ((without r z).cost u k)) (down_to r u k) h.0 m h.1).0, omega arith)
]

pub tell_has : (z : Network) (r : LinkId) (u k v : ℕ) → v < k → 0 < (without r z).cost u v → (j : ℕ) × (nth (tell z r u k) j ≡ Some (down_to r u v))
unfolding tell
tell_has z r u zero v b pos = absurd (omega arith)
tell_has z r u (suc k) v b pos = elim (cases_eq v k) [
  | inl e ↦
      subst (λ x. (j : ℕ) × (nth (tell z r u (suc k)) j ≡ Some (down_to r u x))) (sym e)
      (nth_new (tell z r u k) (cond (ltb 0 ((without r z).cost u k)) (down_to r u k ∷ []) []) 0 (down_to r u k) (nth_first (ltb 0 ((without r z).cost u k)) (down_to r u k) (lt-ltb 0 ((without r z).cost u k) (subst (λ x. 0 < (without r z).cost u x) e pos))))
  | inr e ↦ let t = tell_has z r u k v (omega arith) pos in (t.0, nth_old (tell z r u k) (cond (ltb 0 ((without r z).cost u k)) (down_to r u k ∷ []) []) t.0 (down_to r u v) t.1)
]

pub tell_few : (z : Network) (r : LinkId) (u k : ℕ) → length (tell z r u k) ≤ k
unfolding tell
tell_few z r u zero = omega arith
tell_few z r u (suc k) = omega (arith, length-append (tell z r u k) (cond (ltb 0 ((without r z).cost u k)) (down_to r u k ∷ []) []), one (ltb 0 ((without r z).cost u k)), tell_few z r u k)
  where
    one : (b : Bool) → length {A = Sent} (cond b (down_to r u k ∷ []) []) ≤ 1
    one true = omega arith
    one false = omega arith

-- what it says to its old next hop when it has switched: that router waits for it
pub say_is : (z : Network) → Lawful z → (r : LinkId) (u d k : ℕ) (m : Sent) → nth (cond (uses z r d u) (say_to u d r (next_hop z d u)) []) k ≡ Some m → (v : ℕ) × (m ≡ over_to r u v d) × (v < z.n) × (waits_for z r d v u ≡ true)
say_is z g r u d k m e = go (uses z r d u) refl (next_hop z d u) refl e
  where
    two : (b : Bool) (x : Sent) → nth (cond b [] (x ∷ [])) k ≡ Some m → (m ≡ x) × (b ≡ false)
    two true x h = absurd (no_message k m h)
    two false x h = ((nth_one true x k m h).0, refl)

    go : (b : Bool) → uses z r d u ≡ b → (h : Option ℕ) → next_hop z d u ≡ h → nth (cond b (say_to u d r h) []) k ≡ Some m → (v : ℕ) × (m ≡ over_to r u v d) × (v < z.n) × (waits_for z r d v u ≡ true)
    go false t h p e = absurd (no_message k m e)
    go true t None p e = absurd (no_message k m e)
    go true t (Some v) p e =
        let w = two (joins r u v) (over_to r u v d) e in
        (v, w.0, (g.within u v (next_hop_is z d u v p).near.link).1, waits_from z r d v u (uses_on z g r d u v p t w.1) p t)

pub say_has : (z : Network) (r : LinkId) (u d v : ℕ) → uses z r d u ≡ true → next_hop z d u ≡ Some v → joins r u v ≡ false → nth (cond (uses z r d u) (say_to u d r (next_hop z d u)) []) 0 ≡ Some (over_to r u v d)
unfolding nth
say_has z r u d v t p j =
    ap (λ (l : List Sent). nth l 0)
    (cond-true (uses z r d u) (say_to u d r (next_hop z d u)) [] t ∙ (ap (λ h. say_to u d r h) p ∙ cond-false (joins r u v) [] (over_to r u v d ∷ []) j))

pub say_few : (z : Network) (r : LinkId) (u d : ℕ) → length (cond (uses z r d u) (say_to u d r (next_hop z d u)) []) ≤ 1
say_few z r u d = go (uses z r d u) (next_hop z d u)
  where
    two : (b : Bool) (x : Sent) → length {A = Sent} (cond b [] (x ∷ [])) ≤ 1
    two true x = omega arith
    two false x = omega arith

    go : (b : Bool) (h : Option ℕ) → length (cond b (say_to u d r h) []) ≤ 1
    go false h = omega arith
    go true None = omega arith
    go true (Some v) = two (joins r u v) (over_to r u v d)
