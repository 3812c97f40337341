-- A rising list of links makes a lawful network.
use Rattle.std.proofs.Common.{◌≡◌, ℕ, ◌+◌, ◌*◌, ◌<◌, ◌≤◌, true, false, cond, ◌&&◌, eqb, ltb, leb, List, [], ◌∷◌, length, refl, ap₂, inl, inr, arith}
use Rattle.std.proofs.lemmas.Bool.{ltb-true, leb-true, eqb-true, and_parts, or_cases, cond-true, cond-false, cond_both}
use Rattle.types.specs.declared.link.Link.{Link}
use Rattle.types.specs.Link.{ends_of}
use Rattle.links.specs.Links.{precedes, follows, start, rising_from, rising, cost_in, network_of}
use Rattle.theory.specs.Network.{joins, Lawful, Limited}
use Rattle.theory.proofs.Joins.{joins_symmetric, joins_ends}

-- what a link that may follow is
pub record Follows (n : ℕ) (p l : Link) : Type 0 where
  pub order : l.a < l.b
  pub within : l.b < n
  pub some : 0 < l.cost
  pub light : l.cost ≤ 65535
  pub after : precedes p l ≡ true

pub follows_parts : (n : ℕ) (p l : Link) → follows n p l ≡ true → Follows n p l
follows_parts n p l t =
    let i = and_parts (ltb l.a l.b && ltb l.b n && ltb 0 l.cost && leb l.cost 65535) (precedes p l) t in
    let j = and_parts (ltb l.a l.b && ltb l.b n && ltb 0 l.cost) (leb l.cost 65535) i.0 in
    let k = and_parts (ltb l.a l.b && ltb l.b n) (ltb 0 l.cost) j.0 in
    let m = and_parts (ltb l.a l.b) (ltb l.b n) k.0 in
    record {
      order = ltb-true l.a l.b m.0;
      within = ltb-true l.b n m.1;
      some = ltb-true 0 l.cost k.1;
      light = leb-true l.cost 65535 j.1;
      after = i.1;
    }

pub rising_split : (n : ℕ) (p l : Link) (ls : List Link) → rising_from n p (l ∷ ls) ≡ true →
    (follows n p l ≡ true) × (rising_from n l ls ≡ true)
unfolding rising_from
rising_split n p l ls t = and_parts (follows n p l) (rising_from n l ls) t

pub rising_parts : (n : ℕ) (p l : Link) (ls : List Link) → rising_from n p (l ∷ ls) ≡ true →
    Follows n p l × (rising_from n l ls ≡ true)
rising_parts n p l ls t = let h = rising_split n p l ls t in (follows_parts n p l h.0, h.1)

-- there are fewer links than pairs of nodes
pub rising_few : (n : ℕ) (p : Link) (ls : List Link) → n ≤ 64 → p.b < 64 → p.a * 64 + p.b < 4096 →
    rising_from n p ls ≡ true → p.a * 64 + p.b + length ls < 4096
rising_few n p [] h k j t = omega arith
rising_few n p (l ∷ ls) h k j t =
    let s = rising_parts n p l ls t in
    let f = s.0 in
    let i = rising_few n l ls h (omega (arith, f.within)) (omega (arith, f.within, f.order)) s.1 in
    elim (or_cases (ltb p.a l.a) (eqb p.a l.a && ltb p.b l.b) f.after) [
      | inl q ↦ omega (arith, ltb-true p.a l.a q)
      | inr q ↦
          let e = and_parts (eqb p.a l.a) (ltb p.b l.b) q in
          omega (arith, eqb-true p.a l.a e.0, ltb-true p.b l.b e.1)
    ]

-- the cost is that of the first link that joins the two
pub cost_here : (l : Link) (ls : List Link) (x y : ℕ) → joins (ends_of l) x y ≡ true → cost_in (l ∷ ls) x y ≡ l.cost
unfolding cost_in
cost_here l ls x y t = cond-true (joins (ends_of l) x y) l.cost (cost_in ls x y) t

pub cost_there : (l : Link) (ls : List Link) (x y : ℕ) → joins (ends_of l) x y ≡ false →
    cost_in (l ∷ ls) x y ≡ cost_in ls x y
unfolding cost_in
cost_there l ls x y t = cond-false (joins (ends_of l) x y) l.cost (cost_in ls x y) t

cost_symmetric : (ls : List Link) (x y : ℕ) → cost_in ls x y ≡ cost_in ls y x
unfolding cost_in
cost_symmetric [] x y = refl
cost_symmetric (l ∷ ls) x y = ap₂ (λ b c. cond b l.cost c) (joins_symmetric (ends_of l) x y) (cost_symmetric ls x y)

-- a property of every link is one of every cost
cost_each : (P : ℕ → Type 0) (n : ℕ) (p : Link) (ls : List Link) (x y : ℕ) → rising_from n p ls ≡ true → P 0 →
    ((q l : Link) → Follows n q l → joins (ends_of l) x y ≡ true → P l.cost) → P (cost_in ls x y)
unfolding cost_in
cost_each P n p [] x y t z h = z
cost_each P n p (l ∷ ls) x y t z h =
    let s = rising_parts n p l ls t in
    cond_both (joins (ends_of l) x y) l.cost (cost_in ls x y) P (λ e. h p l s.0 e) (λ e. cost_each P n l ls x y s.1 z h)

pub lawful : (n : ℕ) (ls : List Link) → rising n ls ≡ true → Lawful (network_of n ls)
lawful n ls t = record {
  symmetric = cost_symmetric ls;
  loopless = λ a. cost_each (λ c. c ≡ 0) n start ls a a t refl
      (λ q l f e. elim (joins_ends (ends_of l) a a e) [
        | inl h ↦ absurd (omega (arith, h.0, h.1, f.order))
        | inr h ↦ absurd (omega (arith, h.0, h.1, f.order))
      ]);
  within = λ a b. cost_each (λ c. 0 < c → (a < n) × (b < n)) n start ls a b t (λ h. absurd (omega arith))
      (λ q l f e _. elim (joins_ends (ends_of l) a b e) [
        | inl h ↦ (omega (arith, h.0, f.order, f.within), omega (arith, h.1, f.within))
        | inr h ↦ (omega (arith, h.0, f.within), omega (arith, h.1, f.order, f.within))
      ]);
}

pub limited : (n : ℕ) (ls : List Link) → n ≤ 64 → rising n ls ≡ true → Limited (network_of n ls)
limited n ls h t = record {
  few = h;
  light = λ a b. cost_each (λ c. c ≤ 65535) n start ls a b t (omega arith) (λ q l f e. f.light);
}
