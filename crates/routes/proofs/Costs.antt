-- Rows of 64 costs: what they say of each two nodes, and how links are written into them.
use Rattle.std.proofs.Common.{◌≡◌, ℕ, zero, suc, ◌+◌, ◌-◌, ◌*◌, ◌<◌, ◌≤◌, true, false, cond, ◌&&◌, eqb, ltb, List, [], ◌∷◌, length, get_or, take, drop, set, replicate, reverse, sym, ap, ap₂, ◌∙◌, subst, inl, inr, arith, length-set}
use mathlib.Core.Path.{fun_ext}
use Rattle.std.proofs.lemmas.Bool.{ltb-true, ltb-false, lt-ltb, eq-eqb, cases_lt, and_parts, cases_eq, cases_Bool, and_from, or_left, cond-true, cond-false}
use Rattle.std.proofs.lemmas.List.{get_or-replicate, get_or-set_same, get_or-set_other, get_or-take, get_or-drop, length-drop, length-take-le, drop_all, drop_more, get_or-reverse, get_or_default, length-reverse}
use Rattle.types.specs.Link.{ends_of}
use Rattle.links.specs.Links.{start, rising_from, rising, cost_in, network_of}
use Rattle.links.proofs.Lawful.{rising_parts, lawful}
use Rattle.routes.specs.Costs.{cost_at, network_in, put, CostRow}
use Rattle.theory.specs.Network.{joins, Lawful, LinkId, Network}
use Rattle.types.specs.NodeSets.{has}
use Rattle.types.specs.declared.node_set.NodeSet.{NodeSet}
use Rattle.routes.proofs.Sets.{Less, left_in, same_other}
use Rattle.theory.proofs.Joins.{joins_symmetric, joins_ends}
use Rattle.types.specs.declared.link.Link.{Link}

-- m has what f says of each two of n nodes
abbrev pub Holds : ℕ → (ℕ → ℕ → ℕ) → List ℕ → Type 0
Holds n f m = (a b : ℕ) → (a < n) × (b < n) → get_or m (a * 64 + b) 0 ≡ f a b

-- two cells are one only where row and column are
cell_inj : (a b x y : ℕ) → b < 64 → y < 64 → x * 64 + y ≡ a * 64 + b → (x ≡ a) × (y ≡ b)
cell_inj a b x y p q e = (omega arith, omega arith)

-- in the first n rows and columns, and elsewhere

pub cost_in_lem : (n : ℕ) (m : List ℕ) (a b : ℕ) → a < n → b < n → cost_at n m a b ≡ get_or m (a * 64 + b) 0
cost_in_lem n m a b p q = cond-true (ltb a n && ltb b n) (get_or m (a * 64 + b) 0) 0 (and_from (ltb a n) (ltb b n) (lt-ltb a n p) (lt-ltb b n q))

cost_within : (n : ℕ) (m : List ℕ) (a b : ℕ) → 0 < cost_at n m a b → (a < n) × (b < n)
cost_within n m a b h = elim (cases_Bool (ltb a n && ltb b n)) [
  | inl t ↦ let p = and_parts (ltb a n) (ltb b n) t in (ltb-true a n p.0, ltb-true b n p.1)
  | inr f ↦ absurd (omega (arith, cond-false (ltb a n && ltb b n) (get_or m (a * 64 + b) 0) 0 f))
]

-- the cells of a lawful network's costs say the same as the network

none_outside : (f : ℕ → ℕ → ℕ) (n a b : ℕ) → (0 < f a b → (a < n) × (b < n)) → ((a < n) × (b < n) → ⊥) → f a b ≡ 0
none_outside f n a b w h = elim (cases_lt 0 (f a b)) [ inl l ↦ absurd (h (w l)) | inr l ↦ omega arith ]

same_cost : (z : Network) → Lawful z → (m : List ℕ) → Holds z.n z.cost m → (a b : ℕ) → cost_at z.n m a b ≡ z.cost a b
same_cost z g m h a b = elim (cases_lt a z.n) [
  | inl p ↦ elim (cases_lt b z.n) [
    | inl q ↦ cost_in_lem z.n m a b p q ∙ h a b (p, q)
    | inr q ↦ outside (λ i. omega (arith, i.1))
  ]
  | inr p ↦ outside (λ i. omega (arith, i.0))
]
  where
    outside : ((a < z.n) × (b < z.n) → ⊥) → cost_at z.n m a b ≡ z.cost a b
    outside o = none_outside (cost_at z.n m) z.n a b (cost_within z.n m a b) o ∙ sym (none_outside z.cost z.n a b (g.within a b) o)

pub network_rows : (z : Network) → Lawful z → (m : List ℕ) → Holds z.n z.cost m → network_in z.n m ≡ z
network_rows z g m h = ap (λ f. record { n = z.n; cost = f }) (fun_ext (λ a. fun_ext (λ b. same_cost z g m h a b)))

pub holds_written : (n : ℕ) (ls : List Link) (i : ℕ) (m : List ℕ) → rising n ls ≡ true → i ≤ 0 → Holds n (cost_in (drop i ls)) m → network_in n m ≡ network_of n ls
holds_written n ls i m t z h =
    let e : i ≡ 0 = omega arith in
    network_rows (network_of n ls) (lawful n ls t) m (subst (λ k. Holds n (cost_in (drop k ls)) m) e h)

-- a link of a rising list
pub rising_at : (n : ℕ) (p : Link) (ls : List Link) (i : ℕ) (d : Link) → rising_from n p ls ≡ true → i < length ls → ((get_or ls i d).a < (get_or ls i d).b) × ((get_or ls i d).b < n)
rising_at n p [] i d t h = absurd (omega arith)
rising_at n p (l ∷ ls) zero d t h = let f = (rising_parts n p l ls t).0 in (f.order, f.within)
rising_at n p (l ∷ ls) (suc i) d t h = rising_at n l ls i d (rising_parts n p l ls t).1 (omega arith)

-- writing the links from the last to the first

pub holds_none : (n : ℕ) (ls : List Link) → n ≤ 64 → Holds n (cost_in (drop (length ls - 0) ls)) (replicate 4096 0)
unfolding cost_in
holds_none n ls h a b p = get_or-replicate {A = ℕ} 4096 (a * 64 + b) 0 0 (omega (arith, p.0, p.1)) ∙ sym (ap (λ l. cost_in l a b) (drop_all (length ls - 0) ls (omega arith)))

joined : (r : LinkId) (x y : ℕ) → (x ≡ r.a) × (y ≡ r.b) → joins r x y ≡ true
joined r x y e =
    or_left (eqb x r.a && eqb y r.b) (eqb x r.b && eqb y r.a) (and_from (eqb x r.a) (eqb y r.b) (eq-eqb x r.a e.0) (eq-eqb y r.b e.1))

put_at : (a b v : ℕ) (m : List ℕ) → a < 64 → b < 64 → length m ≡ 4096 → (x y : ℕ) → y < 64 → get_or (put a b v m) (x * 64 + y) 0 ≡ cond (joins (record { a = a; b = b }) x y) v (get_or m (x * 64 + y) 0)
put_at a b v m p q len x y w =
    let r : LinkId = record { a = a; b = b } in
    let i = a * 64 + b in
    let j = b * 64 + a in
    let s = set m i v in
    elim (cases_eq (x * 64 + y) j) [
      | inl e ↦
          let c = cell_inj b a x y p w e in
          ap (λ k. get_or (put a b v m) k 0) e ∙
          (get_or-set_same s j v 0 (omega (arith, length-set m i v)) ∙ sym (cond-true (joins r x y) v (get_or m (x * 64 + y) 0) (joins_symmetric r x y ∙ joined r y x (c.1, c.0))))
      | inr ne ↦ get_or-set_other s j (x * 64 + y) v 0 ne ∙ elim (cases_eq (x * 64 + y) i) [
        | inl e ↦
            let c = cell_inj a b x y q w e in
            ap (λ k. get_or s k 0) e ∙ (get_or-set_same m i v 0 (omega arith) ∙ sym (cond-true (joins r x y) v (get_or m (x * 64 + y) 0) (joined r x y c)))
        | inr nf ↦
            let f : joins r x y ≡ false = elim (cases_Bool (joins r x y)) [
              | inl t ↦ elim (joins_ends r x y t) [ inl c ↦ absurd (omega (arith, c.0, c.1)) | inr c ↦ absurd (omega (arith, c.0, c.1)) ]
              | inr f ↦ f
            ] in
            get_or-set_other m i (x * 64 + y) v 0 nf ∙ sym (cond-false (joins r x y) v (get_or m (x * 64 + y) 0) f)
      ]
    ]

put_holds : (n : ℕ) (l : Link) (ls : List Link) (m : List ℕ) → n ≤ 64 → l.a < n → l.b < n → length m ≡ 4096 → Holds n (cost_in ls) m → Holds n (cost_in (l ∷ ls)) (put l.a l.b l.cost m)
unfolding cost_in
put_holds n l ls m few p q len h x y w =
    put_at l.a l.b l.cost m (omega arith) (omega arith) len x y (omega (arith, w.1)) ∙ ap (λ c. cond (joins (ends_of l) x y) l.cost c) (h x y w)

-- the link that comes next, once k were taken from the end of the list
pub from_end : (n : ℕ) (ls : List Link) (k : ℕ) (l : Link) → rising n ls ≡ true → (k < length (reverse ls)) × (l ≡ get_or (reverse ls) k l) →
    (k < length ls) × (drop (length ls - (k + 1)) ls ≡ (l ∷ drop (length ls - k) ls)) × (l.a < l.b) × (l.b < n)
from_end n ls k l t h =
    let q : k < length ls = omega (arith, h.0, length-reverse ls) in
    let i = length ls - (k + 1) in
    let j : length ls - 1 - k ≡ i = omega arith in
    let e : l ≡ get_or ls i start = h.1 ∙ (get_or-reverse ls k l q ∙ (ap (λ x. get_or ls x l) j ∙ get_or_default ls i l start (omega arith))) in
    let u : i + 1 ≡ length ls - k = omega arith in
    let b = subst (λ (x : Link). (x.a < x.b) × (x.b < n)) (sym e) (rising_at n start ls i start t (omega arith)) in
    (q, drop_more ls i start (omega arith) ∙ ap₂ (λ x y. x ∷ drop y ls) (sym e) u, b.0, b.1)

pub holds_more : (n : ℕ) (ls : List Link) (k : ℕ) (l : Link) (m : List ℕ) → n ≤ 64 → rising n ls ≡ true → (k < length (reverse ls)) × (l ≡ get_or (reverse ls) k l) → length m ≡ 4096 →
    Holds n (cost_in (drop (length ls - k) ls)) m → Holds n (cost_in (drop (length ls - (k + 1)) ls)) (put l.a l.b l.cost m)
holds_more n ls k l m few t q len h =
    let e = from_end n ls k l t q in
    rw e.1 (put_holds n l (drop (length ls - k) ls) m few (omega (arith, e.2, e.3)) e.3 len h)

-- the costs of the links of a node, written into its row one after another

-- the links to the nodes of rest are not written yet
pub record Written (z : Network) (a : ℕ) (rest : NodeSet) (row : List ℕ) : Type 0 where
  pub some : (b : ℕ) → has rest b ≡ true → 0 < z.cost a b
  pub size : length row ≡ z.n
  pub done : (b : ℕ) → b < z.n → has rest b ≡ false → get_or row b 0 ≡ z.cost a b

pub written_none : (z : Network) (a : ℕ) (all : NodeSet) (row : List ℕ) → ((b : ℕ) → has all b ≡ ltb 0 (z.cost a b)) → length row ≡ z.n → ((b : ℕ) → b < length row → get_or row b 0 ≡ 0) → Written z a all row
written_none z a all row h size e = record {
  some = λ b i. ltb-true 0 (z.cost a b) (sym (h b) ∙ i);
  size = size;
  done = λ b p i. omega (arith, e b (omega arith), ltb-false 0 (z.cost a b) (sym (h b) ∙ i));
}

pub written_more : (z : Network) (a : ℕ) (rest less : NodeSet) (row : List ℕ) (b c : ℕ) → b < z.n → Less b rest less → c ≡ z.cost a b → Written z a rest row → Written z a less (set row b c)
written_more z a rest less row b c p l e w = record {
  some = λ x i. w.some x (left_in rest less b l x i);
  size = length-set row b c ∙ w.size;
  done = λ x q i. elim (cases_eq x b) [
    | inl j ↦ rw j (get_or-set_same row b c 0 (omega (arith, w.size)) ∙ e)
    | inr j ↦ get_or-set_other row b x c 0 j ∙ w.done x q (sym (same_other rest less b l x j) ∙ i)
  ];
}

pub written_all : (z : Network) (a : ℕ) (rest : NodeSet) (row : List ℕ) → ((b : ℕ) → has rest b ≡ false) → Written z a rest row → CostRow z a row
written_all z a rest row none w = record { size = w.size; each = λ b p. w.done b p (none b) }

-- the rows are parts of it
pub row_costs : (n : ℕ) (m : List ℕ) (a : ℕ) → n ≤ 64 → a < n → length m ≡ 4096 → CostRow (network_in n m) a (take (a * 64 + n - a * 64) (drop (a * 64) m))
row_costs n m a few h len =
    let e : a * 64 + n - a * 64 ≡ n = omega arith in
    record {
      size = ap (λ k. length (take k (drop (a * 64) m))) e ∙ length-take-le n (drop (a * 64) m) (omega (arith, length-drop (a * 64) m));
      each = λ b l. get_or-take (a * 64 + n - a * 64) (drop (a * 64) m) b 0 (omega arith) ∙ (get_or-drop (a * 64) m b 0 ∙ sym (cost_in_lem n m a b h l));
    }
