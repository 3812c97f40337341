-- The entries are right.
use Rattle.std.proofs.Common.{◌≡◌, ℕ, true, ◌&&◌, eqb, Some, None, Option, sym, refl, ap, ◌∙◌, inl, inr, arith}
use Rattle.std.proofs.lemmas.Bool.{eq-eqb, cases_Bool, and_from, or_left, cond-true, cond-false}
use Rattle.theory.specs.Network.{joins, without, Network, Lawful, LinkId}
use Rattle.theory.specs.Distance.{distance}
use Rattle.theory.specs.NextHop.{same, next_hop}
use Rattle.theory.specs.Repair as theory
use Rattle.theory.specs.Repair.{via, repair, sends, laid_by, laid, Repair, Laid}
use Rattle.theory.proofs.NextHops.{same_eq}
use Rattle.theory.proofs.Repairs.{some_none, serves, same_path_repaired, no_repair}
use Rattle.repairs.specs.Entries.{meaning}
use Rattle.repairs.specs.Serving.{Mends, Right}
use Rattle.repairs.specs.declared.repair.Entry.{Entry}
use Rattle.repairs.specs.declared.repair.Entry.TheVariants as entries

-- the repair, if any, and a number for each case
found : Laid → Option Repair
found theory.Unused = None
found theory.Apart = None
found (theory.Via p q) = via p q

number : Laid → ℕ
number theory.Unused = 0
number theory.Apart = 1
number (theory.Via p q) = 2

by_none : (o : Option Repair) → number (laid_by o) ≡ 1 → o ≡ None
unfolding number
by_none None h = refl
by_none (Some x) h = absurd (let k : ◌≡◌ {A = ℕ} 2 1 = h in omega arith)

never_unused : (o : Option Repair) → number (laid_by o) ≡ 0 → ⊥
unfolding number
never_unused None h = let k : ◌≡◌ {A = ℕ} 1 0 = h in omega arith
never_unused (Some x) h = let k : ◌≡◌ {A = ℕ} 2 0 = h in omega arith

by_some : (o : Option Repair) → found (laid_by o) ≡ o
unfolding found
by_some None = refl
by_some (Some x) = refl

pub own_link_lem : (s f : ℕ) → joins (record { a = s; b = f }) s f ≡ true
own_link_lem s f = or_left (eqb s s && eqb f f) (eqb s f && eqb f s) (and_from (eqb s s) (eqb f f) (eq-eqb s s refl) (eq-eqb f f refl))

abbrev own_link : ℕ → ℕ → LinkId
own_link s f = record { a = s; b = f }

-- where it sends over the link, there is the repair, and only there
laid_sent : (z : Network) (s f d : ℕ) (x : Laid) → x ≡ laid z s f d → sends z s f d ≡ true → x ≡ laid_by (repair z (own_link s f) s d)
laid_sent z s f d x e t = e ∙ cond-true (sends z s f d) (laid_by (repair z (own_link s f) s d)) theory.Unused t

sent : (z : Network) (s f d : ℕ) (x : Laid) → x ≡ laid z s f d → (number x ≡ 0 → ⊥) → sends z s f d ≡ true
unfolding number
sent z s f d x e n = elim (cases_Bool (sends z s f d)) [
  | inl t ↦ t
  | inr t ↦ absurd (n (ap number (e ∙ cond-false (sends z s f d) (laid_by (repair z (own_link s f) s d)) theory.Unused t)))
]

unused_right : (z : Network) (s f d : ℕ) → theory.Unused ≡ laid z s f d → next_hop z d s ≡ Some f → ⊥
unfolding number
unused_right z s f d e h =
    let t : sends z s f d ≡ true = ap (λ o. same o (Some f)) h ∙ eq-eqb f f refl in
    never_unused (repair z (own_link s f) s d) (sym (ap number (laid_sent z s f d theory.Unused e t)))

apart_right : (z : Network) → Lawful z → (s f d : ℕ) → theory.Apart ≡ laid z s f d → (next_hop z d s ≡ Some f) × (distance (without (own_link s f) z) d s ≡ None)
unfolding number
apart_right z g s f d e =
    let t = sent z s f d theory.Apart e (λ k. let m : ◌≡◌ {A = ℕ} 1 0 = k in omega arith) in
    let hop = same_eq (next_hop z d s) (Some f) t in
    (hop, (no_repair z g (own_link s f) s f d (own_link_lem s f) hop).0 (by_none (repair z (own_link s f) s d) (sym (ap number (laid_sent z s f d theory.Apart e t)))))

mends : (z : Network) → Lawful z → (s f d : ℕ) (x : Repair) → next_hop z d s ≡ Some f → repair z (own_link s f) s d ≡ Some x → Mends z (own_link s f) s d x
mends z g s f d x hop e = go (distance (without (own_link s f) z) d s) refl
  where
    go : (o : Option ℕ) → distance (without (own_link s f) z) d s ≡ o → Mends z (own_link s f) s d x
    go None q = absurd (some_none x (sym e ∙ (no_repair z g (own_link s f) s f d (own_link_lem s f) hop).1 q))
    go (Some c) q = record { cost = c; left = q; serves = serves z g (own_link s f) s d c x e q; same_path = same_path_repaired z g (own_link s f) s d x e }

via_right : (z : Network) → Lawful z → (s f d p q : ℕ) → theory.Via p q ≡ laid z s f d → (next_hop z d s ≡ Some f) × Mends z (own_link s f) s d (record { p = p; q = q })
unfolding number found
via_right z g s f d p q e =
    let t = sent z s f d (theory.Via p q) e (λ k. let m : ◌≡◌ {A = ℕ} 2 0 = k in omega arith) in
    let hop = same_eq (next_hop z d s) (Some f) t in
    let k : repair z (own_link s f) s d ≡ via p q = sym (by_some (repair z (own_link s f) s d)) ∙ sym (ap found (laid_sent z s f d (theory.Via p q) e t)) in
    (hop, mends z g s f d (record { p = p; q = q }) hop k)

pub right : (z : Network) → Lawful z → (s f d : ℕ) (e : Entry) → meaning e ≡ laid z s f d → Right z s f d e
right z g s f d entries.Unused h = unused_right z s f d h
right z g s f d entries.Apart h = apart_right z g s f d h
right z g s f d (entries.Via x) h = via_right z g s f d x.p x.q h
