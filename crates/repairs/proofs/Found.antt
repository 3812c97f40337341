-- What is found along the post-convergence path, and what it says of the entry.
use Rattle.std.proofs.Common.{◌≡◌, ℕ, ◌+◌, ◌*◌, ◌<◌, ◌≤◌, true, cond, List, length, get_or, set, Some, None, Option, sym, ap, ◌∙◌, inl, inr, arith}
use Rattle.std.proofs.lemmas.Bool.{cases_eq, cond-true}
use Rattle.std.proofs.lemmas.List.{get_or-set_same, get_or-set_other}
use borrow.Rule.Slice.PartMut.{put_mid}
use Rattle.routes.proofs.Rows.{put_below, put_in, put_above}
use Rattle.repairs.proofs.Right.{own_link_lem, right}
use Rattle.repairs.specs.Table.{IsRow, IsLinkFilled}
use Rattle.repairs.specs.Entries.{meaning}
use Rattle.theory.specs.Repair.{via, later, repair, sends, last_reached, laid_by, laid, Repair, Unused}
use Rattle.theory.specs.NextHop.{next_hop, path}
use Rattle.theory.specs.Network.{without, Network, Lawful}
use Rattle.theory.proofs.Reached.{reached}
use Rattle.theory.proofs.NextHops.{same_eq}
use Rattle.theory.proofs.HopPaths.{path_stop, path_to}
use Rattle.repairs.specs.declared.repair.Entry.{Entry}
use Rattle.repairs.specs.declared.repair.Entry.TheVariants as entries

pub along_stop : (z y : Network) (s f d w : ℕ) → None ≡ next_hop y d w → None ≡ last_reached z s f w (path y d w)
unfolding last_reached
along_stop z y s f d w e = ap (λ ws. last_reached z s f w ws) (sym (path_stop y d w (sym e)))

pub along_step : (z y : Network) → Lawful y → (s f d w q : ℕ) → Some q ≡ next_hop y d w → last_reached z s f w (path y d w) ≡ later (last_reached z s f q (path y d q)) (cond (sends z s f w) None (via w q))
unfolding last_reached
along_step z y g s f d w q e = ap (λ ws. last_reached z s f w ws) (path_to y g d w q (sym e))

-- what was found is the entry's repair
pub laid_found : (z y : Network) → Lawful z → (s f d : ℕ) → y ≡ without (record { a = s; b = f }) z → sends z s f d ≡ true → (o : Option Repair) → o ≡ last_reached z s f s (path y d s) → laid_by o ≡ laid z s f d
laid_found z y g s f d e t o h =
    let k = reached z g (record { a = s; b = f }) s f d (own_link_lem s f) (same_eq (next_hop z d s) (Some f) t) in
    ap laid_by (h ∙ (ap (λ x. last_reached z s f s (path x d s)) e ∙ k)) ∙ sym (cond-true (sends z s f d) (laid_by (repair z (record { a = s; b = f }) s d)) Unused t)

-- one entry more of a row
pub row_more : (z : Network) (s f k : ℕ) (row : List Entry) (e : Entry) → k < length row → IsRow z s f k row → meaning e ≡ laid z s f k → IsRow z s f (k + 1) (set row k e)
row_more z s f k row e l h p d q = elim (cases_eq d k) [
  | inl x ↦ ap meaning (ap (λ i. get_or (set row k e) i entries.Unused) x ∙ get_or-set_same row k e entries.Unused l) ∙ (p ∙ ap (λ i. laid z s f i) (sym x))
  | inr x ↦ ap meaning (get_or-set_other row k d e entries.Unused x) ∙ h d (omega arith)
]

-- a row within a table
pub link_filled : (z : Network) → Lawful z → (s f k : ℕ) (old row : List Entry) → f < 64 → z.n ≤ 64 → length old ≡ 4096 → length row ≡ k → k ≡ z.n → IsRow z s f z.n row → IsLinkFilled z s f old (put_mid (f * 64) k old row)
link_filled z g s f k old row l few len size e h =
    let here = λ (d : ℕ) (p : d < z.n). ap meaning (put_in (f * 64) k old row d entries.Unused (omega arith) (omega arith)) ∙ h d p in
    record {
      row = here;
      right = λ d p. right z g s f d (get_or (put_mid (f * 64) k old row) (f * 64 + d) entries.Unused) (here d p);
      rest = λ i p. elim p [
        | inl q ↦ put_below (f * 64) k old row i entries.Unused (omega arith) q
        | inr q ↦ put_above (f * 64) k old row i entries.Unused (omega arith) size (omega arith)
      ];
    }
