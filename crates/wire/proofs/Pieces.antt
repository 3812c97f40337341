-- Pieces in front of bytes, one after another: what is answered, what was read, and what is read of what is written.
use Rattle.std.proofs.Common.{◌≡◌, ℕ, zero, suc, ◌+◌, ◌-◌, ◌<◌, ◌≤◌, List, [], ◌∷◌, ◌++◌, length, drop, None, Some, Ok, Err, Option, Result, sym, refl, ap, ◌∙◌, subst, arith, rules}
use Rattle.std.specs.List.{flat_map}
use Rattle.types.specs.declared.fault.ReadFault.{ReadFault}
use Rattle.wire.specs.declared.error.ReadError.{ReadError}
use Rattle.wire.specs.Cursor.{placed, ended, read_as, Front, whole, unless, judged, piece, pieces_in}
use Rattle.wire.proofs.Bytes.{Bytes, behind}

-- what is answered of a piece that its reader gives, or does not give
module _ {A : Type 0} (fault : A → Option ReadFault) (i : ℕ) (r : Front A) where
  nothing_placed : (f : ReadFault) (e : ReadError) → r ≡ Err f → e ≡ record { fault = f; at = i } →
      placed i (judged fault r) ≡ Err e
  nothing_placed f e h k = ap (λ x. placed i (judged fault x)) h ∙ sym (ap Err k)

  fault_placed : (p : A × List ℕ) (e : ReadError) → r ≡ Ok p → Err e ≡ placed i (unless (fault p.0) (tt {0})) →
      placed i (judged fault r) ≡ Err e
  fault_placed p e h k = ap (λ x. placed i (judged fault x)) h ∙ by (fault p.0) k
    where
      by : (o : Option ReadFault) → Err e ≡ placed i (unless o (tt {0})) → placed i (unless o p) ≡ Err e
      by (Some f) q = let z : record { fault = f; at = i } ≡ e = cc in ap Err z
      by None q = cc

  fine_placed : (p : A × List ℕ) → r ≡ Ok p → Ok tt ≡ placed i (unless (fault p.0) (tt {0})) →
      placed i (judged fault r) ≡ Ok p
  fine_placed p h k = ap (λ x. placed i (judged fault x)) h ∙ by (fault p.0) k
    where
      by : (o : Option ReadFault) → Ok tt ≡ placed i (unless o (tt {0})) → placed i (unless o p) ≡ Ok p
      by (Some f) q = cc
      by None q = refl

  judged_ok : (p : A × List ℕ) → judged fault r ≡ Ok p → (r ≡ Ok p) × (fault p.0 ≡ None)
  judged_ok p e = search rules

-- what follows from that, and the other way round
module _ {A B : Type 0} (i : ℕ) (r : Front A) (more : A → List ℕ → Result B ReadError) where
  piece_refused : (e : ReadError) → placed i r ≡ Err e → piece i r more ≡ Err e
  piece_refused e q = search rules

  piece_taken : (p : A × List ℕ) → placed i r ≡ Ok p → piece i r more ≡ more p.0 p.1
  piece_taken p e = taken r e
    where
      taken : (x : Front A) → placed i x ≡ Ok p → piece i x more ≡ more p.0 p.1
      taken (Ok q) h = let z : q ≡ p = cc in ap (λ v. more v.0 v.1) z
      taken (Err f) h = cc

  piece_ok : (x : B) → piece i r more ≡ Ok x → (p : A × List ℕ) × (r ≡ Ok p) × (more p.0 p.1 ≡ Ok x)
  piece_ok x e = was r e
    where
      was : (y : Front A) → piece i y more ≡ Ok x → (p : A × List ℕ) × (y ≡ Ok p) × (more p.0 p.1 ≡ Ok x)
      was (Ok p) h = (p, refl, h)
      was (Err f) h = cc

-- the end

ended_fine : {A B : Type 0} (i : ℕ) (bs : List ℕ) (x : A) (y : B) → Ok x ≡ ended i bs x → ended i bs y ≡ Ok y
ended_fine i bs x y h = search rules

ended_refused : {A B : Type 0} (i : ℕ) (bs : List ℕ) (x : A) (y : B) (e : ReadError) → Err e ≡ ended i bs x →
    ended i bs y ≡ Err e
ended_refused i bs x y e h = search rules

pub ended_ok : {A : Type 0} (i : ℕ) (bs : List ℕ) (x y : A) → ended i bs x ≡ Ok y → (bs ≡ []) × (x ≡ y)
ended_ok i [] x y e = let h : x ≡ y = cc in (refl, h)
ended_ok i (b ∷ bs) x y e = search rules

-- an answer in other words

pub read_as_ok : {A B : Type 0} (f : A → B) (r : Result A ReadError) (y : B) → read_as f r ≡ Ok y →
    (x : A) × (r ≡ Ok x) × (f x ≡ y)
read_as_ok f (Ok x) y e = let q : f x ≡ y = cc in (x, refl, q)
read_as_ok f (Err d) y e = cc

pub no_fault : (x : Option ReadFault) (i : ℕ) → Ok tt ≡ placed i (unless x (tt {0})) → x ≡ None
no_fault x i e = search rules

-- k bytes that spell x are all there

pub whole_fine : {A : Type 0} (k : ℕ) (bs : List ℕ) (x : A) → k ≤ length bs → whole k bs x ≡ Ok (x, drop k bs)
whole_fine k bs x h = search rules

whole_ok : {A : Type 0} (k : ℕ) (bs : List ℕ) (x : A) (p : A × List ℕ) → whole k bs x ≡ Ok p →
    (k ≤ length bs) × (p ≡ (x, drop k bs))
whole_ok k bs x p e = search rules

-- a header h of k bytes, and more behind it
module _ {A B : Type 0} (fault : A → Option ReadFault) (k : ℕ) (bs : List ℕ) (h : A)
    (more : A → List ℕ → Result B ReadError) where
  abbrev Answer : Result B ReadError
  Answer = piece 0 (judged fault (whole k bs h)) more

  pub header_read : k ≤ length bs → fault h ≡ None → Answer ≡ more h (drop k bs)
  header_read l q =
      ap (λ r. piece 0 (judged fault r) more) (whole_fine k bs h l) ∙
      ap (λ o. piece 0 (unless o (h, drop k bs)) more) q

  pub header_ok : (x : B) → Answer ≡ Ok x → (k ≤ length bs) × (fault h ≡ None) × (more h (drop k bs) ≡ Ok x)
  header_ok x e =
      let q = piece_ok 0 (judged fault (whole k bs h)) more x e in
      let j = judged_ok fault 0 (whole k bs h) q.0 q.1 in
      let w = whole_ok k bs h q.0 j.0 in
      (w.0, ap (λ v. fault v.0) (sym w.1) ∙ j.1, ap (λ v. more v.0 v.1) (sym w.1) ∙ q.2)

-- pieces one after another
module _ {A : Type 0} (at : List ℕ → Front A) (fault : Option A → A → Option ReadFault) where
  no_more : (k : ℕ) (last : Option A) (m : ℕ) (bs : List ℕ) → k ≡ 0 →
      pieces_in at fault k last m bs ≡ ended (m - length bs) bs []
  unfolding pieces_in
  no_more zero last m bs z = refl
  no_more (suc k) last m bs z = absurd (omega arith)

  -- x and the i pieces behind it
  abbrev before : (i m : ℕ) → A → List ℕ → Result (List A) ReadError
  before i m x rest = read_as (λ xs. x ∷ xs) (pieces_in at fault i (Some x) m rest)

  one_more : (k i : ℕ) (last : Option A) (m : ℕ) (bs : List ℕ) → i + 1 ≡ k →
      pieces_in at fault k last m bs ≡ piece (m - length bs) (judged (fault last) (at bs)) (before i m)
  unfolding pieces_in
  one_more zero i last m bs z = absurd (omega arith)
  one_more (suc k) i last m bs z =
      let y : k ≡ i = omega arith in
      ap (λ j. piece (m - length bs) (judged (fault last) (at bs)) (before j m)) y

  -- the answer w is what g makes of the pieces that are left
  module _ {B : Type 0} (g : List A → B) (k : ℕ) (last : Option A) (m : ℕ) (bs : List ℕ) (w : Result B ReadError)
      (is : read_as g (pieces_in at fault k last m bs) ≡ w) where
    pub all_read : k ≡ 0 → Ok (tt {0}) ≡ ended (m - length bs) bs (tt {0}) → Ok (g []) ≡ w
    all_read z e = sym (ap (read_as g) (no_more k last m bs z ∙ ended_fine (m - length bs) bs tt [] e)) ∙ is

    pub left_over : (e : ReadError) → k ≡ 0 → Err e ≡ ended (m - length bs) bs (tt {0}) → Err e ≡ w
    left_over e z h = sym (ap (read_as g) (no_more k last m bs z ∙ ended_refused (m - length bs) bs tt [] e h)) ∙ is

    refused : (e : ReadError) → 0 < k → placed (m - length bs) (judged (fault last) (at bs)) ≡ Err e → Err e ≡ w
    refused e l h =
        let z : k - 1 + 1 ≡ k = omega arith in
        let r = piece_refused (m - length bs) (judged (fault last) (at bs)) (before (k - 1) m) e h in
        sym (ap (read_as g) (one_more k (k - 1) last m bs z ∙ r)) ∙ is

    pub nothing_there : (f : ReadFault) (e : ReadError) → 0 < k → at bs ≡ Err f →
        e ≡ record { fault = f; at = m - length bs } → Err e ≡ w
    nothing_there f e l h q = refused e l (nothing_placed (fault last) (m - length bs) (at bs) f e h q)

    pub refused_here : (p : A × List ℕ) (e : ReadError) → 0 < k → at bs ≡ Ok p →
        Err e ≡ placed (m - length bs) (unless (fault last p.0) (tt {0})) → Err e ≡ w
    refused_here p e l h q = refused e l (fault_placed (fault last) (m - length bs) (at bs) p e h q)

    -- f makes as much of the pieces behind the one that is read
    pub read_one : (f : List A → B) (i : ℕ) (p : A × List ℕ) → i + 1 ≡ k → at bs ≡ Ok p →
        Ok tt ≡ placed (m - length bs) (unless (fault last p.0) (tt {0})) → ((xs : List A) → f xs ≡ g (p.0 ∷ xs)) →
        read_as f (pieces_in at fault i (Some p.0) m p.1) ≡ w
    read_one f i p z h q e =
        let placed_so = fine_placed (fault last) (m - length bs) (at bs) p h q in
        let t = piece_taken (m - length bs) (judged (fault last) (at bs)) (before i m) p placed_so in
        same (pieces_in at fault i (Some p.0) m p.1) ∙ (sym (ap (read_as g) (one_more k i last m bs z ∙ t)) ∙ is)
      where
        same : (r : Result (List A) ReadError) → read_as f r ≡ read_as g (read_as (λ xs. p.0 ∷ xs) r)
        same (Ok xs) = ap Ok (e xs)
        same (Err d) = refl

  -- none of them has a fault
  abbrev pub Passed : Option A → List A → Type 0
  Passed last [] = Unit {0}
  Passed last (x ∷ xs) = (fault last x ≡ None) × Passed (Some x) xs

  module _ (bytes : A → List ℕ) where
    pub record WasRead (k : ℕ) (last : Option A) (bs : List ℕ) (xs : List A) : Type 0 where
      pub count : length xs ≡ k
      pub passed : Passed last xs
      pub spelled : flat_map bytes xs ≡ bs

    -- what is read was written so, if each piece was
    pub was_read : ((bs : List ℕ) (p : A × List ℕ) → Bytes bs → at bs ≡ Ok p → bytes p.0 ++ p.1 ≡ bs) →
        (k : ℕ) (last : Option A) (m : ℕ) (bs : List ℕ) (xs : List A) → Bytes bs →
        pieces_in at fault k last m bs ≡ Ok xs → WasRead k last bs xs
    unfolding pieces_in
    was_read spells zero last m bs xs b e =
        let f = ended_ok (m - length bs) bs [] xs e in
        subst (WasRead 0 last bs) f.1 (record { count = refl; passed = tt; spelled = sym f.0 })
    was_read spells (suc k) last m bs xs b e =
        let p = piece_ok (m - length bs) (judged (fault last) (at bs)) (before k m) xs e in
        let j = judged_ok (fault last) 0 (at bs) p.0 p.1 in
        let s = spells bs p.0 b j.0 in
        let r = read_as_ok (λ ys. p.0.0 ∷ ys) (pieces_in at fault k (Some p.0.0) m p.0.1) xs p.2 in
        let b' = behind (bytes p.0.0) p.0.1 (subst Bytes (sym s) b) in
        let i = was_read spells k (Some p.0.0) m p.0.1 r.0 b' r.1 in
        subst (WasRead (suc k) last bs) r.2 (record {
          count = ap suc i.count;
          passed = (j.1, i.passed);
          spelled = ap (λ rest. bytes p.0.0 ++ rest) i.spelled ∙ s;
        })

    -- what is written is read, if each piece is
    pub reads_back : ((x : A) (bs : List ℕ) → at (bytes x ++ bs) ≡ Ok (x, bs)) →
        (last : Option A) (m : ℕ) (xs : List A) → Passed last xs →
        pieces_in at fault (length xs) last m (flat_map bytes xs) ≡ Ok xs
    unfolding pieces_in
    reads_back reads last m [] h = refl
    reads_back reads last m (x ∷ xs) h =
        let bs = flat_map bytes xs in
        let i = m - length (flat_map bytes (x ∷ xs)) in
        let j = ap (judged (fault last)) (reads x bs) ∙ ap (λ o. unless o (x, bs)) h.0 in
        ap (λ r. piece i r (before (length xs) m)) j ∙
        ap (read_as (λ ys. x ∷ ys)) (reads_back reads (Some x) m xs h.1)
