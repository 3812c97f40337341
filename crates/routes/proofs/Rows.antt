-- Rows of 64, one written after another.
use Rattle.std.proofs.Common.{◌≡◌, ℕ, ◌+◌, ◌-◌, ◌<◌, ◌≤◌, eqb, List, ◌++◌, length, get_or, take, Some, None, sym, ap, ◌∙◌, arith}
use Rattle.std.proofs.lemmas.Bool.{ne_eqb, cond-false}
use Rattle.std.proofs.lemmas.List.{get_or_append_left, length-take-le, get_or-take, get_or-drop, get_or-append_right}
use Rattle.std.proofs.lemmas.Slice.{drop-put_mid}
use borrow.Rule.Slice.PartMut.{put_mid, post_of}
use Rattle.routes.specs.Distances.{decoded}
use Rattle.theory.specs.Distance.{distance}
use Rattle.theory.specs.Network.{Network, Lawful, Limited}
use Rattle.theory.proofs.HopPaths.{bounded}

-- what a list holds after a part of it was written

pub put_below : {X : Type 0} (s k : ℕ) (xs ys : List X) (i : ℕ) (v : X) → s ≤ length xs → i < s → get_or (put_mid s k xs ys) i v ≡ get_or xs i v
put_below s k xs ys i v h l = get_or_append_left (take s xs) _ v i (omega (arith, length-take-le s xs h)) ∙ get_or-take s xs i v l

pub put_in : {X : Type 0} (s k : ℕ) (xs ys : List X) (j : ℕ) (v : X) → s ≤ length xs → j < length ys → get_or (put_mid s k xs ys) (s + j) v ≡ get_or ys j v
put_in s k xs ys j v h l =
    let e : s + j - s ≡ j = omega arith in
    get_or-append_right (take s xs) (ys ++ post_of s k xs) s (s + j) v (length-take-le s xs h) (omega arith) ∙
    (ap (λ i. get_or (ys ++ post_of s k xs) i v) e ∙ get_or_append_left ys (post_of s k xs) v j l)

pub put_above : {X : Type 0} (s k : ℕ) (xs ys : List X) (i : ℕ) (v : X) → s ≤ length xs → length ys ≡ k → s + k ≤ i → get_or (put_mid s k xs ys) i v ≡ get_or xs i v
put_above s k xs ys i v h e l =
    let j : s + k + (i - (s + k)) ≡ i = omega arith in
    ap (λ x. get_or (put_mid s k xs ys) x v) (sym j) ∙
    (sym (get_or-drop (s + k) (put_mid s k xs ys) (i - (s + k)) v) ∙
    (ap (λ l. get_or l (i - (s + k)) v) (drop-put_mid s k xs ys (s + k) (omega arith) h e) ∙ (get_or-drop (s + k) xs (i - (s + k)) v ∙ ap (λ x. get_or xs x v) j)))

-- an entry that is a distance
pub read_some : (z : Network) → Lawful z → Limited z → (d a x : ℕ) → (x ≡ 4294967295 → ⊥) → decoded x ≡ distance z d a → (Some x ≡ distance z d a) × (x ≤ 4128705)
read_some z g s d a x h t =
    let e : Some x ≡ distance z d a = sym (cond-false (eqb x 4294967295) None (Some x) (ne_eqb x 4294967295 h)) ∙ t in
    (e, bounded z g s d a x (sym e))
