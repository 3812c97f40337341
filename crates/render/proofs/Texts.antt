-- Text that is put together piece by piece.
use Rattle.std.proofs.Common.{◌≡◌, ℕ, zero, suc, ◌+◌, List, [], ◌∷◌, ◌++◌, codes, decimal, sym, refl, ap, ◌∙◌, append_assoc, add-one, arith}
use Rattle.std.proofs.lemmas.List.{append-nil}
use Rattle.theory.specs.Network.{Network}
use Rattle.theory.specs.Distance.{distance}
use Rattle.theory.specs.NextHop.{next_hop}
use Rattle.render.specs.Text.{cells, row, rows, header, table, tables}

-- one piece behind another
pub behind : {A : Type 0} (xs ys zs : List A) (a b c : List A) → b ≡ (a ++ xs) → c ≡ (b ++ ys) → zs ≡ (xs ++ ys) → c ≡ (a ++ zs)
behind xs ys zs a b c p q r = q ∙ (ap (λ l. l ++ ys) p ∙ (append_assoc a xs ys ∙ ap (λ l. a ++ l) (sym r)))

pub three : {A : Type 0} (a b c : List A) (r s t u : List A) → s ≡ (r ++ a) → t ≡ (s ++ b) → u ≡ (t ++ c) → u ≡ (r ++ (a ++ (b ++ c)))
three a b c r s t u p q h = behind a (b ++ c) (a ++ (b ++ c)) r s u p (behind b c (b ++ c) s t u q h refl) refl

pub four : {A : Type 0} (a b c d : List A) (r s t u v : List A) → s ≡ (r ++ a) → t ≡ (s ++ b) → u ≡ (t ++ c) → v ≡ (u ++ d) → v ≡ (r ++ (a ++ (b ++ (c ++ d))))
four a b c d r s t u v p q h i = behind a (b ++ (c ++ d)) (a ++ (b ++ (c ++ d))) r s v p (three b c d s t u v q h i) refl

pub no_cells : (f : ℕ → List ℕ) (k : ℕ) (xs : List ℕ) → k ≡ 0 → xs ≡ (xs ++ cells f k)
unfolding cells
no_cells f zero xs e = sym (append-nil xs)
no_cells f (suc k) xs e = absurd (omega arith)

-- a cell and the space before it in one piece
pub next_cell : (f : ℕ → List ℕ) (k i j : ℕ) (a b c : List ℕ) → b ≡ (a ++ cells f k) → c ≡ (b ++ (32 ∷ f i)) → i ≡ k → j ≡ i + 1 → c ≡ (a ++ cells f j)
unfolding cells
next_cell f k i j a b c p q e h = rw (h, e, add-one) (behind (cells f k) (32 ∷ f k) (cells f (suc k)) a b c p (rw e at q) refl)

pub no_rows : (n : ℕ) (f : ℕ → ℕ → List ℕ) (k : ℕ) (xs : List ℕ) → k ≡ 0 → xs ≡ (xs ++ rows n f k)
unfolding rows
no_rows n f zero xs e = sym (append-nil xs)
no_rows n f (suc k) xs e = absurd (omega arith)

pub next_row : (n : ℕ) (f : ℕ → ℕ → List ℕ) (k i j : ℕ) (a b c : List ℕ) → b ≡ (a ++ rows n f k) → c ≡ (b ++ row (decimal i) (f i) n) → i ≡ k → j ≡ i + 1 → c ≡ (a ++ rows n f j)
unfolding rows
next_row n f k i j a b c p q e h = rw (h, e, add-one) (behind (rows n f k) (row (decimal k) (f k) n) (rows n f (suc k)) a b c p (rw e at q) refl)

pub row_text : (name : List ℕ) (f : ℕ → List ℕ) (n : ℕ) (s t u v : List ℕ) → t ≡ (s ++ (name ++ (58 ∷ []))) → u ≡ (t ++ cells f n) → v ≡ (u ++ (10 ∷ [])) → v ≡ (s ++ row name f n)
row_text name f n s t u v p q r = three (name ++ (58 ∷ [])) (cells f n) (10 ∷ []) s t u v p q r ∙ ap (λ x. s ++ x) (append_assoc name (58 ∷ []) (cells f n ++ (10 ∷ [])))

pub tables_text : (z : Network) (n : ℕ) (r s t u v : List ℕ) → n ≡ z.n → s ≡ (r ++ header n) → t ≡ (s ++ table n (λ a d. distance z d a)) → u ≡ (t ++ codes "tables\n") → v ≡ (u ++ table n (λ a d. next_hop z d a)) → v ≡ (r ++ tables z)
tables_text z n r s t u v e p q h i =
    let from : ℕ → ℕ → _ = λ a d. distance z d a in
    let next : ℕ → ℕ → _ = λ a d. next_hop z d a in
    four (header n) (table n from) (codes "tables\n") (table n next) r s t u v p q h i ∙ ap (λ k. r ++ (header k ++ (table k from ++ (codes "tables\n" ++ table k next)))) e
