-- Reading piece by piece, up to the first fault.
use Rattle.std.specs.Prelude.{ℕ, zero, suc, ◌-◌, if◌then◌else◌, List, [], ◌∷◌, length, drop, Some, None, Ok, Err, Option, Result, ◌==◌, nat_lt}
use Rattle.std.specs.Result.{result_map_both}
use Rattle.types.specs.declared.fault.ReadFault.{ReadFault}
use Rattle.types.specs.declared.fault.ReadFault.TheVariants.{Truncated, TrailingBytes}
use Rattle.wire.specs.declared.error.ReadError.{ReadError}

-- by a fault of the piece that begins at the byte i
abbrev pub refused : {A : Type 0} → ReadFault → ℕ → Result A ReadError
refused f i = Err (record { fault = f; at = i })

-- a fault of the piece that begins at the byte i
abbrev pub placed : {A : Type 0} → ℕ → Result A ReadFault → Result A ReadError
placed i r = result_map_both (λ x. x) (λ f. record { fault = f; at = i }) r

-- the end, which begins at the byte i: nothing is left over
abbrev pub ended : {A : Type 0} → ℕ → List ℕ → A → Result A ReadError
ended i bs x = if length bs == 0 then Ok x else refused TrailingBytes i

-- what a reader answers, its value in other words
abbrev pub read_as : {A B : Type 0} → (A → B) → Result A ReadError → Result B ReadError
read_as f r = result_map_both f (λ e. e) r

-- what stands in front, and the bytes after it, or why it is refused
abbrev pub Front : Type 0 → Type 0
Front A = Result (A × List ℕ) ReadFault

-- k bytes that spell x
abbrev pub whole : {A : Type 0} → ℕ → List ℕ → A → Front A
whole k bs x = if nat_lt (length bs) k then Err Truncated else Ok (x, drop k bs)

-- x may have a fault
abbrev pub unless : {A : Type 0} → Option ReadFault → A → Result A ReadFault
unless (Some f) x = Err f
unless None x = Ok x

abbrev pub judged : {A : Type 0} → (A → Option ReadFault) → Front A → Front A
judged fault (Ok p) = unless (fault p.0) p
judged fault (Err f) = Err f

-- a piece that begins at the byte i: refused, or followed by the rest
abbrev pub piece : {A B : Type 0} → ℕ → Front A → (A → List ℕ → Result B ReadError) → Result B ReadError
piece i (Ok p) more = more p.0 p.1
piece i (Err f) more = refused f i

-- k pieces, each judged by the last one before it, if there is one; and then the end. Of all the bytes, which are m,
-- bs are left.
unfoldable pub pieces_in : {A : Type 0} → (List ℕ → Front A) → (Option A → A → Option ReadFault) →
    (k : ℕ) (last : Option A) (m : ℕ) (bs : List ℕ) → Result (List A) ReadError
pieces_in at fault zero last m bs = ended (m - length bs) bs []
pieces_in at fault (suc k) last m bs =
    piece (m - length bs) (judged (fault last) (at bs))
    (λ x rest. read_as (λ xs. x ∷ xs) (pieces_in at fault k (Some x) m rest))
