-- Bytes, and numbers of two of them, the high one first.
use Rattle.std.proofs.Common.{◌≡◌, ℕ, ◌+◌, ◌*◌, ◌/◌, ◌%◌, ◌<◌, List, ◌++◌, length, drop, get_or, subst}
use Rattle.std.proofs.lemmas.List.{get_or-append-add, get_or-drop}
use Rattle.std.proofs.lemmas.Nat.{div-add-mod'}

abbrev pub Bytes : List ℕ → Type 0
Bytes bs = (i : ℕ) → get_or bs i 0 < 256

pub two_bytes : (c : ℕ) → c / 256 * 256 + c % 256 ≡ c
two_bytes c = div-add-mod' c 256

-- those behind others
pub behind : (xs bs : List ℕ) → Bytes (xs ++ bs) → Bytes bs
behind xs bs h i = subst (λ n. n < 256) (get_or-append-add xs bs i 0) (h (length xs + i))

pub bytes_from : (k : ℕ) (bs : List ℕ) → Bytes bs → Bytes (drop k bs)
bytes_from k bs h i = rw get_or-drop (h (k + i))
