-- A frame: the node that it comes from (1 byte), the length of its message (2, the high byte first), and the message.
use Rattle.std.specs.Prelude.{◌≡◌, ℕ, ◌+◌, ◌*◌, ◌<◌, ◌≤◌, List, None, Option, Some, length, take, drop, slice_index}
use Rattle.wire.specs.declared.frame.Frame.{Frame}
use Rattle.wire.specs.declared.frame.Frames.{Frames}

-- by the second and the third byte, the high one first
abbrev pub size_in : List ℕ → ℕ
size_in bs = slice_index bs 1 * 256 + slice_index bs 2

-- in front of bs a whole frame from the node w with the message ms, and others after it
pub record InFront (bs : List ℕ) (w : ℕ) (ms others : List ℕ) : Type 0 where
  pub whole : 3 + size_in bs ≤ length bs
  pub from : w ≡ slice_index bs 0
  pub message : ms ≡ take (size_in bs) (drop 3 bs)
  pub rest : others ≡ drop (size_in bs) (drop 3 bs)

-- the frame in front is taken, if it is whole
abbrev pub TakesFrame : (old : Frames) → Option Frame → (new : Frames) → Type 0
TakesFrame old None new = (length old.rest.now < 3 + size_in old.rest.now) × (new ≡ old)
TakesFrame old (Some f) new = InFront old.rest.now f.from f.message.now new.rest.now
