-- The numbers by which users know the faults.
use Rattle.std.specs.Prelude.{ℕ}
use Rattle.types.specs.declared.fault.ReadFault.{ReadFault}
use Rattle.types.specs.declared.fault.ReadFault.TheVariants as read
use Rattle.types.specs.declared.fault.Refusal.{Refusal}
use Rattle.types.specs.declared.fault.Refusal.TheVariants as refusal
use Rattle.types.specs.declared.fault.DropReason.{DropReason}
use Rattle.types.specs.declared.fault.DropReason.TheVariants as drop

abbrev pub read_number : ReadFault → ℕ
-- 1: the bytes are no message
read_number read.UnknownKind = 1
read_number read.Truncated = 1
read_number read.TrailingBytes = 1
-- 2: a value is out of its range
read_number read.NodeCount = 2
read_number read.NodeOutOfRange = 2
read_number read.ZeroCost = 2
read_number read.TooManySenderSegments = 2
-- 3: links out of order
read_number read.SelfLink = 3
read_number read.HigherFirst = 3
read_number read.NotRising = 3
-- 7: a packet with more segments than any may have
read_number read.TooManySegments = 7

-- 4 to 6: what does not fit the router's state
abbrev pub refusal_number : Refusal → ℕ
refusal_number refusal.NoSuchLink = 4
refusal_number refusal.NotNeighbour = 4
refusal_number refusal.SecondFailure = 5
refusal_number refusal.NotPending = 6

-- 7 to 9: a packet that cannot go on
abbrev pub drop_number : DropReason → ℕ
drop_number drop.NoNextHop = 7
drop_number drop.NoRepair = 7
drop_number drop.TooManySegments = 7
drop_number drop.NoHopsLeft = 8
drop_number drop.SegmentElsewhere = 9
drop_number drop.SegmentLinkDown = 9
