-- What comes of a frame at a router, in the protocol's words: of bytes that come from a node.
use Rattle.std.specs.Prelude.{◌≡◌, ℕ, zero, suc, Bool, false, ◌||◌, ◌⊎◌, List, [], ◌∷◌, ◌++◌, Ok, Err, Result, IsOk, IsOkAnd, if◌then◌else◌, ◌==◌, nat_lt, is_some}
use Rattle.std.specs.List.{flat_map}
use Rattle.std.specs.Result.{result_map_both}
use Rattle.links.specs.Links.{network_of}
use Rattle.protocol.specs.Hearing.{hear}
use Rattle.protocol.specs.Packet.{forward, Decision, Deliver, Send, Drop}
use Rattle.protocol.specs.Router as protocol
use Rattle.protocol.specs.Router.{idle, known_failure, Router, Reply, Stays, Goes}
use Rattle.protocol.specs.Switching.{may, switch}
use Rattle.types.specs.Packet.{bare, Packet}
use Rattle.types.specs.declared.fault.ReadFault.TheVariants.{NodeOutOfRange}
use Rattle.types.specs.declared.fault.Refusal.TheVariants.{NotNeighbour, SecondFailure}
use Rattle.types.specs.declared.message.Sent.{Sent}
use Rattle.wire.specs.Kinds.{kind_in}
use Rattle.wire.specs.Lists.{list_in}
use Rattle.wire.specs.Messages.{message_bytes, message_in}
use Rattle.wire.specs.Packets.{packet_bytes, packet_in}
use Rattle.wire.specs.declared.error.ReadError.{ReadError}
use Rattle.wire.specs.declared.kind.Kind.{Kind}
use Rattle.wire.specs.declared.kind.Kind.TheVariants as kind
use Rattle.wire.specs.declared.packet.Origin.{Origin}
use Rattle.wire.specs.declared.packet.Origin.TheVariants.{Sender, Neighbour}
use Rattle.endpoint.specs.FrameError.{UnlessMemory}
use Rattle.endpoint.specs.declared.error.FrameError.{FrameError}
use Rattle.endpoint.specs.declared.error.FrameError.TheVariants.{Read, Refused, Dropped}

-- the router afterwards, and the bytes that are written
pub record Served : Type 0 where
  pub router : Router
  pub written : List ℕ

-- an error is the answer
infixl 10 ◌>>=◌
abbrev pub ◌>>=◌ : {A B : Type 0} → Result A FrameError → (A → Result B FrameError) → Result B FrameError
Ok x >>= next = next x
Err e >>= next = Err e

-- bytes that are refused are refused by their fault
abbrev pub read : {A : Type 0} → Result A ReadError → Result A FrameError
read r = result_map_both (λ x. x) (λ e. Read e.fault) r

-- the router at the node u by a list of links: the node must be in it
abbrev pub router_at : ℕ → List ℕ → Result Router FrameError
router_at u bytes = do
  list ← read (list_in bytes)
  if nat_lt u list.nodes then Ok (idle (network_of list.nodes list.links) [] u) else Err (Read NodeOutOfRange)

-- by a later list the router begins anew, but not while a change is under way
abbrev pub serve_list : Router → List ℕ → Result Served FrameError
serve_list s bytes = do
  t ← router_at s.me bytes
  if is_some (known_failure s) then Err (Refused SecondFailure) else Ok (record { router = t; written = [] })

-- a packet is its own sender's, or a neighbour's
abbrev pub origin_of : Router → ℕ → Origin
origin_of s from = if from == s.me then Sender else Neighbour

-- it has come to its destination, or goes on to a neighbour, or is dropped
abbrev pub by_decision : Router → Packet → Decision → Result Served FrameError
by_decision s p Deliver = Ok (record { router = s; written = s.me ∷ packet_bytes (bare p.destination p.hop_limit) })
by_decision s p (Send v q) = Ok (record { router = s; written = v ∷ packet_bytes q })
by_decision s p (Drop reason) = Err (Dropped reason)

abbrev pub serve_packet : Router → ℕ → List ℕ → Result Served FrameError
serve_packet s from bytes = do
  p ← read (packet_in (origin_of s from) s.links.n bytes)
  by_decision s p (forward s p)

-- a message, after the neighbour that it goes to
abbrev pub sent_bytes : Sent → List ℕ
sent_bytes m = m.to ∷ message_bytes m.message

-- a router, and what it says
abbrev pub saying : Router → List Sent → Served
saying s ms = record { router = s; written = flat_map sent_bytes ms }

abbrev pub by_reply : Router → Reply → Result Served FrameError
by_reply s (protocol.Refused refusal) = Err (Refused refusal)
by_reply s Stays = Ok (saying s [])
by_reply s (Goes t ms) = Ok (saying t ms)

-- it goes on as a reply says
abbrev pub go_on : Served → Reply → Served
go_on x (protocol.Refused refusal) = x
go_on x Stays = x
go_on x (Goes s ms) = record { router = s; written = x.written ++ flat_map sent_bytes ms }

-- it switches for each destination below k that it may, in rising order
unfoldable pub switch_below : ℕ → Served → Served
switch_below zero x = x
switch_below (suc k) x = let y = switch_below k x in go_on y (switch y.router k)

-- the bytes are a message, and it is heard
abbrev pub hear_message : Router → ℕ → List ℕ → Result Served FrameError
hear_message s from bytes = do
  m ← read (message_in s.links.n bytes)
  by_reply s (hear s from m)

-- the router then switches for all destinations that it may
abbrev pub serve_message : Router → ℕ → List ℕ → Result Served FrameError
serve_message s from bytes = do
  x ← hear_message s from bytes
  Ok (switch_below x.router.links.n x)

abbrev pub by_kind : Kind → Router → ℕ → List ℕ → Result Served FrameError
by_kind kind.Links s from bytes = serve_list s bytes
by_kind kind.Packet s from bytes = serve_packet s from bytes
by_kind kind.LinkDown s from bytes = serve_message s from bytes
by_kind kind.Switched s from bytes = serve_message s from bytes

-- the router's own number stands for its own sender, and for what it notices itself
abbrev pub may_come : Router → ℕ → Bool
may_come s from = from == s.me || nat_lt 0 (s.links.cost s.me from)

-- what comes of a frame: the bytes `bytes` from the node `from`
abbrev pub serve : Router → ℕ → List ℕ → Result Served FrameError
serve s from bytes =
    if may_come s from then (do
      kind ← read (kind_in bytes)
      by_kind kind s from bytes)
    else Err (Refused NotNeighbour)

-- the first list, at the node `me`: only its own number may send one
abbrev pub start : ℕ → ℕ → List ℕ → Result Router FrameError
start me from bytes = if from == me then router_at me bytes else Err (Refused NotNeighbour)

-- it may switch for no destination
abbrev pub IsSettled : Router → Type 0
IsSettled s = (d : ℕ) → may s d ≡ false

-- a message is accepted, and the router has switched for the destinations below some k that it may
abbrev pub SwitchesBelow : Result Served FrameError → Router → Type 0
SwitchesBelow heard new = (k : ℕ) × IsOkAnd heard (λ x. new ≡ (switch_below k x).router)

-- the bytes are a message, and the router is as it was, or has heard it and switched in part
abbrev pub HearsInPart : Router → ℕ → List ℕ → Router → Type 0
HearsInPart s from bytes new =
    IsOk (message_in s.links.n bytes) × ((new ≡ s) ⊎ SwitchesBelow (hear_message s from bytes) new)

-- the frames of which memory may be wanting, and what the router is then
abbrev pub WantsMemory : Result Kind ReadError → Router → ℕ → List ℕ → Router → Type 0
WantsMemory (Ok kind.Links) s from bytes new = new ≡ s
WantsMemory (Ok kind.Packet) s from bytes new = (new ≡ s) × IsOk (serve_packet s from bytes)
WantsMemory (Ok kind.LinkDown) s from bytes new = HearsInPart s from bytes new
WantsMemory (Ok kind.Switched) s from bytes new = HearsInPart s from bytes new
WantsMemory (Err e) s from bytes new = ⊥

-- the router and the bytes before and after, by what comes of a frame: a refusal changes nothing, and where memory is
-- wanting nothing is written
abbrev pub Serves : Result Served FrameError → (old new : Router) (before after : List ℕ) →
    {A : Type 0} → Result A FrameError → Type 0
Serves served old new before after (Ok _) = IsOkAnd served (λ x. (new ≡ x.router) × (after ≡ before ++ x.written))
Serves served old new before after (Err e) = (after ≡ before) × UnlessMemory e ((served ≡ Err e) × (new ≡ old))
