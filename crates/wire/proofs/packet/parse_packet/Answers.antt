use Rattle.std.proofs.Common.{◌≡◌, ℕ, List, IfOk, Ok, Err, Result, sym, arith}
use Rattle.std.proofs.lemmas.Grind.{common_steps}
use Rattle.types.specs.Packet.{packet_of}
use Rattle.types.specs.declared.packet.Packet.{Packet}
use Rattle.wire.specs.declared.error.ReadError.{ReadError}
use Rattle.wire.specs.declared.packet.Origin.{Origin}
use Rattle.wire.specs.Cursor.{read_as}
use Rattle.wire.specs.Packets.{PacketLawful, packet_bytes, packet_in}
use Rattle.wire.proofs.Bytes.{Bytes}
use Rattle.wire.proofs.PacketBytes.{packet_read}
use Rattle.wire.proofs.packet.parse_packet.Goals as goal

lawful : (r : Result Packet ReadError) (o : Origin) (n : ℕ) (bs : List ℕ) → Bytes bs →
    read_as packet_of r ≡ packet_in o n bs → IfOk r (λ p. PacketLawful o n (packet_of p))
lawful (Ok p) o n bs h e = (packet_read o n bs (packet_of p) h (sym e)).0
lawful (Err d) o n bs h e = tt

spelled : (r : Result Packet ReadError) (o : Origin) (n : ℕ) (bs : List ℕ) → Bytes bs →
    read_as packet_of r ≡ packet_in o n bs → IfOk r (λ p. packet_bytes (packet_of p) ≡ bs)
spelled (Ok p) o n bs h e = (packet_read o n bs (packet_of p) h (sym e)).1
spelled (Err d) o n bs h e = tt

pub returns-clause-value : goal.returns-clause-value
returns-clause-value c = grind (arith, common_steps)

pub returns-clause-lawful : goal.returns-clause-lawful
returns-clause-lawful c =
    let bytes = λ (i : ℕ). (c.type_inv.bytes i).fits in
    lawful c.parse_segments.result c.args.origin c.args.nodes c.args.bytes.now bytes (returns-clause-value c)

pub returns-clause-spelled : goal.returns-clause-spelled
returns-clause-spelled c =
    let bytes = λ (i : ℕ). (c.type_inv.bytes i).fits in
    spelled c.parse_segments.result c.args.origin c.args.nodes c.args.bytes.now bytes (returns-clause-value c)
