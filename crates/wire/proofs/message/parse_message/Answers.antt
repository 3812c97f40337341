use Rattle.std.proofs.Common.{sym, ap, ◌-◌, ◌∙◌, length}
use Rattle.wire.specs.Cursor.{placed}
use Rattle.wire.specs.Messages.{message_fault}
use Rattle.wire.proofs.Pieces.{no_fault, ended_ok}
use Rattle.wire.proofs.MessageBytes.{message_read}
use Rattle.wire.proofs.message.parse_message.Goals as goal

pub returns-clause-spelled : goal.returns-clause-spelled
returns-clause-spelled c =
    let i = c.new-cursor.result.size - length c.new-cursor.result.bytes.now in
    let m = c.in-Some.message in
    let checked = c.in_ok-piece.ensures ∙ ap (placed i) c.check_message.ensures in
    let f = no_fault (message_fault c.args.nodes m) i checked in
    let z = ended_ok _ c.after.result.bytes.now tt tt (sym c.in_ok-end.ensures) in
    let rest = sym c.after.ensures.rest ∙ z.0 in
    message_read c.args.nodes c.args.bytes.now c.in-Some.rest.now m c.in-Some.ensures f rest
