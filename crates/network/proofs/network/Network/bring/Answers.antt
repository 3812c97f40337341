use Rattle.std.proofs.Common.{refl}
use Rattle.network.proofs.Arriving.{marks, room_made, unmarked}
use Rattle.network.proofs.network.Network.bring.Goals as goal
use Rattle.network.specs.Arrival.{is_over}

pub returns : goal.returns
returns c =
    let old = c.args.self.now in
    let room = c.in_ok-make_room.ensures in
    let h = c.hear-answer.ensures in
    let p = marks c.args.number c.index.result.now c.args.then old _ c.hear-answer.new.self _
    (record {
      come = c.requires.come;
      under_way = c.requires.under_way;
      message = c.index.ensures;
      same = room.same;
      room = room.room;
      before = room_made old _ room.same refl (record { nodes = refl; packets = refl; paths = λ q. refl });
      kept = h.arrivals;
      is = refl;
      beside = record { nodes = refl; packets = refl; paths = λ q. refl };
      mark = refl;
    })
    c.wants_memory.result c.hear-answer.result
    (record { ok = h.ok; accepted = h.accepted; refused = h.refused; unchanged = h.unchanged })
    c.wants_memory.ensures.yes c.if-wants_memory.false in
    record { arrives = p.arrives; accepted = p.accepted; refused = p.refused; memory = p.memory }

pub returns-then-wants_memory : goal.returns-then-wants_memory
returns-then-wants_memory c =
    let old = c.args.self.now in
    let room = c.in_ok-make_room.ensures in
    let h = c.hear-answer.ensures in
    let p = unmarked c.args.number (is_over c.args.then) old _ c.hear-answer.new.self
    (room_made old _ room.same refl (record { nodes = refl; packets = refl; paths = λ q. refl }))
    c.wants_memory.result c.if-wants_memory.true _ _ c.hear-answer.result
    (record { ok = h.ok; accepted = h.accepted; refused = h.refused; unchanged = h.unchanged })
    c.wants_memory.ensures.no in
    record { arrives = p.arrives; accepted = p.accepted; refused = p.refused; memory = p.memory }
