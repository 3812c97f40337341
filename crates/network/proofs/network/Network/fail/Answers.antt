use Rattle.network.proofs.Failing.{both_hear}
use Rattle.network.proofs.network.Network.fail.Goals as goal

pub returns : goal.returns
returns c =
    let h = c.hear-2.ensures in
    let p = both_hear c.args.link c.args.self.now c.hear.new.self c.hear-2.new.self _ _
    c.link.inside.a c.link.inside.b c.hear-2.result c.link.view_is c.requires c.in_ok-judge.ensures c.in_ok-judge-2.ensures
    c.in_ok-hear.ensures.ok (record { ok = h.ok; accepted = h.accepted; refused = h.refused; unchanged = h.unchanged }) in
    record { fails = p.fails; accepted = p.accepted; refused = p.refused; unchanged = p.unchanged; memory = p.memory }
