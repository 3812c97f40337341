use Rattle.std.proofs.Common.{sym, ◌∙◌, arith}
use Rattle.theory.proofs.HopPaths.{hops_fall}
use Rattle.theory.proofs.NextHops.{next_hop_is}
use Rattle.repairs.specs.Protected.{link_network, network_without}
use Rattle.routes.proofs.Changes.{routes_lawful}
use Rattle.repairs.proofs.Found.{along_stop}
use Rattle.repairs.proofs.Along.{laws, on_next, along_here, along_further}
use Rattle.repairs.proofs.precompute.PostConvergence.+repair_from.Goals as goal

pub returns-in_err-q : goal.returns-in_err-q
returns-in_err-q t c =
    let p = c.args.self.now in
    let l = p.link.now in
    rw c.from_residual.ensures (along_stop (link_network l) (network_without l) l.s l.f p.d c.args.w c.in_err-q.ensures)

pub returns-then-sends : goal.returns-then-sends
returns-then-sends t c =
    let p = c.args.self.now in
    let l = p.link.now in
    let q = c.in_ok-q.q in
    let hop = sym c.in_ok-q.ensures in
    sym (along_here (link_network l) (routes_lawful l.routes.now) l.s l.f p.d c.args.w q (c.requires.ahead q hop) hop c.requires.reached (sym c.if-sends.ensures))

pub repair_from-requires : goal.repair_from-requires
repair_from-requires t c =
    let p = c.args.self.now in
    let l = p.link.now in
    let z = link_network l in
    let g = routes_lawful l.routes.now in
    let q = c.in_ok-q.q in
    let hop = sym c.in_ok-q.ensures in
    let y = laws z g l.s l.f p.d in
    let node = (y.within c.args.w q (next_hop_is (network_without l) p.d c.args.w q hop).near.link).1 in
    (omega (arith, hops_fall (network_without l) y p.d c.args.w q hop), (node, (on_next z g l.s l.f p.d q (c.requires.ahead q hop), sym c.if-sends.ensures)))

pub returns : goal.returns
returns t c =
    let p = c.args.self.now in
    let l = p.link.now in
    let q = c.in_ok-q.q in
    let hop = sym c.in_ok-q.ensures in
    c.repair_from.ensures ∙ sym (along_further (link_network l) (routes_lawful l.routes.now) l.s l.f p.d c.args.w q (c.requires.ahead q hop) p.sent hop (sym c.if-sends.ensures))
