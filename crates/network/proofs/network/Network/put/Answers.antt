use Rattle.std.proofs.Common.{vec_items, refl, ap, arith}
use Rattle.network.proofs.Packets.{puts}
use Rattle.network.proofs.network.Network.put.Goals as goal
use Rattle.network.specs.Model.{system_of}

pub returns-clause-ok : goal.returns-clause-ok
returns-clause-ok c =
    let net = c.args.self.now in
    let e = c.in_ok-push.ensures.items in
    let h = c.in_ok-flight.ensures in
    puts c.args.request c.in_ok-flight.flight net _ h.waits
    (record {
      is = ap (system_of (vec_items net.routers) (vec_items net.said) (vec_items net.arrivals)) e;
      packets = e;
      nodes = refl;
      over = λ k. refl;
    })
    c.len-number.result (omega (arith, c.len-number.ensures, net.flights.ok)) h.path
