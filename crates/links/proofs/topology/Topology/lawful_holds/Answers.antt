use Rattle.links.specs.Topology.{links_of}
use Rattle.links.proofs.Lawful.{lawful, limited}
use Rattle.links.proofs.Listed.{listed}
use Rattle.links.proofs.topology.Topology.lawful_holds.Goals as goal

pub returns : goal.returns
returns c =
    let t = c.args.self.now in
    record {
      lawful = lawful t.nodes (links_of t) t.ordered;
      limited = limited t.nodes (links_of t) t.few.1 t.ordered;
      listed = listed t.nodes (links_of t) t.ordered;
    }
