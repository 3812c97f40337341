use Rattle.std.proofs.Common.{◌<◌, rules, arith}
use Rattle.std.proofs.lemmas.Result.{on_ok_weaker}
use Rattle.theory.specs.Distance.{distance}
use Rattle.theory.specs.NextHop.{next_hop}
use Rattle.routes.specs.Routes.{routes_network}
use Rattle.render.proofs.Texts.{tables_text}
use Rattle.render.proofs.tables.push_tables.Goals as goal

pub returns : goal.returns
returns c =
    let z = routes_network c.args.routes.now in
    on_ok_weaker c.push_table-2.result (λ last. tables_text z c.nodes-nodes.result _ _ _ _ _ c.nodes-nodes.ensures.value
    c.in_ok-write.ensures.bytes (c.in_ok-push_table.ensures (λ a d. distance z d a) (λ a d r l m p. let k : (a < z.n) × (d < z.n) = (omega (arith, c.nodes-nodes.ensures.value), omega (arith, c.nodes-nodes.ensures.value)) in search rules)) c.in_ok-push_str.ensures.bytes last) (c.push_table-2.ensures (λ a d. next_hop z d a) (λ a d r l m p. let k : (a < z.n) × (d < z.n) = (omega (arith, c.nodes-nodes.ensures.value), omega (arith, c.nodes-nodes.ensures.value)) in search rules))
