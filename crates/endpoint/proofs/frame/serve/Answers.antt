use Rattle.std.proofs.Common.{rules, vec_items}
use Rattle.endpoint.proofs.frame.serve.Goals as goal

pub returns-in-Links-clause-value : goal.returns-in-Links-clause-value
returns-in-Links-clause-value c = search (rules, c.serve_list.ensures.value (vec_items c.args.out.now))
