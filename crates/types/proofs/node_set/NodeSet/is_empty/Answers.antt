use Rattle.std.proofs.Common.{rules, tests}
use Rattle.std.proofs.lemmas.Bool.{eq-eqb, eqb-true}
use Rattle.types.proofs.NodeBits.{none_zero, empty_has}
use Rattle.types.proofs.node_set.NodeSet.is_empty.Goals as goal

pub returns : goal.returns
returns c =
    let n = c.args.self.0 in
    (λ t u. rw (eqb-true n 0 (search (rules, tests))) (empty_has u), λ h. search (rules, tests, eq-eqb n 0 (none_zero n (search rules) h)))
