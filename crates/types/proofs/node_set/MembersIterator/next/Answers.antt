use Rattle.types.proofs.Taken.{taken_fewer}
use Rattle.types.proofs.node_set.MembersIterator.next.Goals as goal

pub returns-clause-goes : goal.returns-clause-goes
returns-clause-goes c = rw (← c.self.view_is) (taken_fewer _ _ _ c.take_first.ensures)
