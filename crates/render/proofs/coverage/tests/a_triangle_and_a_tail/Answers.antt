use Rattle.links.specs.Links.{rising_from}
use Rattle.render.proofs.coverage.tests.a_triangle_and_a_tail.Goals as goal

pub new-topology-requires-clause-ordered : goal.new-topology-requires-clause-ordered
unfolding rising_from
new-topology-requires-clause-ordered g c = rw (c.in_ok-links.ensures.items, c.link.ensures, c.link-2.ensures, c.link-3.ensures, c.link-4.ensures)
