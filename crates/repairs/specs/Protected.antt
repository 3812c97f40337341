-- The network of a protected link, and that network without the link.
use Rattle.theory.specs.Network.{Network, without}
use Rattle.routes.specs.Routes.{routes_network}
use Rattle.repairs.specs.declared.precompute.Protected.{Protected}

abbrev pub link_network : Protected → Network
link_network l = routes_network l.routes.now

abbrev pub network_without : Protected → Network
network_without l = without (record { a = l.s; b = l.f }) (link_network l)
