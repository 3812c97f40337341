-- The network that a topology is.
use Rattle.std.specs.Prelude.{List, vec_items}
use Rattle.theory.specs.Network.{Network}
use Rattle.links.specs.Links.{network_of}
use Rattle.types.specs.declared.link.Link.{Link}
use Rattle.links.specs.declared.topology.Topology.{Topology}

abbrev pub links_of : Topology → List Link
links_of t = vec_items t.links

abbrev pub network : Topology → Network
network t = network_of t.nodes (links_of t)
