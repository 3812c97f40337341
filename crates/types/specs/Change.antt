-- The network that a change leads to.
use Rattle.theory.specs.Network.{Network, without}
use Rattle.types.specs.declared.change.Change.{Change}
use Rattle.types.specs.declared.change.Change.TheVariants.{Nothing, LinkFails}

abbrev pub changed : Change → Network → Network
changed Nothing z = z
changed (LinkFails l) z = without l z
