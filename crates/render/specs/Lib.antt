pub mod LinkRepair
pub mod Text
pub use Rattle.theory.specs.Network
pub use Rattle.theory.specs.Repair
pub use Rattle.links.specs.Topology
pub use Rattle.repairs.specs.Entries
pub use Rattle.routes.specs.Routes
