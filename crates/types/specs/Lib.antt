pub mod Change
pub mod Faults
pub mod Link
pub mod NodeSets
pub mod Nodes
pub mod Packet
pub mod Segments
