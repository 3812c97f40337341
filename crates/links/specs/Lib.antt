pub mod Links
pub mod Topology
