pub mod Cursor
pub mod Frames
pub mod Kinds
pub mod Lists
pub mod Messages
pub mod Packets
pub use Rattle.types.specs.Packet
