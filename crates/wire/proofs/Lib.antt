pub mod Bytes
pub mod ListBytes
pub mod MessageBytes
pub mod PacketBytes
pub mod Pieces
pub mod Written
