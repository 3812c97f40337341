pub mod Arrays
pub mod NodeBits
pub mod Stripped
pub mod Taken
