pub mod Lawful
pub mod Listed
