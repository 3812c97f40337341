pub mod Right
pub mod Found
pub mod Along
