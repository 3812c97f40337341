mod Ends
pub mod Required
