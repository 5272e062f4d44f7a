pub mod Rounded
pub mod Meaning
pub mod Examples
