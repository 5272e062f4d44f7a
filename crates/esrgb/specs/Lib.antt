pub mod Depths
pub mod Codes
pub mod HowApplied
