pub mod Fields
pub mod Pixels
pub mod Layout
pub mod HowStored
pub mod Faults
