pub mod Counts
pub mod Giving
