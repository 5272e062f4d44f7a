pub mod Doubles
pub mod HowWhole
