pub mod Search
pub mod Light
pub mod Exact
pub mod Level
pub mod Steady
pub mod HowTabled
