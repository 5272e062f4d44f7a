pub mod Arrivals
pub mod Turns
pub mod Fairness
pub mod HowRun
