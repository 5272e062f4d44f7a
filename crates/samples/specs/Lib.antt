pub mod Samples
pub mod Faults
pub mod HowJudged
