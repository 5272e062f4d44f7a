pub mod Judging
pub mod Arriving
pub mod Rounds
pub mod Fairness
pub mod Running
