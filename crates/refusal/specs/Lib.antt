pub mod Refusals
pub mod Answers
