pub mod Answering
pub mod Verdicts
