pub mod Filling
pub mod Planning
pub mod Answering
pub mod Narrowing
