pub mod InOrder
pub mod Nearest
pub mod Blocks
pub mod Ranks
pub mod Best
pub mod Requests
pub mod Answers
