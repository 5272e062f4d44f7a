pub mod Rounding
pub mod Bytes
pub mod Counting
pub mod Threes
pub mod HowRanked
