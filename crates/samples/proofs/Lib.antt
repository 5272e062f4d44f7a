pub mod Reading
pub mod Buffers
pub mod Judging
pub mod Order
