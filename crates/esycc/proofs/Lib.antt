pub mod Room
pub mod Coded
pub mod There
pub mod Back
pub mod Sycc
pub mod Pixels
