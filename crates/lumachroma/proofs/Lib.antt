pub mod Pixel
pub mod Quotient
pub mod Back
