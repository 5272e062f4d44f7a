pub mod Pixel
pub mod Calls
pub mod Demand
pub mod Programs
