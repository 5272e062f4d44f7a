pub mod Pictures
pub mod Calls
pub mod Agreement
pub mod Programs
