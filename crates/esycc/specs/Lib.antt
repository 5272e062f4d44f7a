pub mod Esycc
pub mod Sycc
pub mod HowCounted
