pub mod Operations
pub mod Moved
pub mod HowSearched
