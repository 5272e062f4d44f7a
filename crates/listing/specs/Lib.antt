pub mod Text
pub mod HowAdded
pub mod Listing
