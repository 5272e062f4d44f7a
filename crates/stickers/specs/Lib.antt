pub mod Distances
pub mod Choices
pub mod Stickers
pub mod Promise
pub mod HowSummed
pub mod HowTaken
