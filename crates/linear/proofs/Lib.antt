pub mod Sign
pub mod Codes
pub mod Halving
pub mod Answering
pub mod Moving
pub mod Through
