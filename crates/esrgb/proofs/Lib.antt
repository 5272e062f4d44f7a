pub mod Scale
pub mod Eight
pub mod Rules
pub mod Held
