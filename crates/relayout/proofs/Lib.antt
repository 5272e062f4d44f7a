pub mod Frames
pub mod Copying
pub mod Carrying
pub mod Parts
pub mod ThereAndBack
