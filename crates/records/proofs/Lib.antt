pub mod Fields
pub mod Layouts
pub mod Limits
pub mod Sizes
pub mod Small
pub mod Strides
