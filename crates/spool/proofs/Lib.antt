pub mod OpenFaults
pub mod FindFaults
pub mod Rows
pub mod Small
