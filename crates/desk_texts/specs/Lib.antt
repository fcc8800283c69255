pub mod Faults
pub mod Parts
pub mod Reasons
pub mod Lines
