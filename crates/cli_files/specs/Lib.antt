pub mod Fault
pub mod Loaded
pub mod Looking
pub mod Agrees
pub mod Parts
