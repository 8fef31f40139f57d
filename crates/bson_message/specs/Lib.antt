pub mod Taking
pub mod Checksum
pub mod Runs
pub mod Parts
pub mod Messages
pub mod Replies
