pub mod Frame
pub mod Reader
pub mod Payload
pub mod View
pub mod Names
