pub mod Number
pub mod Arrays
pub mod Plan
pub mod Update
pub mod Answer
