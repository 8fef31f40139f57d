pub mod Arranged
pub mod Keeps
pub mod Asking
pub mod Fronts
pub mod Reads
pub mod Front
pub mod Spans
pub mod Near
