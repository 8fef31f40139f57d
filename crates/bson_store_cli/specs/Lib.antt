pub mod Over
pub mod Serving
pub mod Applying
pub mod Levels
