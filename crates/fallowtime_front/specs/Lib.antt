pub mod Asking
pub mod Ending
pub mod Words
pub mod Left
pub mod Single
pub mod Changes
