pub mod Encode
pub mod Spells
pub mod Writing
pub mod Written
pub mod Met
