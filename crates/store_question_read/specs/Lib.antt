pub mod Values
pub mod Kinds
pub mod Patterns
pub mod Query
pub mod Outcome
pub mod Read
pub mod UpdateOutcome
pub mod Seed
