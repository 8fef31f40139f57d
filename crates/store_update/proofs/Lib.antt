pub mod DoubleLemmas
pub mod NumberLemmas
pub mod UpdateLemmas
pub mod IdLemmas
pub mod SetLemmas
