pub mod KeyedLemmas
pub mod DistinctLemmas
pub mod IndexLemmas
pub mod SearchLemmas
pub mod GrowthLemmas
pub mod PickLemmas
