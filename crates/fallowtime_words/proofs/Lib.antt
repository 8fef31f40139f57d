pub mod CountLemmas
pub mod GatherLemmas
pub mod NameLemmas
pub mod OptionLemmas
pub mod SingleLemmas
pub mod NoTaskLemmas
pub mod SessionLemmas
mod DistanceLemmas
mod HelpNameLemmas
mod NearLemmas
mod OverviewLemmas
mod PadLemmas
mod TopicLemmas
mod WordLemmas
