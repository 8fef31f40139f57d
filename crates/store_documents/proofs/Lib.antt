pub mod ByteLemmas
pub mod BodyLemmas
pub mod ChangeLemmas
pub mod RowLemmas
mod StoredLemmas
mod TreeLemmas
mod OrderLemmas
mod PrintedLemmas
pub mod KeyLemmas
pub mod TakenLemmas
pub mod GateLemmas
pub mod StreamLemmas
pub mod JudgeLemmas
pub mod ManyLemmas
pub mod AppendLemmas
pub mod LoadLemmas
pub mod KindLemmas
mod AlikeLemmas
mod WrapperLemmas
mod MemberLemmas
pub mod PlaceLemmas
pub mod FormLemmas
