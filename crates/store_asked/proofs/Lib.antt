mod AnswerLemmas
mod GatherLemmas
mod KeepLemmas
mod FrontLemmas
mod DraftedLemmas
pub mod AskLemmas
pub mod ReadLemmas
mod PrefilterLemmas
mod ArmLemmas
mod FilterLemmas
mod PathLemmas
mod AnswerFrontLemmas
mod SpanLemmas
mod RangeLemmas
mod BehindLemmas
mod PlainKeyLemmas
mod NearLemmas
