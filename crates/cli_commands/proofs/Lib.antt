pub mod AcceptLemmas
pub mod DeviceLemmas
pub mod EndLemmas
pub mod FailureLemmas
pub mod ReadableLemmas
pub mod SendLemmas
pub mod InputLemmas
pub mod TakeLemmas
pub mod ReportLemmas
pub mod KindLemmas
pub mod WordLemmas
pub mod CrashLemmas
pub mod LineLemmas
pub mod PrintLemmas
mod OpenLemmas
mod RefusalLemmas
mod KeepLemmas
mod PipeSendLemmas
pub mod PartLemmas
pub mod FilterLemmas
pub mod ReadLemmas
