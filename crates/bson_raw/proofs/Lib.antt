pub mod WalkLemmas
pub mod TurnLemmas
pub mod RunLemmas
pub mod AppendLemmas
pub mod SizeLemmas
pub mod GrowthLemmas
pub mod BuildLemmas
pub mod SettleLemmas
pub mod ProgressLemmas
pub mod ConversionLemmas
pub mod FaultLemmas
pub mod ReadLemmas
pub mod FirstFaultLemmas
pub mod RoundTripLemmas
mod BorrowedEqualLemmas
mod OwnedEqualLemmas
mod NoFaultLemmas
mod SizedLemmas
