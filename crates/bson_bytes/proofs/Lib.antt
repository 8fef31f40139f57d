pub mod DistinctLemmas
pub mod ExtentLemmas
pub mod LengthLemmas
pub mod MeaningLemmas
pub mod OneTreeLemmas
pub mod OptionsLemmas
pub mod PlaceLemmas
pub mod ScalarReadLemmas
pub mod ScalarLemmas
pub mod SettledLemmas
pub mod SpellingLemmas
pub mod ApartLemmas
pub mod WritingLemmas
pub mod WrittenLemmas
pub mod ZeroLemmas
mod AscentLemmas
mod PayloadLemmas
mod TurnLemmas
mod ValueLemmas
