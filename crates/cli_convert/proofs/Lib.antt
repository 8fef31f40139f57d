pub mod PartLemmas
mod ToLinesLemmas
pub mod TakeLemmas
mod ToBsonLemmas
mod SpoiledLemmas
mod PipedLemmas
mod ShownLemmas
mod CutLemmas
mod CollectLemmas
mod HarmlessLemmas
mod WritingLemmas
pub mod IdLemmas
mod ReadLemmas
mod StraightLemmas
mod AddLemmas
