mod ReadableLemmas
mod SpelledLemmas
mod HeldLemmas
mod OnwardLemmas
mod LoopLemmas
mod LeafLemmas
mod MadeLemmas
mod PatternLemmas
mod BuildLemmas
mod QueryLemmas
pub mod ReadLemmas
