mod AskingLemmas
mod EndingLemmas
mod WayLemmas
pub mod WriteLemmas
pub mod TurnLemmas
pub mod ExitLemmas
