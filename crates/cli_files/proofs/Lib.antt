mod ReportLemmas
pub mod UnopenedLemmas
mod PartLemmas
