mod PrintLemmas
mod AggregateLemmas
mod AlterLemmas
pub mod AskLemmas
mod EarlyLemmas
mod KeepLemmas
pub mod PutLemmas
pub mod SetLemmas
pub mod ChangeLemmas
pub mod FindingLemmas
mod IndexLemmas
mod ReplaceLemmas
mod ReturnLemmas
mod LookLemmas
mod MeantLemmas
pub mod OutcomeLemmas
mod TotalLemmas
mod TransferLemmas
mod DraftLemmas
mod EnterLemmas
pub mod UpsertLemmas
mod WantLemmas
pub mod CrashLemmas
pub mod BeginLemmas
pub mod AnswerLemmas
pub mod CountLemmas
pub mod SessionLemmas
pub mod TextLemmas
pub mod WriteLemmas
pub mod ValueLemmas
pub mod TreeLemmas
pub mod ReplyLemmas
pub mod ListLemmas
pub mod ListAnswerLemmas
pub mod JoinLemmas
pub mod ListLineLemmas
mod AlteringLemmas
mod AskingLemmas
mod ChangingLemmas
mod ListDraftLemmas
mod FoundLemmas
pub mod SessionCrashLemmas
mod ListedLemmas
mod RequestLemmas
mod SettingLemmas
mod UnsettingLemmas
mod UpsertingLemmas
