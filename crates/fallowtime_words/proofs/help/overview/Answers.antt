use Rattle.fallowtime_words.proofs.OverviewLemmas.{joined_rows}
use Rattle.fallowtime_words.proofs.help.overview.Goals as goal

pub returns : goal.returns
returns c = joined_rows c.rows.result.now _ _ _ c.in_ok-text.ensures.ok c.in_ok-push_rows.ensures c.in_ok-push_str.ensures.bytes c.rows.ensures
