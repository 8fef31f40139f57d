use Rattle.cli_convert.proofs.PipedLemmas.{piped}
use Rattle.cli_convert.proofs.laws.piped_documents_come_back.Goals as goal

pub returns : goal.returns
returns c = piped c.canonical_texts_read_back.ensures c.texts_have_no_line_feed.ensures
