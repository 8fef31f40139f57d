use Rattle.fallowtime_commands.proofs.ReturnLemmas.{read_again, refused_again}
use Rattle.fallowtime_commands.proofs.laws.printed_documents_are_read.Goals as goal

pub returns : goal.returns
returns c = record {
  read = read_again c.canonical_texts_read_back.ensures;
  refused = refused_again c.canonical_texts_read_back.ensures;
}
