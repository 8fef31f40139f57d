use Rattle.bson_bytes.specs.Writing.{CanBeWritten}
use Rattle.bson_model.specs.Trees.{document_tree}
use Rattle.bson_model.specs.View.{pairs_of, members_of}
use Rattle.bson_raw.specs.Buffer.{buffer_bytes}
use Rattle.bson_raw.specs.Convert.{HasFault, TellsFault}
use Rattle.std.proofs.Common.{drop}
use Rattle.bson_raw.proofs.RoundTripLemmas.{comes_back}
use Rattle.bson_meaning.proofs.laws.documents_come_back.Goals as goal

pub returns-in-Ok : goal.returns-in-Ok
returns-in-Ok c = λ clean.
    let ms = members_of (pairs_of c.args.document.now) in
    let bytes = buffer_bytes c.in-Ok.buffer in
    let back = c.trees_come_back.ensures ms clean c.soundness_of_document.ensures ((c.in-Ok.ensures).fits.1) in
    comes_back ms bytes (CanBeWritten (document_tree c.args.document.now) → ⊥) (TellsFault (HasFault (drop 4 bytes))) c.to_document.result (c.in-Ok.ensures).ok back c.one_meaning.ensures c.to_document.ensures.tree c.to_document.ensures.none
