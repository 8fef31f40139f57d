use Rattle.std.proofs.Common.{◌∙◌, inl, ap, sym}
use Rattle.bson_meaning.specs.JsonReserved.{has_reserved}
use Rattle.store_documents.proofs.PrintedLemmas.{reserved}
use Rattle.store_documents.proofs.text.fault_of.Goals as goal

pub returns-then-has_reserved_below-clause-why : goal.returns-then-has_reserved_below-clause-why
returns-then-has_reserved_below-clause-why c = λ d kept is none.
    let same = c.in-Ok.ensures.read d kept is in
    inl (reserved d (ap has_reserved (sym same) ∙ sym c.has_reserved_below.ensures ∙ c.if-has_reserved_below.true))
