use Rattle.fallowtime_statements.proofs.plans.collections.create_indexes.Goals as goal

pub returns : goal.returns
returns c = (c.in_ok-collection_of.field-0.now, c.in_ok-collection_of.ensures, c.in_ok-plain_indexes_in.ensures, c.in_ok-indexed.ensures)
