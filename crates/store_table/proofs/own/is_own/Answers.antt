use Rattle.std.proofs.Common.{sym, ◌∙◌}
use Rattle.store_table.proofs.OwnLemmas.{only, alone_if}
use Rattle.store_table.proofs.own.is_own.Goals as goal

pub returns-in-len1 : goal.returns-in-len1
returns-in-len1 c =
    let t = c.table-item.result in
    let one = sym c.as_slice.ensures ∙ only c.as_slice.result.now t c.in-len1.len_at_least c.in-len1.len_below c.table-item.is in
    alone_if c.args.schema.now t c.is_ours.result one c.is_ours.ensures.table c.is_ours.ensures.tree
