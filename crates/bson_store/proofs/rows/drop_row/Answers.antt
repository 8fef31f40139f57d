use Rattle.std.proofs.Common.{not, rules, ap, ◌∙◌}
use Rattle.std.proofs.lemmas.Fn.{filter_same}
use Rattle.std.specs.Ordering.{int_eq}
use Rattle.store_table.specs.declared.row.Found.{Found}
use Rattle.bson_store.specs.Draft.{parts_of}
use Rattle.bson_store.proofs.RowsLemmas.{parts_kept}
use Rattle.bson_store.proofs.rows.drop_row.Goals as goal

pub returns : goal.returns
returns c =
    let rows = c.args.rows.now.items in
    ap parts_of (filter_same _ (λ (f : Found). not (int_eq f.place c.args.place)) _ (λ x b f k. search rules) rows c.retain.new.self.items c.retain.ensures.filtered) ∙ parts_kept c.args.place rows
