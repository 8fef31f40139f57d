use Rattle.std.proofs.Common.{◌||◌, bytes_eq, ap, ◌∙◌}
use Rattle.store_table.specs.Names.{has_name}
use Rattle.store_table.proofs.NameLemmas.{name_inserted}
use Rattle.store_table.proofs.names.add_name.Goals as goal

pub returns : goal.returns
returns c n =
    let names = c.args.names.now.keys in
    ap (λ ks. has_name ks n) c.in_ok-insert.ensures.keys ∙ name_inserted c.in_ok-key.key names n ∙ ap (λ a. bytes_eq n a || has_name names n) c.in_ok-key.ensures.items
