use Rattle.std.proofs.Common.{refl, sym, ap, ◌∙◌}
use Rattle.bson_base.specs.Value.{scalar, binary}
use Rattle.bson_pairs.proofs.KeyedLemmas.{on_some_weaker}
use Rattle.bson_model.specs.Accessors.{as_binary_generic}
use Rattle.bson_model.specs.Rows.{with_bytes}
use Rattle.bson_model.specs.Trees.{binary_tree}
use Rattle.bson_model.proofs.ViewLemmas.{view-Binary, is_binary, is_generic}
use Rattle.bson_model.proofs.bson.Bson.as_binary_generic_mut.Goals as goal

pub returns-in-Some : goal.returns-in-Some
returns-in-Some c =
    let b = c.in-Some.binary.now in
    let own = is_binary _ (binary_tree b) c.in-Some.ensures.value in
    let generic = is_generic (λ x. x.now.items) b.subtype b.bytes.items c.generic_bytes.result c.generic_bytes.ensures.value in (
      (
        refl,
        λ w. on_some_weaker c.generic_bytes.result (λ e. view-Binary (with_bytes b w) ∙ ap (λ s. scalar (binary s w.items)) e) generic,
        view-Binary b ∙ sym own,
      ),
      record { writes_back = tt; value = c.generic_bytes.ensures.value ∙ ap as_binary_generic (sym own) },
    )
