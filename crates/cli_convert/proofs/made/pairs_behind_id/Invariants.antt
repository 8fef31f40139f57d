use Rattle.std.proofs.Common.{◌≡◌, ◌∷◌, ◌++◌, map}
use Rattle.bson_model.specs.Rest.{into_iter_rest, owned_member}
use Rattle.bson_model.specs.View.{pairs_of, view}
use Rattle.store_model.specs.State.{id_key}
use Rattle.cli_convert.proofs.made.pairs_behind_id.Given as goal

abbrev pub invariant-loop-key : goal.invariant-loop-key
invariant-loop-key l =
    (map owned_member l.pairs.items ++ into_iter_rest l.key-iterator ≡ (id_key, view l.fn.id) ∷ pairs_of l.fn.document)
    × (goal.iterator-loop-key).can_next l.key-iterator
    × (goal.iterator-loop-key).is_finite l.key-iterator
