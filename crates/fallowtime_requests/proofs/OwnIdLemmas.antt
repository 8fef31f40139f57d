-- The `_id` of a document.
use Rattle.std.proofs.Common.{◌≡◌, true, Some, None, Result, Ok, Err, IfOk, ap, sym, ◌∙◌, true≢false}
use Rattle.std.specs.Prelude.{is_some}
use Rattle.std.specs.declared.alloc.AllocError.{AllocError}
use Rattle.bson_base.specs.Value.{Value, has_key, look_up}
use Rattle.bson_model.proofs.EqualLemmas.{look_up-members_of}
use Rattle.bson_model.specs.Keyed.{get}
use Rattle.bson_model.specs.View.{content, pairs_of, view}
use Rattle.bson_model.specs.declared.bson.Bson.{Bson}
use Rattle.bson_model.specs.declared.document.Document.{Document}
use Rattle.store_model.specs.State.{id_key}

pub not_absent : (d : Document) → has_key id_key (content d) ≡ true → None ≡ get id_key (pairs_of d) → ⊥
not_absent d has none =
    let absent : look_up id_key (content d) ≡ None = look_up-members_of id_key (pairs_of d) ∙ sym none in
    true≢false (sym has ∙ ap is_some absent)

-- a copy of the one that was found
pub own : (d : Document) (found : Value) (r : Result Bson AllocError) → Some found ≡ get id_key (pairs_of d) → IfOk r (λ v. view v ≡ found) → IfOk r (λ v. look_up id_key (content d) ≡ Some (view v))
own d found (Ok v) is copied = look_up-members_of id_key (pairs_of d) ∙ sym is ∙ ap Some (sym copied)
own d found (Err e) is copied = copied
