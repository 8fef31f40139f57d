use Rattle.std.proofs.Common.{◌≡◌, ◌∙◌, ap, drop, refl, subst, sym}
use Rattle.bson_bytes.specs.Encode.{encode}
use Rattle.bson_frame.specs.Payload.{IsEnvelope}
use Rattle.bson_model.specs.View.{view}
use Rattle.bson_raw.specs.View.{bytes_of}
use Rattle.store_question.specs.Filters.{path_of}
use Rattle.store_model.specs.Reading.{readable}
use Rattle.store_model.proofs.RestoreLemmas.{written_reads}
use Rattle.bson_store.specs.Keys.{value_key}
use Rattle.bson_store.proofs.IndexKeyLemmas.{key_there}
use Rattle.bson_store.proofs.indexed.keys.key_at.Goals as goal

pub returns-in_default : goal.returns-in_default
returns-in_default c d kept is = absurd (c.in_default.ensures.0 (subst IsEnvelope (sym is) ((written_reads d kept (readable d)).1 refl).0.1))

pub returns-in_ok-without_head-in-Ok-key : goal.returns-in_ok-without_head-in-Ok-key
returns-in_ok-without_head-in-Ok-key c d kept is =
    let e : bytes_of c.in-Ok.document ≡ encode d = c.in-Ok.ensures ∙ is in
    let rest = c.in_ok-without_head-in-Ok-key.field-0.items in
    let shown : rest ≡ value_key (view c.in-Ok-to_bson.value) = c.in_ok-without_head-in-Ok-key.ensures ∙ ap (drop 9) (c.as_slice.ensures.value ∙ c.in-Ok-key.ensures.ok.key) in
    key_there d (bytes_of c.in-Ok.document) (path_of c.args.path.now) c.in-Some.found c.in-Ok-to_bson.value rest kept e c.in-Ok.document.envelope
    (rw c.in-Some.is at (c.look_up.ensures.found d kept.read.clean kept.read.sound e)) c.in-Ok-to_bson.ensures.tree shown
