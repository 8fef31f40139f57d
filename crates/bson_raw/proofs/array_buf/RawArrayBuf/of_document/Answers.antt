use Rattle.std.proofs.Common.{List, Option, length, drop, sym, ap, ◌∙◌}
use Rattle.bson_frame.specs.declared.error.ErrorKind.{ErrorKind}
use Rattle.bson_frame.specs.Frame.{Element}
use Rattle.bson_raw.specs.Buffer.{buffer_bytes}
use Rattle.bson_raw.specs.Walk.{IsItem, walk_items}
use Rattle.bson_raw.proofs.AppendLemmas.{zip_length}
use Rattle.bson_raw.proofs.array_buf.RawArrayBuf.of_document.Goals as goal

pub returns-clause-place : goal.returns-clause-place
returns-clause-place c = λ elements fault w.
    let ran = c.count-places.ensures.ran in
    let y = c.iter_elements.ensures.walk ran.0 ran.1 in
    let same = c.one_walk.ensures (drop 4 (buffer_bytes c.args.document)) y.elements elements y.fault fault y.walk w in
    ran.2 ∙ sym (zip_length IsItem (walk_items y.elements y.fault) ran.0 y.in_order)
    ∙ ap (λ (es : List Element). length (walk_items es y.fault)) same.0
    ∙ ap (λ (f : Option ErrorKind). length (walk_items elements f)) same.1
