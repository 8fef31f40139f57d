use Rattle.std.proofs.Common.{◌≡◌, length, rules}
use Rattle.bson_base.specs.Kinds.{IsPlain}
use Rattle.bson_base.specs.Value.{document, member, no_members}
use Rattle.bson_model.specs.View.{view}
use Rattle.bson_meaning.specs.Forms.{norm_in_order}
use Rattle.bson_meaning.proofs.OrderedBytesLemmas.{between, one_element}
use Rattle.bson_meaning.proofs.writing.write_element.Goals as goal

pub returns : goal.returns
returns c =
    let old = c.args.out.now.items in
    let k = c.args.name.now in
    let v = norm_in_order c.args.zeros (view c.args.value.now) in
    let start : c.len-start.result ≡ length old = search rules in
    let begun = c.write_bytes.new.out.items in
    let out = c.write_normal.new.out.items in
    let at_end = one_element begun c.write_front.new.out.items out k v c.normal_kind.result (c.normal_kind.ensures c.args.zeros) c.in_ok-write_front.ensures.ok c.in_ok-write_normal.ensures.ok in
    let plain : IsPlain (document (member k v no_members)) = (c.in_ok-write_front.ensures.plain, c.in_ok-write_normal.ensures.plain, tt) in
    let told = between c.put_length.result (member k v no_members) old begun out c.write_bytes-2.new.out.items c.put_length.new.out.items c.len-start.result start c.in_ok-write_bytes.ensures.ok at_end c.in_ok-write_bytes-2.ensures.ok
    plain c.put_length.ensures.ok c.put_length.ensures.short c.put_length.ensures.refused in
    record { ok = told.0; fits = told.1; refused = told.2 }
