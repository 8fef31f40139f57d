use Rattle.std.proofs.Common.{◌≡◌, ℕ, List, take, ap, ◌∙◌, subst, arith}
use Rattle.bson_base.specs.Kinds.{HasNo00}
use Rattle.bson_base.specs.Tags.{tag_byte}
use Rattle.bson_raw.specs.Append.{CanTake, body_of}
use Rattle.bson_raw.specs.Raw.{ref_value, raw_kind}
use Rattle.bson_raw.specs.Written.{CanWrite, Closes}
use Rattle.bson_raw.proofs.AppendLemmas.{behind, body_length, four_length, rest_of, closes_to, refusal_for, can_write, cut_down}
use Rattle.bson_raw.proofs.GrowthLemmas.{gains_where_taken}
use Rattle.bson_raw.proofs.append.append_to.Goals as goal

pub returns-in-Ok-clause-bytes : goal.returns-in-Ok-clause-bytes
returns-in-Ok-clause-bytes c =
    let old : List ℕ = c.args.bytes.now.items in
    let key : List ℕ = c.args.key.now in
    let v = ref_value c.args.value in
    let plain = (c.in-Ok.ensures).plain in
    let rest : List ℕ = rest_of old key v c.requires in
    let tag : c.tag.result ≡ tag_byte (raw_kind v) = c.tag.ensures ∙ ap tag_byte c.element_type.ensures in
    let done = c.finish_append.ensures.ok (take 4 old) (body_of old) rest (behind old c.write_rest.new.out.items rest c.requires (c.in-Ok.ensures).ok) (four_length old c.requires) (omega (arith, body_length old c.requires, c.len-end.ensures, c.args.bytes.now.ok.0)) in
    closes_to old key v c.requires c.finish_append.new.bytes.items c.finish_append.result plain.0 plain.1 (subst (λ (t : ℕ). Closes (take 4 old) (body_of old) rest t c.finish_append.new.bytes.items c.finish_append.result) tag done)

pub returns-in-Err-clause-bytes : goal.returns-in-Err-clause-bytes
returns-in-Err-clause-bytes c =
    let old : List ℕ = c.args.bytes.now.items in
    let key : List ℕ = c.args.key.now in
    let v = ref_value c.args.value in
    let refused = refusal_for (HasNo00 key → CanWrite v → ⊥) (CanTake old key v → ⊥) c.in-Err.e (λ no can. no can.key_plain (can_write old key v c.requires can)) (c.in-Err.ensures).refused in
    (refused, cut_down old c.write_rest.new.out.items c.truncate.new.self.items c.len-end.result (omega (arith, c.len-end.ensures, c.args.bytes.now.ok.0)) (c.in-Err.ensures).kept c.truncate.ensures.items)

pub returns-in-Ok-clause-walk : goal.returns-in-Ok-clause-walk
returns-in-Ok-clause-walk c = gains_where_taken c.args.bytes.now.items c.finish_append.new.bytes.items c.args.key.now (ref_value c.args.value) c.finish_append.result c.requires c.utf8.key (c.in-Ok.ensures).formed (returns-in-Ok-clause-bytes c)
