use Rattle.std.proofs.Common.{◌≡◌, ◌∙◌, ◌+◌, ◌++◌, ◌∷◌, [], List, ℕ, ap, sym, refl, arith, rules, length, length-append, map, drop, string_bytes}
use Rattle.std.proofs.lemmas.Result.{err_from_is_err_and}
use Rattle.bson_base.specs.Value.{array, member}
use Rattle.bson_bytes.specs.Encode.{members_bytes, items_bytes, text_bytes, value_bytes, value_size}
use Rattle.bson_bytes.proofs.LengthLemmas.{members_length, items_length, text_length, framed_length}
use Rattle.bson_bytes.proofs.WrittenLemmas.{room, written_in, framed_ok, scoped_in, scoped_ok, short_ok, long_refused, begun_kept, no_items_left, next_item, item_refused, item_written, member_written}
use Rattle.bson_model.specs.Rest.{iter_rest}
use Rattle.bson_model.specs.Trees.{document_tree, scoped_code_tree}
use Rattle.bson_model.specs.View.{view, pairs_of, items_of, members_of}
use Rattle.bson_bytes.proofs.write.+write.Goals as goal

pub write_document-returns : goal.write_document-returns
write_document-returns t c =
    let old = c.args.out.now.items in
    let start : c.len-start.result ≡ length old = search rules in
    let tree = document_tree c.args.document.now in
    let body = members_bytes (members_of (pairs_of c.args.document.now)) in
    let after : List ℕ = body ++ 0 ∷ [] in
    let begun = c.write_bytes.new.out.items in
    let left : iter_rest c.loop-key.key-iterator ≡ [] = search (rules, c.in-None.ensures.steps) in
    let at_end : c.loop-key.out.items ++ [] ≡ begun ++ body = ap (λ ps. c.loop-key.out.items ++ members_bytes (members_of ps)) (sym left) ∙ c.loop-key.invariant.0.written in
    let whole : c.write_bytes-2.new.out.items ≡ old ++ (room ++ after) = written_in old begun c.loop-key.out.items c.write_bytes-2.new.out.items body c.in_ok-write_bytes.ensures.ok at_end c.in_ok-write_bytes-2.ensures.ok in
    let long : value_size tree ≡ length after + 4 = omega (arith, members_length (members_of (pairs_of c.args.document.now)), length-append {A = ℕ} body (0 ∷ [])) in
    record {
      ok = framed_ok c.put_length.result old c.put_length.new.out.items body (c.put_length.ensures.ok old room after whole (search rules) refl);
      fits = short_ok c.put_length.result tree old c.write_bytes-2.new.out.items after c.len-start.result start whole long (c.loop-key.invariant.0.forth (rw left tt)) c.put_length.ensures.short;
      refused = long_refused c.put_length.result tree old c.write_bytes-2.new.out.items after c.len-start.result start whole long c.put_length.ensures.refused;
      kept = begun_kept c.put_length.result old c.write_bytes-2.new.out.items c.put_length.new.out.items (room ++ after) whole c.put_length.ensures.kept;
    }

pub write_items-returns : goal.write_items-returns
write_items-returns t c =
    let old = c.args.out.now.items in
    let start : c.len-start.result ≡ length old = search rules in
    let items = items_of (map view c.args.items.now) in
    let body = items_bytes 0 items in
    let after : List ℕ = body ++ 0 ∷ [] in
    let begun = c.write_bytes.new.out.items in
    let left = no_items_left c.args.items.now c.loop-i.i c.loop-i-test.false in
    let at_end : c.loop-i.out.items ++ [] ≡ begun ++ body = ap (λ vs. c.loop-i.out.items ++ items_bytes c.loop-i.i vs) (sym left) ∙ c.loop-i.invariant.written in
    let whole : c.write_bytes-2.new.out.items ≡ old ++ (room ++ after) = written_in old begun c.loop-i.out.items c.write_bytes-2.new.out.items body c.in_ok-write_bytes.ensures.ok at_end c.in_ok-write_bytes-2.ensures.ok in
    let long : value_size (array items) ≡ length after + 4 = omega (arith, items_length 0 items, length-append {A = ℕ} body (0 ∷ [])) in
    record {
      ok = framed_ok c.put_length.result old c.put_length.new.out.items body (c.put_length.ensures.ok old room after whole (search rules) refl);
      fits = short_ok c.put_length.result (array items) old c.write_bytes-2.new.out.items after c.len-start.result start whole long (c.loop-i.invariant.forth (rw left tt)) c.put_length.ensures.short;
      refused = long_refused c.put_length.result (array items) old c.write_bytes-2.new.out.items after c.len-start.result start whole long c.put_length.ensures.refused;
      kept = begun_kept c.put_length.result old c.write_bytes-2.new.out.items c.put_length.new.out.items (room ++ after) whole c.put_length.ensures.kept;
    }

pub write_scoped-returns : goal.write_scoped-returns
write_scoped-returns t c =
    let old = c.args.out.now.items in
    let start : c.len-start.result ≡ length old = search rules in
    let tree = scoped_code_tree c.args.code.now in
    let text = string_bytes c.args.code.now.code in
    let scope = value_bytes (document_tree c.args.code.now.scope) in
    let after : List ℕ = text_bytes text ++ scope in
    let begun = c.write_bytes.new.out.items in
    let whole : c.write_document.new.out.items ≡ old ++ (room ++ after) = scoped_in old begun c.write_text.new.out.items c.write_document.new.out.items text scope c.in_ok-write_bytes.ensures.ok (search (rules, c.in_ok-write_text.ensures.ok)) c.in_ok-write_document.ensures.ok in
    let long : value_size tree ≡ length after + 4 = omega (arith, members_length (members_of (pairs_of c.args.code.now.scope)), length-append {A = ℕ} (text_bytes text) scope, text_length text, framed_length (members_bytes (members_of (pairs_of c.args.code.now.scope)))) in
    record {
      ok = scoped_ok c.put_length.result old c.put_length.new.out.items text scope (c.put_length.ensures.ok old room after whole (search rules) refl);
      fits = short_ok c.put_length.result tree old c.write_document.new.out.items after c.len-start.result start whole long (tt, c.in_ok-write_document.ensures.fits.0) c.put_length.ensures.short;
      refused = long_refused c.put_length.result tree old c.write_document.new.out.items after c.len-start.result start whole long c.put_length.ensures.refused;
      kept = begun_kept c.put_length.result old c.write_document.new.out.items c.put_length.new.out.items (room ++ after) whole c.put_length.ensures.kept;
    }

pub write_items-returns-in_err-put_value-clause-refused : goal.write_items-returns-in_err-put_value-clause-refused
write_items-returns-in_err-put_value-clause-refused t c =
    let xs = c.args.items.now in
    let i = c.loop-i.i in
    let b = c.index-items-i.result in
    let to = next_item (items_of (map view xs)) xs i b c.write_bytes.new.out.items c.loop-i.out.items c.loop-i-test.true c.index-items-i.is c.loop-i.invariant in
    let p = err_from_is_err_and c.from_residual-in_err-put_value.result c.from_residual-in_err-put_value.ensures.1 in
    rw (p.1, p.2) (item_refused (items_of (map view xs)) (items_of (map view (drop (i + 1) xs))) i (view b) c.write_bytes.new.out.items c.loop-i.out.items _ to c.in_err-put_value.ensures.refused)

pub write_items-loop-i-preserved : goal.write_items-loop-i-preserved
write_items-loop-i-preserved t c =
    let xs = c.args.items.now in
    let i = c.loop-i.i in
    let b = c.index-items-i.result in
    let begun = c.write_bytes.new.out.items in
    let to = next_item (items_of (map view xs)) xs i b begun c.loop-i.out.items c.loop-i-test.true c.index-items-i.is c.loop-i.invariant in
    item_written (items_of (map view xs)) (items_of (map view (drop (i + 1) xs))) i (view b) begun c.loop-i.out.items c.write_place.new.out.items c.put_value.new.out.items to (search (rules, c.in_ok-write_place.ensures.ok)) c.in_ok-put_value.ensures.ok c.in_ok-put_value.ensures.plain

pub write_document-loop-key-preserved : goal.write_document-loop-key-preserved
write_document-loop-key-preserved t c =
    let whole = members_of (pairs_of c.args.document.now) in
    let left = members_of (iter_rest c.loop-key.key-iterator) in
    let rest = members_of (iter_rest c.next.new.self) in
    let first : left ≡ member (string_bytes c.in-Some.key.now) (view c.in-Some.value.now) rest = search (rules, c.in-Some.ensures.steps) in
    (member_written whole left rest (string_bytes c.in-Some.key.now) (view c.in-Some.value.now) c.write_bytes.new.out.items c.loop-key.out.items c.write_front.new.out.items c.put_value.new.out.items c.loop-key.invariant.0 first (search (rules, c.in_ok-write_front.ensures.ok)) c.in_ok-put_value.ensures.ok (search (rules, c.in_ok-write_front.ensures.plain)) c.in_ok-put_value.ensures.plain, tt, tt)
