use Rattle.std.proofs.Common.{◌≡◌, ◌∙◌, ◌+◌, ◌++◌, ◌∷◌, [], List, ℕ, ap, sym, refl, arith, rules, length, length-append, append-nil, map, drop, string_bytes}
use Rattle.std.proofs.lemmas.Result.{err_from_is_err_and}
use Rattle.bson_base.specs.Value.{array, scoped_code}
use Rattle.bson_bytes.specs.Encode.{members_bytes, items_bytes, text_bytes, encode, value_size}
use Rattle.bson_bytes.proofs.LengthLemmas.{members_length, items_length, text_length, framed_length}
use Rattle.bson_bytes.proofs.WrittenLemmas.{room, written_in, framed_ok, scoped_in, scoped_ok, short_ok, long_refused, no_items_left, item_refused}
use Rattle.bson_model.specs.Rest.{ascending_rest}
use Rattle.bson_model.specs.View.{view, pairs_of, items_of, members_of}
use Rattle.bson_meaning.specs.Forms.{norm_members_in_order, norm_items_in_order, norm_in_order}
use Rattle.bson_meaning.proofs.OrderedBytesLemmas.{between, members_begin, next_item}
use Rattle.bson_meaning.proofs.writing.+in_order.Goals as goal

pub write_in_order-returns : goal.write_in_order-returns
write_in_order-returns t c =
    let old = c.args.out.now.items in
    let start : c.len-start.result ≡ length old = search rules in
    let normal = norm_members_in_order c.args.zeros (members_of (pairs_of c.args.document.now)) in
    let begun = c.write_bytes.new.out.items in
    let out = c.write_members.new.out.items in
    let at_end : out ++ [] ≡ begun ++ members_bytes normal = append-nil out ∙ c.in_ok-write_members.ensures.ok in
    let told = between c.put_length.result normal old begun out c.write_bytes-2.new.out.items c.put_length.new.out.items c.len-start.result start c.in_ok-write_bytes.ensures.ok at_end c.in_ok-write_bytes-2.ensures.ok
    c.in_ok-write_members.ensures.plain c.put_length.ensures.ok c.put_length.ensures.short c.put_length.ensures.refused in
    record { ok = told.0; fits = told.1; refused = told.2 }

pub write_members-loop-key-init : goal.write_members-loop-key-init
write_members-loop-key-init t c =
    let first = ap ascending_rest c.into_iter-key-iterator.ensures.into_iter_gives ∙ c.ascending-key-items.ensures in
    (members_begin c.args.zeros (pairs_of c.args.document.now) (ascending_rest c.into_iter-key-iterator.result) c.args.out.now.items first, tt, tt)

pub write_scoped-returns : goal.write_scoped-returns
write_scoped-returns t c =
    let old = c.args.out.now.items in
    let start : c.len-start.result ≡ length old = search rules in
    let normal = norm_members_in_order c.args.zeros (members_of (pairs_of c.args.code.now.scope)) in
    let text = string_bytes c.args.code.now.code in
    let tree = scoped_code text normal in
    let scope = encode normal in
    let after : List ℕ = text_bytes text ++ scope in
    let begun = c.write_bytes.new.out.items in
    let whole : c.write_in_order.new.out.items ≡ old ++ (room ++ after) = scoped_in old begun c.write_text.new.out.items c.write_in_order.new.out.items text scope c.in_ok-write_bytes.ensures.ok (search (rules, c.in_ok-write_text.ensures.ok)) c.in_ok-write_in_order.ensures.ok in
    let long : value_size tree ≡ length after + 4 = omega (arith, members_length normal, length-append {A = ℕ} (text_bytes text) scope, text_length text, framed_length (members_bytes normal)) in
    record {
      ok = scoped_ok c.put_length.result old c.put_length.new.out.items text scope (c.put_length.ensures.ok old room after whole (search rules) refl);
      fits = short_ok c.put_length.result tree old c.write_in_order.new.out.items after c.len-start.result start whole long (tt, c.in_ok-write_in_order.ensures.fits.0) c.put_length.ensures.short;
      refused = long_refused c.put_length.result tree old c.write_in_order.new.out.items after c.len-start.result start whole long c.put_length.ensures.refused;
    }

pub write_items-returns : goal.write_items-returns
write_items-returns t c =
    let old = c.args.out.now.items in
    let start : c.len-start.result ≡ length old = search rules in
    let normal = norm_items_in_order c.args.zeros (items_of (map view c.args.items.now)) in
    let body = items_bytes 0 normal in
    let after : List ℕ = body ++ 0 ∷ [] in
    let begun = c.write_bytes.new.out.items in
    let left = ap (norm_items_in_order c.args.zeros) (no_items_left c.args.items.now c.loop-i.i c.loop-i-test.false) in
    let at_end : c.loop-i.out.items ++ [] ≡ begun ++ body = ap (λ vs. c.loop-i.out.items ++ items_bytes c.loop-i.i vs) (sym left) ∙ c.loop-i.invariant.written in
    let whole : c.write_bytes-2.new.out.items ≡ old ++ (room ++ after) = written_in old begun c.loop-i.out.items c.write_bytes-2.new.out.items body c.in_ok-write_bytes.ensures.ok at_end c.in_ok-write_bytes-2.ensures.ok in
    let long : value_size (array normal) ≡ length after + 4 = omega (arith, items_length 0 normal, length-append {A = ℕ} body (0 ∷ [])) in
    record {
      ok = framed_ok c.put_length.result old c.put_length.new.out.items body (c.put_length.ensures.ok old room after whole (search rules) refl);
      fits = short_ok c.put_length.result (array normal) old c.write_bytes-2.new.out.items after c.len-start.result start whole long (c.loop-i.invariant.forth (rw left tt)) c.put_length.ensures.short;
      refused = long_refused c.put_length.result (array normal) old c.write_bytes-2.new.out.items after c.len-start.result start whole long c.put_length.ensures.refused;
    }

pub write_items-returns-in_err-write_normal-clause-refused : goal.write_items-returns-in_err-write_normal-clause-refused
write_items-returns-in_err-write_normal-clause-refused t c =
    let xs = c.args.items.now in
    let i = c.loop-i.i in
    let b = c.index-items-i.result in
    let normal = norm_items_in_order c.args.zeros (items_of (map view xs)) in
    let to = next_item c.args.zeros normal xs i b c.write_bytes.new.out.items c.loop-i.out.items c.loop-i-test.true c.index-items-i.is c.loop-i.invariant in
    let p = err_from_is_err_and c.from_residual-in_err-write_normal.result c.from_residual-in_err-write_normal.ensures.1 in
    rw (p.1, p.2) (item_refused normal (norm_items_in_order c.args.zeros (items_of (map view (drop (i + 1) xs)))) i (norm_in_order c.args.zeros (view b)) c.write_bytes.new.out.items c.loop-i.out.items _ to c.in_err-write_normal.ensures.refused)
