use Rattle.std.proofs.Common.{◌<◌, [], ◌∷◌, true, length, map, sym, ap, ◌∙◌, rules, arith}
use Rattle.std.proofs.Output.{has_written_append, has_written_of_eq}
use Rattle.bson_model.specs.Display.{shown_members}
use Rattle.bson_model.specs.View.{pair_view, pairs_of, members_of}
use Rattle.bson_model.proofs.ShowLemmas.{shown_some, item_at, items_more, members_more, nothing_written}
use Rattle.bson_model.proofs.SizeLemmas.{last_rest}
use Rattle.bson_model.proofs.display.+show.Goals as goal

pub write_braces-returns : goal.write_braces-returns
write_braces-returns c t d plain ok =
    let a = d.write_str-2.ensures.writes plain (search rules) in
    let b = d.write_members.ensures a.plain (search rules) in
    let e = d.write_str-3.ensures.writes b.plain ok in
    has_written_of_eq _ _ _ _ _ (shown_some (pairs_of d.args.document.now) (λ none. let x = d.is_empty.ensures.1 none in let y = d.if-is_empty.false in cc))
    (has_written_append _ _ _ _ _ _ a (has_written_append _ _ _ _ _ _ b e))

pub write_items-loop-item-preserved : goal.write_items-loop-item-preserved
write_items-loop-item-preserved c t d plain =
    let h = d.loop-item.invariant plain in
    let m = d.write_mark.ensures h.1.plain (search rules) in
    let v = d.write_value.ensures m.plain (search rules) in
    let within : d.loop-item.item-index < length d.args.items.now = omega arith in (
      _,
      has_written_append _ _ _ _ _ _ h.1 (has_written_append _ _ _ _ _ _ m v),
      items_more _ h.0 _ _ _ d.loop-item.first h.2 (item_at d.args.items.now d.loop-item.item-index d.item-item.result within d.item-item.is),
    )

pub write_members-loop-key-init : goal.write_members-loop-key-init
write_members-loop-key-init c t d = record { written = λ plain. ([], nothing_written _ _ plain, ap (λ ps. shown_members true (members_of (map pair_view ps))) (sym (d.into_iter-key-iterator.ensures.into_iter_gives ∙ d.iter-key-items.ensures))); rest = ([], search rules) }

pub write_members-loop-key-preserved : goal.write_members-loop-key-preserved
write_members-loop-key-preserved c t d = record {
  written = λ plain.
      let h = d.loop-key.invariant.written plain in
      let m = d.write_mark.ensures h.1.plain (search rules) in
      let k = d.write_key.ensures m.plain (search rules) in
      let v = d.write_value.ensures k.plain (search rules) in
      (_, has_written_append _ _ _ _ _ _ h.1 (has_written_append _ _ _ _ _ _ m (has_written_append _ _ _ _ _ _ k v)), members_more _ h.0 _ _ _ _ d.loop-key.first h.2 (d.in-Some.ensures.steps ∙ ap (λ k. (k, d.in-Some.value.now) ∷ d.next.new.self) (sym d.deref.ensures)));
  rest = last_rest d.args.document.now _ _ _ d.loop-key.invariant.rest d.in-Some.ensures.steps;
}
