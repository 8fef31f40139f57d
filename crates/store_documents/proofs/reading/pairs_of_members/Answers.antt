use Rattle.std.proofs.Common.{◌<◌, ◌+◌, ◌∷◌, ◌∙◌, length, drop, sym, ap, arith}
use Rattle.std.proofs.lemmas.List.{drop_more}
use Rattle.json.specs.Value.{members_view}
use Rattle.store_documents.proofs.MemberLemmas.{taken_more}
use Rattle.store_documents.proofs.reading.pairs_of_members.Goals as goal

pub loop-key-preserved : goal.loop-key-preserved
loop-key-preserved c =
    let l = c.loop-key in
    let ms = c.args.members.now in
    let m = c.loop-key-item.result in
    let within : l.key-index < length ms = omega (arith, c.loop-key-test.true) in
    let here = drop_more ms l.key-index m within ∙ ap (λ y. y ∷ drop (l.key-index + 1) ms) (sym c.loop-key-item.is) in
    let put = c.in_ok-put.ensures.put c.if-not-branch.false in
    (taken_more (members_view ms) (members_view (drop l.key-index ms)) (members_view (drop (l.key-index + 1) ms)) m.0 _ l.pairs.items c.put.new.pairs.items (ap members_view here) put l.invariant.0, put.0)
