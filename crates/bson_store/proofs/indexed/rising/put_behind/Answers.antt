use Rattle.std.proofs.Common.{sym, subst, ap, ◌∙◌}
use Rattle.bson_store.specs.Lists.{Ascends, is_among}
use Rattle.bson_store.proofs.AmongLemmas.{ascends_more, behind_there, behind_kept}
use Rattle.bson_store.proofs.indexed.rising.put_behind.Goals as goal

pub returns-clause-ascending : goal.returns-clause-ascending
returns-clause-ascending c h =
    let is = c.as_slice.ensures.value in
    let all = (rw is at (c.is_behind.ensures c.if-not-is_behind.false)) h in
    subst Ascends (sym c.in_ok-push_place.ensures) (ascends_more c.args.out.now.items c.args.place.now all h)

pub returns-clause-there : goal.returns-clause-there
returns-clause-there c t = ap (is_among c.args.place.now) c.in_ok-push_place.ensures ∙ behind_there c.args.place.now c.args.out.now.items

pub returns-clause-kept : goal.returns-clause-kept
returns-clause-kept c p h = ap (is_among p) c.in_ok-push_place.ensures ∙ behind_kept c.args.place.now p c.args.out.now.items h
