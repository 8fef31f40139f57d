use Rattle.std.proofs.Common.{◌∷◌, [], length, ap, ◌∙◌, arith, length-append}
use Rattle.std.specs.Vec.Iter.{into_iter_items}
use Rattle.bson_store.specs.Calls.{store_state}
use Rattle.bson_store.specs.declared.command.Reply.{Reply}
use Rattle.bson_store.proofs.RunLemmas.{so_far_start, so_far_more, so_far_all, so_far_left, so_far_open, ends_moved, lists_moved}
use Rattle.bson_store.proofs.batch.run.Goals as goal
use Rattle.std.proofs.lemmas.List.{nil_from_length}

pub loop-command-init : goal.loop-command-init
loop-command-init g c =
    let gives = c.into_iter-command-iterator.ensures.into_iter_gives in
    let none = c.in_ok-replies.ensures.items in
    let all = ap length gives.0 in
    let empty = ap length none in (
      so_far_start (store_state g.S.Store c.args.store.now) c.args.commands.items (into_iter_items c.into_iter-command-iterator.result) c.in_ok-replies.replies.items gives.0 none,
      omega (arith, all, gives.1, c.args.commands.ok.0),
      omega (arith, empty, all, c.in_ok-replies.ensures.capacity, c.len.ensures, c.args.commands.ok.0),
      tt,
      tt,
    )

pub loop-command-preserved : goal.loop-command-preserved
loop-command-preserved g c =
    let l = c.loop-command in
    let steps = c.in-Some.ensures.steps in
    let items = c.in_ok-push.ensures.items in
    let longer = ap length items in
    let fewer = ap length steps.0 in (
      so_far_more (store_state g.S.Store c.args.store.now) (store_state g.S.Store l.store) (store_state g.S.Store c.execute-reply.new.store) c.args.commands.items (into_iter_items l.command-iterator) (into_iter_items c.next.new.self) c.in-Some.command
          l.replies.items c.push.new.self.items c.execute-reply.result steps.0 items l.invariant.0 c.execute-reply.ensures.moves c.execute-reply.ensures.open c.execute-reply.ensures.crash,
      omega (arith, fewer, steps.1, l.invariant.1),
      omega (arith, fewer, longer, length-append {A = Reply} l.replies.items (c.execute-reply.result ∷ []), c.push.ensures.capacity, l.invariant.2),
      tt,
      tt,
    )

pub returns-clause-tables : goal.returns-clause-tables
returns-clause-tables g c =
    let l = c.loop-command in
    so_far_all (store_state g.S.Store c.args.store.now) (store_state g.S.Store l.store) c.args.commands.items (into_iter_items l.command-iterator) l.replies.items
    (nil_from_length (into_iter_items l.command-iterator) (l.invariant.1 ∙ c.in-None.ensures.steps.0)) l.invariant.0

pub returns-clause-lists : goal.returns-clause-lists
returns-clause-lists g c =
    let l = c.loop-command in
    lists_moved (store_state g.S.Store c.args.store.now) (store_state g.S.Store l.store) c.args.commands.items l.replies.items
    (so_far_all (store_state g.S.Store c.args.store.now) (store_state g.S.Store l.store) c.args.commands.items (into_iter_items l.command-iterator) l.replies.items
    (nil_from_length (into_iter_items l.command-iterator) (l.invariant.1 ∙ c.in-None.ensures.steps.0)) l.invariant.0)

pub returns-clause-crash : goal.returns-clause-crash
returns-clause-crash g c =
    let l = c.loop-command in
    so_far_left (store_state g.S.Store c.args.store.now) (store_state g.S.Store l.store) c.args.commands.items (into_iter_items l.command-iterator) l.replies.items
    (nil_from_length (into_iter_items l.command-iterator) (l.invariant.1 ∙ c.in-None.ensures.steps.0)) l.invariant.0

pub returns-clause-ends : goal.returns-clause-ends
returns-clause-ends g c = ends_moved (store_state g.S.Store c.args.store.now) (store_state g.S.Store c.loop-command.store) c.args.commands.items c.loop-command.replies.items (returns-clause-crash g c)

pub returns-clause-open : goal.returns-clause-open
returns-clause-open g c = let l = c.loop-command in so_far_open (store_state g.S.Store c.args.store.now) (store_state g.S.Store l.store) c.args.commands.items (into_iter_items l.command-iterator) l.replies.items l.invariant.0
