use Rattle.std.proofs.Common.{inl, inr, refl, sym}
use Rattle.json.specs.Value.{items_view, value_view}
use Rattle.fallowtime_requests.specs.Inputs.{trees}
use Rattle.fallowtime_requests.proofs.ChooseLemmas.{chosen_so, kept}
use Rattle.fallowtime_requests.proofs.choosing.change_by_options.Goals as goal

pub returns-in-Some-clause-asked : goal.returns-in-Some-clause-asked
returns-in-Some-clause-asked c =
    chosen_so c.args.several c.args.maker.now c.upserting_if.new.maker c.args.command c.question_of_items.new.maker (items_view c.args.items.now) (value_view c.args.query.now) (value_view c.args.options.now)
    c.in_ok-question.question c.of_many-question.result c.in-Some.choice c.upserting_if.result c.in_ok-question.ensures.asked c.in-Some.ensures c.of_many-question.ensures.0 c.of_many-question.ensures.1 c.of_many-question.ensures.2 c.upserting_if.ensures.upserts

pub returns-in-Some-clause-maker : goal.returns-in-Some-clause-maker
returns-in-Some-clause-maker c =
    let q = c.in_ok-question.question in
    kept c.args.maker.now c.question_of_items.new.maker c.upserting_if.new.maker c.upserting_if.result
    (c.requires.takes c.args.maker.now c.question_of_items.new.maker (trees (items_view c.args.items.now)) q.collection.now q.request q.layout c.in_ok-question.ensures.asked) c.upserting_if.ensures.maker

pub returns-in-None-clause-asked : goal.returns-in-None-clause-asked
returns-in-None-clause-asked c = rw c.given_up.ensures (inr (inl (sym c.in-None.ensures, refl)))

pub returns-in-None-clause-maker : goal.returns-in-None-clause-maker
returns-in-None-clause-maker c =
    let q = c.in_ok-question.question in
    rw c.given_up.ensures (c.requires.takes c.args.maker.now c.question_of_items.new.maker (trees (items_view c.args.items.now)) q.collection.now q.request q.layout c.in_ok-question.ensures.asked)
