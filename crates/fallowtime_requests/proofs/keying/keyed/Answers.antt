use Rattle.std.proofs.Common.{inl, inr, refl, sym}
use Rattle.std.specs.Prelude.{option_map}
use Rattle.json.specs.Value.{items_view, value_view}
use Rattle.fallowtime_requests.specs.Inputs.{trees}
use Rattle.fallowtime_requests.proofs.KeyLemmas.{keeps, keyed_so}
use Rattle.fallowtime_requests.proofs.keying.keyed.Goals as goal

pub returns-in-Some-clause-asked : goal.returns-in-Some-clause-asked
returns-in-Some-clause-asked c =
    keyed_so c.args.maker.now c.question_of_items.new.maker c.args.command (items_view c.args.items.now) (option_map (λ o. value_view o.now) c.args.options) c.in_ok-question.question c.in-Some.literal c.along_path.result c.in_ok-question.ensures.asked c.in-Some.ensures
    c.along_path.ensures

pub returns-in-Some-clause-maker : goal.returns-in-Some-clause-maker
returns-in-Some-clause-maker c =
    let q = c.in_ok-question.question in
    keeps c.args.maker.now c.question_of_items.new.maker c.along_path.result
    (c.requires.takes c.args.maker.now c.question_of_items.new.maker (trees (items_view c.args.items.now)) q.collection.now q.request q.layout c.in_ok-question.ensures.asked)

pub returns-in-None-clause-asked : goal.returns-in-None-clause-asked
returns-in-None-clause-asked c = rw c.given_up.ensures (inr (inl (inr (sym c.in-None.ensures, refl))))

pub returns-in-None-clause-maker : goal.returns-in-None-clause-maker
returns-in-None-clause-maker c =
    let q = c.in_ok-question.question in
    rw c.given_up.ensures (c.requires.takes c.args.maker.now c.question_of_items.new.maker (trees (items_view c.args.items.now)) q.collection.now q.request q.layout c.in_ok-question.ensures.asked)
