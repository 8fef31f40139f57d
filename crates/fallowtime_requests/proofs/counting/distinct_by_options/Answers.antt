use Rattle.std.proofs.Common.{◌≡◌, ℕ, List, inr, refl, sym}
use Rattle.fallowtime_requests.specs.Inputs.{Given}
use Rattle.fallowtime_requests.specs.Requests.{Asks}
use Rattle.fallowtime_requests.specs.declared.reading.Layout.{Layout}
use Rattle.fallowtime_requests.specs.declared.request.Request.{Request}
use Rattle.fallowtime_requests.specs.declared.request.Request.TheVariants as request
use Rattle.cli_convert.specs.declared.made.IdMaker.{IdMaker}
use Rattle.fallowtime_words.specs.declared.command.Command.TheVariants as command
use Rattle.fallowtime_requests.proofs.counting.distinct_by_options.Goals as goal

-- `distinct` takes no id of the maker
same_maker : (m n : IdMaker) (gs : List Given) (name : List ℕ) (r : Request) (l : Layout) → Asks m n command.Distinct gs name r l → n ≡ m
same_maker m n gs name (request.Distinct p f b) l h = h.2
same_maker m n gs name _ l h = absurd h

pub returns-in-Some-clause-asked : goal.returns-in-Some-clause-asked
returns-in-Some-clause-asked c =
    (c.in_ok-question.question.request, c.in-Some.counts, rw (c.counted.ensures.1, c.counted.ensures.2) c.in_ok-question.ensures.asked, sym c.in-Some.ensures, c.counted.ensures.0)

pub returns-in-None-clause-asked : goal.returns-in-None-clause-asked
returns-in-None-clause-asked c = rw c.given_up.ensures (inr (inr (sym c.in-None.ensures, refl)))

pub returns-in-None-clause-maker : goal.returns-in-None-clause-maker
returns-in-None-clause-maker c =
    let q = c.in_ok-question.question in
    rw c.given_up.ensures (same_maker c.args.maker.now c.question_of_items.new.maker _ q.collection.now q.request q.layout c.in_ok-question.ensures.asked)
