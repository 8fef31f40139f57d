use Rattle.std.proofs.Common.{◌∙◌, ap}
use Rattle.fallowtime_requests.specs.Requests.{with_counts, with_drops}
use Rattle.std.proofs.lemmas.Result.{err_from_is_err_and}
use Rattle.fallowtime_front.proofs.AskingLemmas.{by_equalities, by_path, by_question, by_stop, by_wanted}
use Rattle.fallowtime_front.proofs.asking.ask_by_words.Goals as goal

pub returns : goal.returns
returns c =
    by_question c.args.words.now c.args.maker.now c.question_of_words.new.maker c.upsert_by_words.new.maker c.in_ok-read.read c.in_ok-named.named c.in_ok-question.question c.want.new.question c.without_lines.result c.with_drops-request.result c.in_ok-read.ensures.asked
    c.in_ok-named.ensures c.in_ok-question.ensures.upserts (c.in_ok-wanted.wanted, c.in_ok-wanted.ensures, c.want.ensures.request) c.want.ensures.collection c.without_lines.ensures.collection (c.with_drops-request.ensures ∙ ap (with_drops c.args.words.now.options.drops) (c.with_counts.ensures ∙ ap (with_counts c.args.words.now.options.counts) c.with_many.ensures)) c.without_lines.ensures.request c.without_lines.ensures.lines

pub returns-in_err-read : goal.returns-in_err-read
returns-in_err-read c =
    let p = err_from_is_err_and c.from_residual-in_err-read.result c.from_residual-in_err-read.ensures.1 in
    rw p.1 (
    by_stop c.args.words.now c.args.maker.now c.question_of_words.new.maker c.in_ok-wanted.wanted c.in_err-read.field-0.0 p.0 c.in_ok-wanted.ensures c.in_err-read.ensures.asked (c.in_err-read.ensures.maker c.requires) p.2
    )

pub returns-in_err-question : goal.returns-in_err-question
returns-in_err-question c =
    let p = err_from_is_err_and c.from_residual-in_err-question.result c.from_residual-in_err-question.ensures.1 in
    rw p.1 (
    by_equalities c.args.words.now c.args.maker.now c.question_of_words.new.maker c.upsert_by_words.new.maker c.in_ok-read.read c.in_ok-named.named c.in_err-question.field-0.0 p.0 c.in_ok-read.ensures.asked c.in_ok-named.ensures c.in_err-question.ensures.upserts c.in_err-question.ensures.maker p.2
    )

pub returns-in_err-named : goal.returns-in_err-named
returns-in_err-named c =
    let p = err_from_is_err_and c.from_residual-in_err-named.result c.from_residual-in_err-named.ensures.1 in
    rw p.1 (by_path c.args.words.now c.args.maker.now c.question_of_words.new.maker c.in_ok-read.read c.in_err-named.field-0.0 p.0 c.in_ok-read.ensures.asked c.in_err-named.ensures p.2)

pub returns-in_err-wanted : goal.returns-in_err-wanted
returns-in_err-wanted c =
    let p = err_from_is_err_and c.from_residual.result c.from_residual.ensures.1 in
    rw p.1 (by_wanted c.args.words.now c.args.maker.now c.in_err-wanted.field-0.0 p.0 c.in_err-wanted.ensures p.2)
