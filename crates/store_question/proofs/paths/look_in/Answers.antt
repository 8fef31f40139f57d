use Rattle.std.proofs.Common.{Option, sym, subst}
use Rattle.bson_base.specs.Value.{Value, look_up}
use Rattle.bson_raw.specs.declared.element.RawElement.{RawElement}
use Rattle.store_question.specs.Views.{Finds, FindsElement}
use Rattle.store_question.proofs.MemberLemmas.{pairs_back, found_back}
use Rattle.store_question.proofs.paths.look_in.Goals as goal
use Rattle.store_model.specs.Filter.{pairs}

pub returns-in-Some-found-clause-found : goal.returns-in-Some-found-clause-found
returns-in-Some-found-clause-found c = λ v h b.
    let key = c.args.key.now in
    let looked = c.find-met.ensures.found (pairs v) (c.in-Some.ensures.held v h) (pairs_back v b) in
    let f = subst (λ (x : Option RawElement). FindsElement x (look_up key (pairs v))) c.in-Some-found.is looked in
    subst (λ (x : Option Value). Finds c.value_of.result x) (sym f.1) (c.value_of.ensures.written f.0 f.2 (found_back key (pairs v) f.0 (pairs_back v b) f.1))

pub returns-in-Some-found-clause-met : goal.returns-in-Some-found-clause-met
returns-in-Some-found-clause-met c = λ v h b. c.find-met.ensures.met (pairs v) (c.in-Some.ensures.held v h) (pairs_back v b)

pub returns-in-None-clause-found : goal.returns-in-None-clause-found
returns-in-None-clause-found c = λ v h b.
    let looked = c.find-met.ensures.found (pairs v) (c.in-Some.ensures.held v h) (pairs_back v b) in
    subst (λ (x : Option RawElement). FindsElement x (look_up c.args.key.now (pairs v))) c.in-None.is looked

pub returns-in-None-clause-met : goal.returns-in-None-clause-met
returns-in-None-clause-met c = λ v h b. c.find-met.ensures.met (pairs v) (c.in-Some.ensures.held v h) (pairs_back v b)
