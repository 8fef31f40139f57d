use Rattle.std.proofs.Common.{◌≡◌, Some, None, eqb, length, take, sym, ◌∙◌, ap, arith, lit<}
use Rattle.std.specs.List.{position_or_len}
use Rattle.std.proofs.lemmas.List.{take_all}
use Rattle.std.proofs.lemmas.Str.Pattern.{split_once_first}
use Rattle.fallowtime_words.proofs.explaining.before_space.Goals as goal

pub returns-in-Some : goal.returns-in-Some
returns-in-Some c = (split_once_first 32 c.args.word.now (Some (c.in-Some.front, c.in-Some.field-0-1)) c.in-Some.ensures.cases (lit< tt)).1

pub returns-in-None : goal.returns-in-None
returns-in-None c =
    let all : position_or_len (λ b. eqb b 32) c.args.word.now ≡ length c.args.word.now = split_once_first 32 c.args.word.now None c.in-None.ensures.cases (lit< tt) in
    sym (ap (λ n. take n c.args.word.now) all ∙ take_all (length c.args.word.now) c.args.word.now (omega arith))
