use Rattle.std.proofs.Common.{refl}
use Rattle.std.specs.Prelude.{string_bytes}
use Rattle.fallowtime_requests.specs.Inputs.{seen, word}
use Rattle.fallowtime_requests.proofs.UpsertLemmas.{by_words, not_by_words}
use Rattle.fallowtime_requests.proofs.upserts.upsert_by_words.Goals as goal

pub returns-in-Some-clause-upserts : goal.returns-in-Some-clause-upserts
returns-in-Some-clause-upserts c =
    by_words c.args.maker.now c.upserting.new.maker c.args.words.now c.args.question (word (string_bytes c.in-Some.query.now)) (seen c.of_word.result) c.upserting.result c.in-Some.ensures c.of_word.ensures c.upserting.ensures.upserts

pub returns-in-None-clause-upserts : goal.returns-in-None-clause-upserts
returns-in-None-clause-upserts c = (not_by_words c.args.maker.now c.args.words.now c.args.question.request c.in-None.ensures, refl, refl)
