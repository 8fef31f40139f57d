use Rattle.std.proofs.Common.{inl, inr, refl}
use Rattle.bson_store_cli.proofs.commands.serve.Goals as goal

pub returns-in-Some-clause-misuse : goal.returns-in-Some-clause-misuse
returns-in-Some-clause-misuse g c = λ h. c.serve_words.ensures.misuse (h _ (inr (c.in-Some.seconds, c.in-Some.ensures)))

pub returns-in-None-clause-misuse : goal.returns-in-None-clause-misuse
returns-in-None-clause-misuse g c = λ h. c.serve_words-in-None.ensures.misuse (h _ (inl refl))
