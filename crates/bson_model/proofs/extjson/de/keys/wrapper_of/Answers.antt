use Rattle.std.proofs.Common.{◌<◌, length, subst}
use Rattle.bson_model.proofs.KeyMarkLemmas.{empty_key, unmarked}
use Rattle.bson_model.proofs.extjson.de.keys.wrapper_of.Goals as goal

pub returns-in-empty : goal.returns-in-empty
returns-in-empty c = empty_key c.args.key.now (subst (λ l. length l < 1) c.as_bytes.ensures.value c.in-empty.len_below)

pub returns-else-first-eq36 : goal.returns-else-first-eq36
returns-else-first-eq36 c = unmarked c.as_bytes.result.now c.args.key.now c.as_bytes.ensures.value c.if-first-eq36.false
