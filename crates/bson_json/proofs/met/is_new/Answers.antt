use Rattle.std.proofs.Common.{◌<◌, length, refl, subst, sym, arith}
use Rattle.std.proofs.lemmas.List.{drop_all}
use Rattle.bson_bytes.specs.Met.{IsNew}
use Rattle.bson_json.proofs.SettlingLemmas.{new_more}
use Rattle.bson_json.proofs.met.is_new.Goals as goal

pub loop-other-preserved : goal.loop-other-preserved
loop-other-preserved c = λ rest.
    let l = c.loop-other in
    let keys = c.args.keys.now in
    let within : l.other-index < length keys = omega arith in
    l.invariant (new_more c.args.key.now keys l.other-index _ within (c.is_same.ensures c.if-is_same.false) rest)

pub returns : goal.returns
returns c = λ told.
    let l = c.loop-other in
    l.invariant (subst (IsNew c.args.key.now) (sym (drop_all l.other-index c.args.keys.now c.loop-other-test.false)) refl)
