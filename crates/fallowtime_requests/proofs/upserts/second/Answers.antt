use Rattle.std.proofs.Common.{arith, sym}
use Rattle.fallowtime_requests.proofs.UpsertLemmas.{no_second, second}
use Rattle.fallowtime_requests.proofs.upserts.second.Goals as goal

pub returns-in-len2-up : goal.returns-in-len2-up
returns-in-len2-up c = sym (second c.args.words.now c.query-item.result c.in-len2-up.len_at_least c.query-item.is)

pub returns-in_default : goal.returns-in_default
returns-in_default c = sym (no_second c.args.words.now (λ two. omega (arith, two, c.in_default.len_below)))
