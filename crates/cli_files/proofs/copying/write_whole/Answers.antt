use Rattle.std.proofs.Common.{rules, ◌≡◌, ℕ, List, subst, inl, inr, refl}
use Rattle.std.specs.Io.KnownBytes.{Appends}
use Rattle.bson_base.specs.Device.{TakesBeginning}
use Rattle.cli_files.proofs.copying.write_whole.Goals as goal

pub returns-in-Ok-clause-whole : goal.returns-in-Ok-clause-whole
returns-in-Ok-clause-whole g c =
    let same : c.as_slice.result.now ≡ c.in_ok-bytes.bytes.items = search rules in
    let took = subst (λ (bytes : List ℕ). Appends (g.F.Sink.tally c.args.copy.now).taken (g.F.Sink.tally c.write_all.new.sink).taken bytes) same c.in-Ok.ensures.ok in
    (c.in_ok-bytes.bytes.items, took, c.in_ok-bytes.ensures)

pub returns-clause-failed : goal.returns-clause-failed
returns-clause-failed g c =
    let same : c.as_slice.result.now ≡ c.in_ok-bytes.bytes.items = search rules in
    let took = subst (λ (bytes : List ℕ). TakesBeginning (g.F.Sink.tally c.args.copy.now).taken (g.F.Sink.tally c.write_all.new.sink).taken bytes) same c.in-Err.ensures.err in
    inr (refl, c.in-Err.ensures.counts, (c.in_ok-bytes.bytes.items, took, c.in_ok-bytes.ensures))
