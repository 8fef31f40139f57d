use Rattle.std.proofs.Common.{◌++◌, ◌∷◌, [], sym, subst}
use Rattle.bson_base.specs.Device.{Tally}
use Rattle.bson_store.specs.Export.{Sent}
use Rattle.bson_store.proofs.ExportLemmas.{sent_no_more, sent_some}
use Rattle.bson_store.proofs.export.ExportVisitorVisit.visit.Goals as goal

pub returns-then-self-clause-took : goal.returns-then-self-clause-took
returns-then-self-clause-took g c first bodies sent =
    let old : Tally = g.W.Sink.tally first.writer.now in
    let now : Tally = g.W.Sink.tally c.args.self.now.writer.now in
    let stays = sent_no_more old now bodies c.args.body.now (subst (λ b. Sent old now b bodies) c.if-self.true sent.1) in
    (sent.0, subst (λ b. Sent old now b (bodies ++ c.args.body.now ∷ [])) (sym c.if-self.true) stays)

pub returns-in-Err-clause-took : goal.returns-in-Err-clause-took
returns-in-Err-clause-took g c first bodies sent =
    let old : Tally = g.W.Sink.tally first.writer.now in
    let mid : Tally = g.W.Sink.tally c.args.self.now.writer.now in
    let new : Tally = g.W.Sink.tally c.write_all.new.sink in
    (sent.0, sent_some old mid new bodies c.args.body.now (subst (λ b. Sent old mid b bodies) c.if-self.false sent.1) c.in-Err.ensures.counts c.in-Err.ensures.err)
