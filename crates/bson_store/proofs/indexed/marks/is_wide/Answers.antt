use Rattle.std.proofs.Common.{◌≡◌, ◌+◌, true, false, refl, sym, subst, ◌∙◌}
use Rattle.bson_frame.specs.Payload.{IsEnvelope}
use Rattle.store_question.specs.Filters.{path_of}
use Rattle.store_model.specs.Reading.{readable}
use Rattle.store_model.proofs.RestoreLemmas.{written_reads}
use Rattle.bson_store.proofs.MarkLemmas.{leads_by, none_at_all, none_first, none_next}
use Rattle.bson_store.proofs.indexed.marks.is_wide.Goals as goal

pub loop-n-init : goal.loop-n-init
loop-n-init c d kept is = none_first d (path_of c.args.path.now)

pub returns-then-leads_to_wide : goal.returns-then-leads_to_wide
returns-then-leads_to_wide c d kept is =
    let leads = leads_by d c.args.path.now (c.loop-n.n + 1) c.leads_to_wide.result (c.leads_to_wide.ensures d kept.read.clean kept.read.sound (c.in-Ok.ensures ∙ is)) in
    (λ _. (c.loop-n.n + 1, leads.0 c.if-leads_to_wide.true), λ _. refl)

pub loop-n-preserved : goal.loop-n-preserved
loop-n-preserved c d kept is =
    let leads = leads_by d c.args.path.now (c.loop-n.n + 1) c.leads_to_wide.result (c.leads_to_wide.ensures d kept.read.clean kept.read.sound (c.in-Ok.ensures ∙ is)) in
    none_next d (path_of c.args.path.now) c.loop-n.n (c.loop-n.invariant d kept is) (λ h. let x : true ≡ false = sym (leads.1 h) ∙ c.if-leads_to_wide.false in absurd (cc))

pub returns-in_default : goal.returns-in_default
returns-in_default c d kept is = absurd (c.in_default.ensures.0 (subst IsEnvelope (sym is) ((written_reads d kept (readable d)).1 refl).0.1))

pub returns : goal.returns
returns c d kept is = (λ t. absurd (cc), λ w. absurd (none_at_all d c.args.path.now c.loop-n.n c.loop-n-test.false (c.loop-n.invariant d kept is) w))
