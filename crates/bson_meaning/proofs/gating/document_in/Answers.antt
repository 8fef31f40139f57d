use Rattle.std.proofs.Common.{subst}
use Rattle.bson_frame.specs.Payload.{IsFaultless}
use Rattle.bson_meaning.proofs.PayloadLemmas.{scope_holds}
use Rattle.bson_meaning.proofs.gating.document_in.Goals as goal

pub scope_of-requires : goal.scope_of-requires
scope_of-requires c = subst (λ t. IsFaultless t c.args.frame.now.payload.now) c.in-JavaScriptCodeWithScope.is c.requires.faultless

pub returns-in-JavaScriptCodeWithScope : goal.returns-in-JavaScriptCodeWithScope
returns-in-JavaScriptCodeWithScope c = scope_holds c.args.frame.now.tag c.args.frame.now.payload.now c.scope_of.result c.in-JavaScriptCodeWithScope.is c.requires.faultless c.scope_of.ensures
