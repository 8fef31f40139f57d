use Rattle.std.proofs.Common.{inl, ap, sym, ◌∙◌, subst, ◌≤◌, length, arith}
use Rattle.bson_frame.specs.declared.error.ErrorKind.TheVariants.{MalformedValue}
use Rattle.bson_frame.specs.Payload.{TextFault, IsTextAt, text_in, scope_in, code_in}
use Rattle.std.proofs.Common.{IsUtf8, drop, ◌+◌, ◌≡◌}
use Rattle.bson_frame.specs.Frame.{number}
use Rattle.bson_meaning.proofs.PayloadLemmas.{no_text, scope_long}
use Rattle.bson_meaning.proofs.gating.scope_of.Goals as goal

pub returns-then-payload-lt14 : goal.returns-then-payload-lt14
returns-then-payload-lt14 c = c.requires MalformedValue (inl c.if-payload-lt14.true)

pub returns-in-Ok : goal.returns-in-Ok
returns-in-Ok c =
    let payload = c.args.payload.now in
    let back = c.split_at.ensures.back in
    let here = c.in-Ok.ensures in
    let text : IsTextAt (code_in payload) = subst IsTextAt back here.0 in
    let utf : IsUtf8 (text_in (code_in payload)) = subst IsUtf8 (here.1 ∙ ap text_in back) here.2 in
    let scope : c.in-Ok.scope.now ≡ scope_in payload = here.3 ∙ ap (λ b. drop (number b + 4) b) back in
    (scope, subst (λ b. 5 ≤ length b) (sym scope) (scope_long payload c.requires text utf))

pub returns-in-Err : goal.returns-in-Err
returns-in-Err c =
    no_text c.args.payload.now c.in-Err.field-0 c.requires (omega (arith, c.if-payload-lt14.false)) (subst (λ b. TextFault b c.in-Err.field-0) c.split_at.ensures.back c.in-Err.ensures)
