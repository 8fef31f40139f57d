use Rattle.std.proofs.Common.{◌∙◌, drop, string_bytes, subst, sym}
use Rattle.std.proofs.lemmas.Result.{err_from_is_err_and}
use Rattle.bson_base.specs.Value.{document}
use Rattle.bson_bytes.specs.Spells.{SpellsMembers}
use Rattle.bson_json.specs.Settling.{SpellsSettled}
use Rattle.bson_json.proofs.FormLemmas.{text_written}
use Rattle.bson_raw.specs.View.{bytes_of}
use Rattle.bson_json.proofs.StraightLemmas.{free_keys, unseen}
use Rattle.bson_json.proofs.document.write_settled.Goals as goal

pub text_of-requires : goal.text_of-requires
text_of-requires c = c.in_ok-is_settled.ensures.before ∙ c.writer_over-out.ensures.before

pub returns-clause-text : goal.returns-clause-text
returns-clause-text c = λ ms h.
    let a = c.in_ok-is_settled.ensures.form ms (subst (λ b. SpellsMembers (drop 4 b) ms) (sym c.in-Ok.ensures) h) in (
      a.1,
      text_written c.args.style (document ms) c.writer_over-out.result c.print_members.new.out (string_bytes c.text_of.result) a.2 c.writer_over-out.ensures.tokens c.text_of.ensures.text c.text_of.ensures.reads_back,
    )

pub returns-in_err-is_settled-clause-seen : goal.returns-in_err-is_settled-clause-seen
returns-in_err-is_settled-clause-seen c =
    let p = err_from_is_err_and c.from_residual.result c.from_residual.ensures.1 in
    let elements = drop 4 (bytes_of c.in-Ok.document) in
    rw (p.1, p.2)
    (unseen c.in_err-is_settled.field-0.0 (λ bad envelope ms h straight. free_keys c.args.style elements _ bad ms (subst (λ b. SpellsMembers (drop 4 b) ms) (sym c.in-Ok.ensures) h) straight) c.in_err-is_settled.ensures.seen)

pub returns-clause-settled : goal.returns-clause-settled
returns-clause-settled c = λ told. subst (λ b. SpellsSettled (drop 4 b)) c.in-Ok.ensures (c.in_ok-is_settled.ensures.settled told).0
