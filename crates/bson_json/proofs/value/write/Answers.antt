use Rattle.std.proofs.Common.{string_bytes, ◌∙◌}
use Rattle.bson_base.specs.Value.{document}
use Rattle.bson_model.specs.View.{content}
use Rattle.bson_json.proofs.PrintLemmas.{whole_text}
use Rattle.bson_json.proofs.value.write.Goals as goal

pub text_of-requires : goal.text_of-requires
text_of-requires c = c.in_ok-print_members.ensures.adds.1 ∙ c.writer_over-out.ensures.before

pub returns-clause-text : goal.returns-clause-text
returns-clause-text c =
    whole_text c.args.mode (document (content c.args.document.now)) c.writer_over-out.result c.print_members.new.out (string_bytes c.text_of.result) c.in_ok-print_members.ensures
    c.writer_over-out.ensures.tokens c.text_of.ensures.text c.text_of.ensures.reads_back
