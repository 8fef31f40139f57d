use Rattle.std.proofs.Common.{string_bytes, ◌∙◌}
use Rattle.bson_model.specs.View.{view}
use Rattle.bson_json.proofs.PrintLemmas.{whole_text}
use Rattle.bson_json.proofs.value.write_value.Goals as goal

pub text_of-requires : goal.text_of-requires
text_of-requires c = c.in_ok-print_value.ensures.adds.1 ∙ c.writer_over-out.ensures.before

pub returns-clause-text : goal.returns-clause-text
returns-clause-text c =
    whole_text c.args.mode (view c.args.value.now) c.writer_over-out.result c.print_value.new.out (string_bytes c.text_of.result) c.in_ok-print_value.ensures
    c.writer_over-out.ensures.tokens c.text_of.ensures.text c.text_of.ensures.reads_back
