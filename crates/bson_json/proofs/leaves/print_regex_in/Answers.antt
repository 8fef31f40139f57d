use Rattle.std.proofs.Common.{refl}
use Rattle.bson_base.specs.Value as value
use Rattle.bson_json.specs.Form as form
use Rattle.bson_model.specs.JsonWrite as written
use Rattle.bson_json.proofs.FormLemmas.{in_full, in_store}
use Rattle.bson_json.proofs.leaves.print_regex_in.Goals as goal

pub returns-in-Stored : goal.returns-in-Stored
returns-in-Stored c = in_store c.args.style (value.regex c.args.regex.pattern.now c.args.regex.options.now) (written.write_regex c.args.regex.pattern.now c.args.regex.options.now) c.print_regex.result c.args.out.now c.print_regex.new.out c.in-Stored.is refl c.print_regex.ensures

pub returns-in-Full : goal.returns-in-Full
returns-in-Full c = in_full c.args.style c.in-Full.field-0 (value.regex c.args.regex.pattern.now c.args.regex.options.now) (form.regex_form c.args.regex.pattern.now c.args.regex.options.now) c.print_regex-in-Full.result c.args.out.now c.print_regex-in-Full.new.out c.in-Full.is refl c.print_regex-in-Full.ensures
