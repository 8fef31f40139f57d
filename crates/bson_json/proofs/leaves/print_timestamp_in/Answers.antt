use Rattle.std.proofs.Common.{refl}
use Rattle.bson_base.specs.Value as value
use Rattle.bson_json.specs.Form as form
use Rattle.bson_model.specs.JsonWrite as written
use Rattle.bson_json.proofs.FormLemmas.{in_full, in_store}
use Rattle.bson_json.proofs.leaves.print_timestamp_in.Goals as goal

pub returns-in-Stored : goal.returns-in-Stored
returns-in-Stored c = in_store c.args.style (value.timestamp c.args.timestamp.time c.args.timestamp.increment) (written.write_timestamp c.args.timestamp.time c.args.timestamp.increment) c.print_timestamp.result c.args.out.now c.print_timestamp.new.out c.in-Stored.is refl c.print_timestamp.ensures

pub returns-in-Full : goal.returns-in-Full
returns-in-Full c = in_full c.args.style c.in-Full.field-0 (value.timestamp c.args.timestamp.time c.args.timestamp.increment) (form.timestamp_form c.args.timestamp.time c.args.timestamp.increment) c.print_timestamp-in-Full.result c.args.out.now c.print_timestamp-in-Full.new.out c.in-Full.is refl c.print_timestamp-in-Full.ensures
