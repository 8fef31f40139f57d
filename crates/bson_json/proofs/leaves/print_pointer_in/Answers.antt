use Rattle.std.proofs.Common.{refl}
use Rattle.bson_base.specs.Scalars.{id_bytes}
use Rattle.bson_base.specs.Value as value
use Rattle.bson_json.specs.Form as form
use Rattle.bson_model.specs.JsonWrite as written
use Rattle.bson_json.proofs.FormLemmas.{in_full, in_store}
use Rattle.bson_json.proofs.leaves.print_pointer_in.Goals as goal

pub returns-in-Stored : goal.returns-in-Stored
returns-in-Stored c = in_store c.args.style (value.db_pointer c.args.pointer.namespace.now (id_bytes c.args.pointer.id)) (written.write_pointer c.args.pointer.namespace.now (id_bytes c.args.pointer.id)) c.print_pointer.result c.args.out.now c.print_pointer.new.out c.in-Stored.is refl c.print_pointer.ensures

pub returns-in-Full : goal.returns-in-Full
returns-in-Full c = in_full c.args.style c.in-Full.field-0 (value.db_pointer c.args.pointer.namespace.now (id_bytes c.args.pointer.id)) (form.pointer_form c.args.pointer.namespace.now (id_bytes c.args.pointer.id)) c.print_pointer-in-Full.result c.args.out.now c.print_pointer-in-Full.new.out c.in-Full.is refl c.print_pointer-in-Full.ensures
