use Rattle.bson_json.proofs.FormLemmas.{double_in_full, double_in_store, double_unseen}
use Rattle.bson_json.proofs.leaves.print_double_in.Goals as goal

pub returns-in-Stored-clause-form : goal.returns-in-Stored-clause-form
returns-in-Stored-clause-form c = double_in_store c.args.style c.args.double.0 c.print_double.result c.args.out.now c.print_double.new.out c.in-Stored.is c.print_double.ensures.form

pub returns-in-Stored-clause-seen : goal.returns-in-Stored-clause-seen
returns-in-Stored-clause-seen c = double_unseen c.args.style c.args.double.0 c.print_double.result c.in-Stored.is c.print_double.ensures.seen

pub returns-in_ok-print_double-in-Full-clause-form : goal.returns-in_ok-print_double-in-Full-clause-form
returns-in_ok-print_double-in-Full-clause-form c = double_in_full c.args.style c.in-Full.mode c.args.double.0 c.args.out.now c.print_double-in-Full.new.out c.in-Full.is c.in_ok-print_double-in-Full.ensures
