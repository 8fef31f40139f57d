use Rattle.std.proofs.Common.{ap}
use Rattle.bson_bytes.proofs.ValueLemmas.{binary_written, one_form_inner, regex_written, scalar_spelled, scalar_written}
use Rattle.bson_bytes.proofs.elements.is_scalar_written.Goals as goal
use Rattle.bson_bytes.proofs.MeaningLemmas.{are_bytes}
use Rattle.bson_bytes.proofs.ScalarReadLemmas.{HasInner}

pub returns-in-Binary-clause-written : goal.returns-in-Binary-clause-written
returns-in-Binary-clause-written c u =
    let p = c.args.payload.now in
    binary_written p c.args.tag c.in-Binary.is (are_bytes p c.type_inv.payload) c.requires (c.is_new_binary.ensures u)

pub returns-in-Binary-clause-spelled : goal.returns-in-Binary-clause-spelled
returns-in-Binary-clause-spelled c u whole = scalar_spelled c.args.payload.now c.args.tag (ap HasInner c.in-Binary.is) c.requires whole

pub returns-in-RegularExpression-clause-written : goal.returns-in-RegularExpression-clause-written
returns-in-RegularExpression-clause-written c u = regex_written c.args.payload.now c.args.tag c.in-RegularExpression.is c.requires (c.has_ordered_options.ensures u)

pub returns-in-RegularExpression-clause-spelled : goal.returns-in-RegularExpression-clause-spelled
returns-in-RegularExpression-clause-spelled c u whole = scalar_spelled c.args.payload.now c.args.tag (ap HasInner c.in-RegularExpression.is) c.requires whole

pub returns-in_default-clause-written : goal.returns-in_default-clause-written
returns-in_default-clause-written c u =
    let p = c.args.payload.now in
    scalar_written p c.args.tag (are_bytes p c.type_inv.payload) c.requires (c.has_one_form.ensures u)

pub returns-in_default-clause-spelled : goal.returns-in_default-clause-spelled
returns-in_default-clause-spelled c u whole = scalar_spelled c.args.payload.now c.args.tag (one_form_inner c.args.tag (c.has_one_form.ensures u)) c.requires whole
