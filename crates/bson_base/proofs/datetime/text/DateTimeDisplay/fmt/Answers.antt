use Rattle.std.proofs.Common.{Some, rules}
use Rattle.std.proofs.Output.{has_written_styled_of_eq}
use Rattle.bson_base.specs.Dates.{shown_date}
use Rattle.bson_base.specs.Scalars.{millis_of}
use Rattle.bson_base.proofs.DateTextLemmas.{shown_date-is}
use Rattle.bson_base.proofs.PlainLemmas.{plain_from_styled}
use Rattle.bson_base.proofs.datetime.text.DateTimeDisplay.fmt.Goals as goal

pub returns-clause-dated : goal.returns-clause-dated
returns-clause-dated g c = search rules

pub returns-clause-styled : goal.returns-clause-styled
returns-clause-styled g c = λ flush ok.
    let w = returns-clause-dated g c flush ok in
    has_written_styled_of_eq _ _ _ _ _ (shown_date-is _ w.0 w.1) w.2

pub returns-clause-writes : goal.returns-clause-writes
returns-clause-writes g c =
    plain_from_styled g.W.Write.write_str_gives c.args.f.now c.write_date.new.f c.write_date.result (Some (shown_date (millis_of c.args.self.now))) (returns-clause-styled g c)
