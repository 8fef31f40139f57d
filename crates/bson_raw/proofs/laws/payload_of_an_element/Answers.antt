use Rattle.bson_raw.specs.View.{parts_of}
use Rattle.bson_raw.proofs.SizedLemmas.{payload_had}
use Rattle.bson_raw.proofs.laws.payload_of_an_element.Goals as goal

pub returns : goal.returns
returns c = payload_had (parts_of c.args.element.now).tag (parts_of c.args.element.now).payload c.args.element.now.sized
