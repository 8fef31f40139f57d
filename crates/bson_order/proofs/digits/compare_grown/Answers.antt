use Rattle.bson_order.proofs.DigitLemmas.{fives_room, twos_room}
use Rattle.bson_order.proofs.digits.compare_grown.Goals as goal

pub grow-grown-requires-clause-room : goal.grow-grown-requires-clause-room
grow-grown-requires-clause-room c = fives_room c.args.a c.args.n c.requires.first c.requires.fives

pub grow-other-requires-clause-room : goal.grow-other-requires-clause-room
grow-other-requires-clause-room c = twos_room c.args.b c.args.k c.requires.second c.requires.twos
