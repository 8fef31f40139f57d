use Rattle.std.proofs.Common.{false, true}
use Rattle.store_question.specs.Filters.{path_of}
use Rattle.store_asked.proofs.RangeLemmas.{along_adds}
use Rattle.store_asked.proofs.ranges.add_along.Goals as goal

pub returns-in-Some-clause-opened : goal.returns-in-Some-clause-opened
returns-in-Some-clause-opened c = along_adds c.args.inner.now c.in-Some.span (path_of c.args.path.now) c.args.ranges.now.items c.add_span.new.ranges.items c.in-Some.ensures true c.add_span.result c.add_span.ensures

pub returns-in-Some-clause-taken_whole : goal.returns-in-Some-clause-taken_whole
returns-in-Some-clause-taken_whole c = along_adds c.args.inner.now c.in-Some.span (path_of c.args.path.now) c.args.ranges.now.items c.add_span.new.ranges.items c.in-Some.ensures false c.add_span.result c.add_span.ensures
