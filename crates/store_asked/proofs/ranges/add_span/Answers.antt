use Rattle.std.proofs.Common.{◌∙◌, sym, subst}
use Rattle.store_question.specs.Filters.{path_of}
use Rattle.bson_store.specs.Fronts.{LiesInAll}
use Rattle.store_asked.proofs.RangeLemmas.{put_behind, put_narrower}
use Rattle.store_asked.proofs.ranges.add_span.Goals as goal

pub returns-in_ok-push-in-Some : goal.returns-in_ok-push-in-Some
returns-in_ok-push-in-Some c =
    put_narrower c.args.span (path_of c.args.path.now) c.args.ranges.now.items c.pop-last.new.self.items c.push.new.self.items c.in-Some.last c.narrower.result c.in-Some.ensures.items c.in_ok-push-in-Some.ensures.items
    ((rw c.as_slice.ensures.value at c.is_same_path.ensures).0 c.if-is_same_path.true) c.narrower.ensures

pub returns-in_ok-push-in-Some-3 : goal.returns-in_ok-push-in-Some-3
returns-in_ok-push-in-Some-3 c d at_it l =
    put_behind c.args.span (path_of c.args.path.now) c.push-else-is_same_path.new.self.items c.push-else-is_same_path-2.new.self.items c.in_ok-spanned-in-Some.field-0 c.in_ok-push-in-Some-3.ensures.items c.in_ok-spanned-in-Some.ensures.path c.in_ok-spanned-in-Some.ensures.span d at_it
    (subst (λ rs. LiesInAll rs d) (c.in-Some.ensures.items ∙ sym c.in_ok-push-in-Some-2.ensures.items) l)
