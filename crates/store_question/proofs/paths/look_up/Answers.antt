use Rattle.std.proofs.Common.{◌+◌, ◌*◌, ◌≤◌, drop, Option, refl, ap, subst, arith}
use Rattle.std.proofs.lemmas.List.{drop_all}
use Rattle.bson_base.specs.Value.{document}
use Rattle.bson_raw.specs.declared.bson_ref.RawBsonRef.{RawBsonRef}
use Rattle.bson_raw.specs.View.{bytes_of}
use Rattle.store_question.specs.Filters.{path_of}
use Rattle.store_question.specs.Views.{room, room_of}
use Rattle.store_question.proofs.MemberLemmas.{document_back}
use Rattle.store_question.proofs.PathLemmas.{onward, stopped, stopped_met, stepped, arrived}
use Rattle.store_question.proofs.paths.look_up.Goals as goal

pub loop-key-init : goal.loop-key-init
loop-key-init c = (
  λ d clean sound is. record {
    value = document d;
    encodes = (d, refl, is);
    back = document_back d (bytes_of c.args.document) c.args.document.envelope clean sound is;
    same = refl;
    count = omega arith;
  },
  omega (arith, c.args.document.envelope.some),
)

pub returns-in_default-clause-found : goal.returns-in_default-clause-found
returns-in_default-clause-found c = λ d clean sound is.
    let path = c.args.path.now in
    let way = onward (document d) path c.loop-key.key-index c.key-item.result c.as_str.result.now c.loop-key.here c.loop-key.met c.key-item.is c.loop-key-test.true c.as_str.ensures.value (c.loop-key.invariant.0 d clean sound is) in
    stopped (document d) (path_of path) c.loop-key.here c.loop-key.met c.as_str.result.now (path_of (drop (c.loop-key.key-index + 1) path)) way c.look_in-more.result.0 (c.look_in-more.ensures.found way.value way.encodes way.back) c.look_in-more.result.1 (c.look_in-more.ensures.met way.value way.encodes way.back) c.in_default.is

pub returns-in_default-clause-met : goal.returns-in_default-clause-met
returns-in_default-clause-met c = λ d clean sound is.
    let path = c.args.path.now in
    let way = onward (document d) path c.loop-key.key-index c.key-item.result c.as_str.result.now c.loop-key.here c.loop-key.met c.key-item.is c.loop-key-test.true c.as_str.ensures.value (c.loop-key.invariant.0 d clean sound is) in
    stopped_met (document d) (path_of path) c.loop-key.here c.loop-key.met c.as_str.result.now (path_of (drop (c.loop-key.key-index + 1) path)) way c.look_in-more.result.0 (c.look_in-more.ensures.found way.value way.encodes way.back) c.look_in-more.result.1 (c.look_in-more.ensures.met way.value way.encodes way.back) c.in_default.is

pub loop-key-preserved : goal.loop-key-preserved
loop-key-preserved c =
    let path = c.args.path.now in
    let few = subst (λ (o : Option RawBsonRef). 2 * c.look_in-more.result.1 + room_of o ≤ room c.loop-key.here) c.in-Some.is c.look_in-more.ensures.few in (
      λ d clean sound is.
          let way = onward (document d) path c.loop-key.key-index c.key-item.result c.as_str.result.now c.loop-key.here c.loop-key.met c.key-item.is c.loop-key-test.true c.as_str.ensures.value (c.loop-key.invariant.0 d clean sound is) in
          stepped (document d) (path_of path) c.loop-key.here c.loop-key.met c.as_str.result.now (path_of (drop (c.loop-key.key-index + 1) path)) way c.look_in-more.result.0 (c.look_in-more.ensures.found way.value way.encodes way.back) c.look_in-more.result.1 (c.look_in-more.ensures.met way.value way.encodes way.back) c.in-Some.next c.in-Some.is,
      omega (arith, few, c.loop-key.invariant.1),
    )

pub returns-clause-found : goal.returns-clause-found
returns-clause-found c = λ d clean sound is.
    let path = c.args.path.now in
    let over = ap path_of (drop_all c.loop-key.key-index path c.loop-key-test.false) in
    (arrived (document d) (path_of path) (path_of (drop c.loop-key.key-index path)) c.loop-key.here c.loop-key.met (c.loop-key.invariant.0 d clean sound is) over).0

pub returns-clause-met : goal.returns-clause-met
returns-clause-met c = λ d clean sound is.
    let path = c.args.path.now in
    let over = ap path_of (drop_all c.loop-key.key-index path c.loop-key-test.false) in
    (arrived (document d) (path_of path) (path_of (drop c.loop-key.key-index path)) c.loop-key.here c.loop-key.met (c.loop-key.invariant.0 d clean sound is) over).1
