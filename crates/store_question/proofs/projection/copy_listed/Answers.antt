use Rattle.std.proofs.Common.{◌≡◌, ◌++◌, ℕ, List, Vec, length, sym, ap, ◌∙◌, subst}
use Rattle.std.specs.declared.alloc.Global.{Global}
use Rattle.std.specs.List.{list_any}
use Rattle.std.specs.Str.{bytes_eq}
use Rattle.bson_frame.specs.Frame.{IsFirstFrame}
use Rattle.bson_frame.specs.View.{element_of}
use Rattle.store_question.specs.Filters.{path_of}
use Rattle.store_question.proofs.ProjectionLemmas.{Copying, FewCopied, any_mapped, copied_one, element_bytes, left_out, few_copied, few_left_out, split_front, front_taken, copy_end}
use Rattle.store_question.proofs.projection.copy_listed.Goals as goal
use Rattle.store_question.proofs.projection.copy_listed.Goals.{then-is_listed+in_ok-extend_from_slice, else-is_listed}

pub loop-first-preserved : goal.loop-first-preserved
loop-first-preserved c =
    let keys = path_of c.args.keys.now in
    let old = c.args.out.now.items in
    let new = c.loop-first.out.items in
    let left = c.loop-first.left.now in
    let e = element_of c.in-Ok.first in
    let rest = c.in-Ok.first.rest.now in
    let first : IsFirstFrame left e rest = c.in-Ok.ensures in
    let told : c.is_listed.result ≡ list_any (bytes_eq e.key) keys = c.is_listed.ensures ∙ any_mapped e.key c.args.keys.now in
    let n = length c.args.elements.now in
    elim c.if-is_listed.branch [
      | then-is_listed+in_ok-extend_from_slice w ↦
          let listed = sym told ∙ w.if-is_listed.true in
          let front = w.split_at.result.0.now in
          let front_is : front ≡ element_bytes e = w.split_at.ensures.front ∙ front_taken left (element_bytes e) rest (split_front left e rest first) in
          let now : c.if-is_listed.out.items ≡ new ++ front = ap (λ (v : Vec ℕ Global). v.items) w.out-is ∙ w.in_ok-extend_from_slice.ensures.items in (
            λ ms is back. copied_one keys ms old new left e rest first (c.loop-first.invariant.0 ms is back) listed c.if-is_listed.out.items front front_is now,
            few_copied old new left n e rest c.if-is_listed.out.items front first c.loop-first.invariant.1 front_is now,
          )
      | else-is_listed w ↦
          let listed = sym told ∙ w.if-is_listed.false in
          let now : new ≡ c.if-is_listed.out.items = sym (ap (λ (v : Vec ℕ Global). v.items) w.out-is) in (
            λ ms is back. subst (λ (x : List ℕ). Copying keys ms old x rest) now (left_out keys ms old new left e rest first (c.loop-first.invariant.0 ms is back) listed),
            subst (λ (x : List ℕ). FewCopied old x rest n) now (few_left_out old new left n e rest first c.loop-first.invariant.1),
          )
    ]

pub returns-clause-listed : goal.returns-clause-listed
returns-clause-listed c = λ ms is back.
    let fault = c.in_default.ensures in
    copy_end (path_of c.args.keys.now) ms c.args.out.now.items c.loop-first.out.items c.loop-first.left.now fault.no_frame (c.loop-first.invariant.0 ms is back)
