use Rattle.std.proofs.Common.{sym, ap, ◌∙◌, arith}
use Rattle.std.specs.Simd.Lanes.{chunk}
use Rattle.std.proofs.lemmas.Simd.{leading_from_mask_l, length-chunk, trailing_mask_l}
use lib.Count.{count_trailing_zeros}
use Rattle.bson_frame.proofs.AsciiLemmas.{ends_counted, is_end, run_in_front}
use Rattle.bson_frame.proofs.extent.ascii_run.Goals as goal

pub returns-then-ends-eq0-clause-run : goal.returns-then-ends-eq0-clause-run
returns-then-ends-eq0-clause-run c =
    let bytes = c.args.bytes.now in
    let none = leading_from_mask_l is_end (chunk 0 16 bytes) (sym (ends_counted bytes c.requires) ∙ c.if-ends-eq0.true) in
    (run_in_front bytes 16 c.requires (λ k. (c.type_inv.bytes k).fits) (sym (none ∙ length-chunk 0 16 bytes c.requires))).1

pub returns-else-ends-eq0-clause-short : goal.returns-else-ends-eq0-clause-short
returns-else-ends-eq0-clause-short c =
    let bytes = c.args.bytes.now in
    let long = length-chunk 0 16 bytes c.requires in
    let ends = ends_counted bytes c.requires in
    let first = ap (count_trailing_zeros 64) ends ∙ trailing_mask_l is_end 64 (chunk 0 16 bytes) (omega arith) (omega arith) in
    (run_in_front bytes _ c.requires (λ k. (c.type_inv.bytes k).fits) first).0

pub returns-else-ends-eq0-clause-run : goal.returns-else-ends-eq0-clause-run
returns-else-ends-eq0-clause-run c =
    let bytes = c.args.bytes.now in
    let long = length-chunk 0 16 bytes c.requires in
    let ends = ends_counted bytes c.requires in
    let first = ap (count_trailing_zeros 64) ends ∙ trailing_mask_l is_end 64 (chunk 0 16 bytes) (omega arith) (omega arith) in
    (run_in_front bytes _ c.requires (λ k. (c.type_inv.bytes k).fits) first).1
