use Rattle.std.proofs.Common.{◌≡◌, ◌++◌, take, drop, length, sym, ap, take-append-drop, ◌∙◌, arith}
use Rattle.std.proofs.lemmas.Grind.{common_steps}
use Rattle.std.proofs.Math.Seq.{take-add}
use Rattle.bson_base.proofs.DeviceLemmas.{take_rest, take_front, drop_drop}
use Rattle.bson_base.proofs.device.SliceSourceSource.read.Goals as goal

pub returns-clause-bytes : goal.returns-clause-bytes
returns-clause-bytes c =
    let s = c.args.self.now in
    let xs = s.bytes.now in
    let n = c.min-n.result in
    let copied = c.copy_from_slice.new.self in
    let long : length copied ≡ n = grind (arith, common_steps) in
    let here : copied ≡ take n (drop s.at xs) = c.copy_from_slice.ensures.after ∙ take_rest xs s.at n s.within (omega arith) in
    let front : take n (copied ++ drop n c.args.buf.now) ≡ copied = take_front copied (drop n c.args.buf.now) n long in
    let given : take n (drop s.at xs) ≡ take n (copied ++ drop n c.args.buf.now) = sym here ∙ sym front in (
      take-add s.at n xs ∙ ap (λ l. take s.at xs ++ l) given,
      sym (take-append-drop n (drop s.at xs)) ∙ ap (λ l. l ++ drop n (drop s.at xs)) given
          ∙ ap (λ l. take n (copied ++ drop n c.args.buf.now) ++ l) (drop_drop s.at n xs),
    )
