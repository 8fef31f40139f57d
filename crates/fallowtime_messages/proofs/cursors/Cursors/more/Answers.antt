use Rattle.std.proofs.Common.{◌≡◌, ◌∙◌, ap, map, sym, subst, arith, rules, ◌<◌, is_ok, w64}
use Rattle.std.proofs.lemmas.List.{nil_from_length}
use Rattle.std.proofs.lemmas.Int.{to_z-of_z}
use Rattle.fallowtime_messages.specs.Waiting.{TakesOut, wait_of, waiting}
use Rattle.fallowtime_messages.proofs.WaitLemmas.{grown_if_below, last_told, more_told, number_of, out_below, waits_of}
use Rattle.fallowtime_messages.proofs.cursors.Cursors.more.Goals as goal

pub returns-then-is_empty : goal.returns-then-is_empty
returns-then-is_empty c =
    let left = c.batch_of.new.rest in
    let none : left.len ≡ 0 = search rules in
    let old = waiting c.args.self.now in
    let ws = map wait_of c.take_out.new.cursors.items in
    last_told c.args.size c.args.id c.args.space.now c.in-Some.cursor old ws (subst (λ z. TakesOut z c.args.space.now (wait_of c.in-Some.cursor) old ws) (to_z-of_z w64 c.args.id c.ranges.id) c.in-Some.ensures) c.in_ok-bodies.bodies.items left.items
    c.in_ok-bodies.ensures (nil_from_length left.items (sym left.ok.0 ∙ none))

pub returns : goal.returns
returns c =
    let left = c.batch_of.new.rest in
    let old = waiting c.args.self.now in
    let ws = map wait_of c.take_out.new.cursors.items in
    let same = to_z-of_z w64 c.args.id c.ranges.id in
    let out = subst (λ z. TakesOut z c.args.space.now (wait_of c.in-Some.cursor) old ws) same c.in-Some.ensures in
    let some : 0 < left.len = search (rules, arith) in
    more_told c.args.size c.args.id c.args.space.now c.in-Some.cursor old ws out c.in_ok-bodies.bodies.items left.items c.in_ok-bodies.ensures (map wait_of c.push.new.self.items) _ (subst (λ n. 0 < n) left.ok.0 some)
    (ap (map wait_of) c.in_ok-push.ensures.items ∙ waits_of c.take_out.new.cursors.items _) (same ∙ sym (number_of c.args.id c.args.space.now (wait_of c.in-Some.cursor) old ws out))

pub invariant_of-self-in-Break-1 : goal.invariant_of-self-in-Break-1
invariant_of-self-in-Break-1 c = record {
  from_one = c.args.self.now.from_one;
  below = (out_below c.args.self.now.next _ c.args.space.now (wait_of c.in-Some.cursor) (waiting c.args.self.now) (map wait_of c.take_out.new.cursors.items) c.in-Some.ensures c.args.self.now.below).0;
}

pub invariant_of-self-then-is_empty : goal.invariant_of-self-then-is_empty
invariant_of-self-then-is_empty c = record {
  from_one = c.args.self.now.from_one;
  below = (out_below c.args.self.now.next _ c.args.space.now (wait_of c.in-Some.cursor) (waiting c.args.self.now) (map wait_of c.take_out.new.cursors.items) c.in-Some.ensures c.args.self.now.below).0;
}

pub invariant_of-self-2 : goal.invariant_of-self-2
invariant_of-self-2 c =
    let p = out_below c.args.self.now.next _ c.args.space.now (wait_of c.in-Some.cursor) (waiting c.args.self.now) (map wait_of c.take_out.new.cursors.items) c.in-Some.ensures c.args.self.now.below in record {
      from_one = c.args.self.now.from_one;
      below = grown_if_below (is_ok c.push.result) c.args.self.now.next _ c.take_out.new.cursors.items c.push.new.self.items c.push.ensures.items p.0 p.1;
    }
