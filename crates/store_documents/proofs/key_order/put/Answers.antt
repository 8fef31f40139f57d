use Rattle.std.proofs.Common.{◌≡◌, ◌≤◌, length, rules, subst, arith}
use Rattle.std.specs.Prelude.{insert}
use Rattle.store_documents.specs.declared.key_order.TheConstants.{MOST_PAIRS}
use Rattle.store_documents.specs.Order.{GoesAt, HasKey}
use Rattle.store_documents.proofs.PlaceLemmas.{apart, put_there, taken}
use Rattle.store_documents.proofs.key_order.put.Goals as goal

pub returns-in-Ok-clause-put : goal.returns-in-Ok-clause-put
returns-in-Ok-clause-put g c = λ _.
    let old = c.args.pairs.now.items in
    let goes = subst (GoesAt c.args.key.now c.in-Some.at) c.as_slice.ensures.value c.in-Some.ensures.goes in
    let is : c.insert.new.self.items ≡ insert old c.in-Some.at (c.args.key, c.args.value) = search rules in
    put_there c.args.key c.args.value old c.insert.new.self.items c.in-Some.at c.requires goes is

pub returns-in-Ok-clause-refused : goal.returns-in-Ok-clause-refused
returns-in-Ok-clause-refused g c =
    let goes = subst (GoesAt c.args.key.now c.in-Some.at) c.as_slice.ensures.value c.in-Some.ensures.goes in
    let full = MOST_PAIRS ≤ length c.args.pairs.now.items in
    let has = HasKey c.args.key.now c.args.pairs.now.items in
    taken full has (λ most. omega (arith, most, c.if-len-ge-MOST_PAIRS.false)) (apart c.args.key.now c.in-Some.at c.args.pairs.now.items c.requires goes)
