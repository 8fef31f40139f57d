use Rattle.std.proofs.Common.{refl, subst, sym, Option, List, ℕ}
use Rattle.bson_raw.specs.Walk.{walk_items}
use Rattle.bson_raw.proofs.TurnLemmas.{IsLeft, nth_found}
use Rattle.bson_raw.proofs.array.RawArray.item_at.Goals as goal

pub returns : goal.returns
returns c = λ elements fault w.
    let ran = c.nth.ensures.ran in
    let items = walk_items elements fault in
    let start = subst (λ (x : Option (List ℕ)). IsLeft x items) (sym c.iter_elements.ensures.start) (elements, fault, w, refl) in
    nth_found c.one_first_frame.ensures c.one_structural_fault.ensures ran.0 c.iter_elements.result ran.1.0 c.nth.new.self c.nth.result c.args.index items start ran.1.1 ran.1.2 ran.2
