use Rattle.std.proofs.Common.{◌≡◌, ◌∙◌, Ok, true, false, ap, string_bytes, String, Global, Vec, rules}
use Rattle.store_question.specs.Filters.{path_of}
use Rattle.bson_store.specs.Find.{IsOn}
use Rattle.store_table.specs.Moves.{VisitsPlaced}
use Rattle.store_table.specs.Table.{table_state}
use Rattle.bson_store.specs.Gathering.{MakesIndex}
use Rattle.bson_store.specs.declared.indexed.gathering.Gatherer.{Gatherer}
use Rattle.bson_store.proofs.GatherLemmas.{TookRows, made}
use Rattle.bson_store.proofs.MoveLemmas.{moved}
use Rattle.bson_store.proofs.indexed.gathering.gather.Goals as goal

pub returns-clause-moves : goal.returns-clause-moves
returns-clause-moves g c =
    let first : Gatherer = record { index = c.new.result; failed = false; alloc = c.args.alloc } in
    let last = c.visit_placed.new.visitor in
    let coll = c.args.coll.now in
    let all : c.in_ok-all.all ≡ true = (let f = c.if-not-all.false in search rules) in
    let path = path_of c.args.path.items in
    let on : IsOn c.new.result coll path = (ap (λ (s : String Global). string_bytes s) c.new.ensures.coll ∙ c.in_ok-owned.ensures, ap (λ (k : Vec (String Global) Global). path_of k.items) c.new.ensures.path) in
    moved (table_state g.S.Store c.args.table.now) (table_state g.S.Store c.visit_placed.new.self) (VisitsPlaced (TookRows first) first last coll (Ok true)) (MakesIndex coll path (Ok last.index))
    (rw all at c.in_ok-all.ensures.moves)
    (λ docs after h. made coll path first last docs after on c.new.ensures.none c.if-gatherer.false h)
