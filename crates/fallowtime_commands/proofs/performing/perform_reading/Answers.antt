use Rattle.bson_store.specs.Calls.{store_state}
use Rattle.store_question.specs.Reads.{form_of}
use Rattle.fallowtime_commands.proofs.AskLemmas.{counted, counted_all, differs, found}
use Rattle.fallowtime_commands.proofs.performing.perform_reading.Goals as goal

pub returns-in-Get-clause-moves : goal.returns-in-Get-clause-moves
returns-in-Get-clause-moves g c = rw (c.in-Get.is, c.document.ensures.reply) c.get_raw.ensures.moves

pub returns-in-Find-clause-moves : goal.returns-in-Find-clause-moves
returns-in-Find-clause-moves g c =
    rw (c.in-Find.is, c.documents.ensures.reply) (found c.args.name.now (form_of c.in-Find.question) c.in-Find.wanted (store_state g.S.Store c.args.store.now) (store_state g.S.Store c.find_wanted.new.store) c.find_wanted.result c.find_wanted.ensures.moves)

pub returns-in-Count-clause-moves : goal.returns-in-Count-clause-moves
returns-in-Count-clause-moves g c =
    rw (c.in-Count.is, c.number.ensures.reply) (counted c.args.name.now (form_of c.in-Count.question) c.in-Count.part (store_state g.S.Store c.args.store.now) (store_state g.S.Store c.count_part.new.store) c.count_part.result c.count_part.ensures.moves)

pub returns-in-Distinct-clause-moves : goal.returns-in-Distinct-clause-moves
returns-in-Distinct-clause-moves g c =
    rw (c.in-Distinct.is, c.values.ensures.reply) (differs c.args.name.now (form_of c.in-Distinct.question) c.in-Distinct.path.items c.in-Distinct.counts _ c.as_slice.ensures.value (store_state g.S.Store c.args.store.now) (store_state g.S.Store c.distinct.new.store) c.distinct.result c.distinct.ensures.moves)

pub returns-in-Aggregate-clause-moves : goal.returns-in-Aggregate-clause-moves
returns-in-Aggregate-clause-moves g c = rw c.in-Aggregate.is (rw c.as_slice-in-Aggregate.ensures.value at c.aggregate.ensures.moves)

pub returns-in-Collections-clause-moves : goal.returns-in-Collections-clause-moves
returns-in-Collections-clause-moves g c = rw (c.in-Collections.is, c.names.ensures.reply) c.collections.ensures.moves

pub returns-in-Check-clause-moves : goal.returns-in-Check-clause-moves
returns-in-Check-clause-moves g c =
    rw (c.in-Check.is, c.number-in-Check.ensures.reply) (counted_all (store_state g.S.Store c.args.store.now) (store_state g.S.Store c.total.new.store) c.total.result c.total.ensures.moves)
