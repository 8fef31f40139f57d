-- What a crash leaves of a list of requests.
use Rattle.std.proofs.Common.{inl, inr, List, Result, Ok, Err, Vec, Global}
use Rattle.sqlite.specs.Effect.{Database}
use Rattle.sqlite_trees.specs.Tree.{Trees}
use Rattle.store_model.specs.Table.{DocumentTable}
use Rattle.fallowtime_commands.specs.declared.answer.Answer.{Answer}
use Rattle.fallowtime_requests.specs.declared.reading.Question.{Question}
use Rattle.fallowtime_commands.specs.Listing.{LeftByAll}
use Rattle.fallowtime_commands.specs.declared.session.error.ListError.{ListError}

-- what might be left before may be more
pub more_by_all : (first : Database) (Before More : Trees → Type 0) → ((db : Trees) → Before db → More db) → (a : DocumentTable) (qs : List Question) (r : Result (Vec Answer Global) ListError) (db : Trees) → LeftByAll Before first a qs r db → LeftByAll More first a qs r db
more_by_all first Before More more a qs (Ok xs) db h = h
more_by_all first Before More more a qs (Err e) db (inl was) = inl (more db was)
more_by_all first Before More more a qs (Err e) db (inr made) = inr made
