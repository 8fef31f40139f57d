-- What the INSERT, the UPDATEs and the DELETE mean, wherever the table is in a schema.
use Rattle.std.proofs.Common.{◌≡◌, ℕ, ◌-◌, List, [], ◌∷◌, codes, None, Some, Ok, refl}
use Rattle.sqlite.specs.declared.types.Value.TheVariants.{Null}
use Rattle.sqlite.specs.Schema.{Schema}
use Rattle.sqlite.specs.Term.{Term, lit, col}
use Rattle.sqlite.specs.Command.TheVariants.{Insert, Update, Delete}
use Rattle.sqlite.specs.Source.TheVariants.{Values}
use Rattle.sqlite_schema.specs.declared.program.Program.{Program}
use Rattle.sqlite_ast.specs.declared.Rows.TheVariants as rows
use Rattle.sqlite_ast.specs.declared.Conflict.TheVariants as conflict
use Rattle.sqlite_ast.specs.declared.Statement.{Statement}
use Rattle.sqlite_ast.specs.declared.Statement.TheVariants as written
use Rattle.sqlite_draft.specs.declared.join.Step.TheVariants.{Inner}
use Rattle.sqlite_draft.specs.declared.query.Draft.{Draft}
use Rattle.sqlite_resolve.specs.declared.state.State.{State}
use Rattle.sqlite_resolve.specs.Lowering.{fresh, max_budget}
use Rattle.sqlite_resolve.specs.Body.{tests}
use Rattle.sqlite_resolve.specs.Write.{simple, row, over, assigned, picked, updated_in, updated, deleted}
use Rattle.sqlite_resolve.specs.Program.{program as typed}
use Rattle.sqlite_resolve.specs.Compile.{new_rows, insert, insert_or_abort, update, delete, command, timed}
use Rattle.sqlite_tied.specs.Compute.{everything}
use Rattle.store_table.specs.Schema.{documents_at, HasDocuments}
use Rattle.store_table.proofs.LookLemmas.{by_nothing}
use Rattle.store_table.proofs.FilterLemmas.{after, parameter, place_test, place_lowered}
use Rattle.store_table.proofs.TextLemmas.{query_at, program, equals, insert_terms}

abbrev pub insert_names : List (List ℕ)
insert_names = codes "place" ∷ codes "coll" ∷ codes "idkey" ∷ codes "body" ∷ []

abbrev pub insert_rows : Rattle.sqlite_ast.specs.declared.Rows.Rows
insert_rows = rows.Values ((parameter 1 ∷ parameter 2 ∷ parameter 3 ∷ parameter 4 ∷ []) ∷ [])

abbrev pub insert_statement : Statement
insert_statement = written.Insert conflict.Abort (codes "documents") insert_names insert_rows [] []

abbrev pub update_statement : List ℕ → Statement
update_statement column = written.Update (codes "documents") ((column, parameter 2) ∷ []) (Some place_test) []

abbrev pub delete_statement : Statement
delete_statement = written.Delete (codes "documents") (Some place_test) []

abbrev pub body_project : List Term
body_project = col 1 0 ∷ col 1 0 ∷ lit Null ∷ col 1 2 ∷ col 1 3 ∷ col 0 1 ∷ []

abbrev pub idkey_project : List Term
idkey_project = col 1 0 ∷ col 1 0 ∷ lit Null ∷ col 1 2 ∷ col 0 1 ∷ col 1 4 ∷ []

abbrev pub program_at : ℕ → List Term → Program
program_at tree project = program (query_at tree (equals 0 0 ∷ []) project [])

abbrev pub place_draft : ℕ → List Term → Draft
place_draft tree project = simple (Inner tree ∷ []) (equals 0 0 ∷ []) project

module _ (schema : Schema) (n tree : ℕ) (h : HasDocuments schema.tables n tree) where
  -- ---- INSERT

  rows_are : (base : ℕ) → new_rows schema (documents_at tree) base insert_names insert_rows ≡ Ok (Values insert_terms 5)
  unfolding everything
  rows_are base = refl

  inserts : (base : ℕ) → insert_or_abort schema base (codes "documents") insert_names insert_rows [] ≡ Ok (Insert n (Values insert_terms 5))
  unfolding insert_or_abort insert
  inserts base = rw (h.named, h.at, rows_are base) refl

  pub insert_means : (base : ℕ) → command schema [] base insert_statement ≡ Ok (Insert n (Values insert_terms 5))
  unfolding command
  insert_means base = inserts base

  pub insert_untimed : timed schema [] insert_statement ≡ []
  unfolding timed
  insert_untimed = rw (h.named, h.at) refl

  -- ---- by place

  picks : (project : List Term) (b : ℕ) (c : Rattle.sqlite_resolve.specs.declared.state.Carried.Carried) (t : State)
      → Rattle.sqlite_resolve.specs.Expr.lower (over schema n (codes "documents")) place_test (after b c) ≡ Ok (equals 0 0, after (b - 1 - 1 - 1) by_nothing)
      → picked (over schema n (codes "documents")) (documents_at tree) project (Some place_test) (after b c) ≡ Ok (place_draft tree project, after (b - 1 - 1 - 1) by_nothing)
  unfolding picked tests
  picks project b c t lowered = rw lowered refl

  first_picked : (project : List Term) → picked (over schema n (codes "documents")) (documents_at tree) project (Some place_test) (after 100000 by_nothing) ≡ Ok (place_draft tree project, after 99997 by_nothing)
  first_picked project = picks project 100000 by_nothing (after 99997 by_nothing) (place_lowered schema n tree h [] 100000 by_nothing refl refl refl)

  second_picked : (project : List Term) → picked (over schema n (codes "documents")) (documents_at tree) project (Some place_test) (after 99999 by_nothing) ≡ Ok (place_draft tree project, after 99996 by_nothing)
  second_picked project = picks project 99999 by_nothing (after 99996 by_nothing) (place_lowered schema n tree h [] 99999 by_nothing refl refl refl)

  delete_drafted : deleted schema n (documents_at tree) (Some place_test) ≡ Ok (place_draft tree (col 1 0 ∷ []))
  unfolding deleted
  delete_drafted = rw (first_picked (col 1 0 ∷ [])) refl

  delete_typed : typed schema [] (place_draft tree (col 1 0 ∷ [])) ≡ Ok (program_at tree (col 1 0 ∷ []))
  unfolding everything
  delete_typed = rw (h.stored, h.own) refl

  pub delete_means : (base : ℕ) → command schema [] base delete_statement ≡ Ok (Delete n (program_at tree (col 1 0 ∷ [])))
  unfolding command delete
  delete_means base = rw (h.named, h.at, delete_drafted, delete_typed) refl

  body_assigned : assigned (over schema n (codes "documents")) (documents_at tree) ((codes "body", parameter 2) ∷ []) (fresh 2 max_budget) ≡ Ok ((4 ∷ [], col 0 1 ∷ []), after 99999 by_nothing)
  unfolding everything
  body_assigned = refl

  idkey_assigned : assigned (over schema n (codes "documents")) (documents_at tree) ((codes "idkey", parameter 2) ∷ []) (fresh 2 max_budget) ≡ Ok ((3 ∷ [], col 0 1 ∷ []), after 99999 by_nothing)
  unfolding everything
  idkey_assigned = refl

  body_row : row (documents_at tree) None (4 ∷ []) (col 1 0 ∷ []) (col 0 1 ∷ []) ≡ Ok body_project
  unfolding everything
  body_row = refl

  idkey_row : row (documents_at tree) None (3 ∷ []) (col 1 0 ∷ []) (col 0 1 ∷ []) ≡ Ok idkey_project
  unfolding everything
  idkey_row = refl

  body_drafted : updated schema n (documents_at tree) ((codes "body", parameter 2) ∷ []) (Some place_test) ≡ Ok (place_draft tree body_project)
  unfolding updated updated_in
  body_drafted = rw (body_assigned, body_row, second_picked body_project) refl

  idkey_drafted : updated schema n (documents_at tree) ((codes "idkey", parameter 2) ∷ []) (Some place_test) ≡ Ok (place_draft tree idkey_project)
  unfolding updated updated_in
  idkey_drafted = rw (idkey_assigned, idkey_row, second_picked idkey_project) refl

  body_typed : typed schema [] (place_draft tree body_project) ≡ Ok (program_at tree body_project)
  unfolding everything
  body_typed = rw (h.stored, h.own) refl

  idkey_typed : typed schema [] (place_draft tree idkey_project) ≡ Ok (program_at tree idkey_project)
  unfolding everything
  idkey_typed = rw (h.stored, h.own) refl

  pub body_means : (base : ℕ) → command schema [] base (update_statement (codes "body")) ≡ Ok (Update n (program_at tree body_project))
  unfolding command update
  body_means base = rw (h.named, h.at, body_drafted, body_typed) refl

  pub idkey_means : (base : ℕ) → command schema [] base (update_statement (codes "idkey")) ≡ Ok (Update n (program_at tree idkey_project))
  unfolding command update
  idkey_means base = rw (h.named, h.at, idkey_drafted, idkey_typed) refl
