-- What the texts mean, wherever the table is in a schema.
use Rattle.std.proofs.Common.{◌≡◌, ℕ, List, [], ◌∷◌, codes, true, false, None, Ok, Err, Result, refl}
use Rattle.sqlite.specs.Schema.{Schema}
use Rattle.sqlite.specs.Term.{col}
use Rattle.sqlite.specs.Command.{Command}
use Rattle.sqlite.specs.Command.TheVariants.{Select, Insert, Update, Delete}
use Rattle.sqlite.specs.Source.TheVariants.{Values}
use Rattle.sqlite.specs.Listing.{understood, reads_listing, misses_table}
use Rattle.sqlite.proofs.Callers.{IsPlain, command_of}
use Rattle.sqlite_ast.specs.declared.Select as asked
use Rattle.sqlite_ast.specs.declared.Statement.{Statement}
use Rattle.sqlite_ast.specs.declared.Statement.TheVariants as written
use Rattle.sqlite_syntax.specs.declared.statement.Parsed.{Parsed}
use Rattle.sqlite_resolve.specs.declared.compiled.Compiled.{Compiled}
use Rattle.sqlite_resolve.specs.declared.error.CompileError.{CompileError}
use Rattle.sqlite_resolve.specs.Lowering.{Checked}
use Rattle.sqlite_resolve.specs.Compile.{first, compiled, planned, meaning, returning, timed, command, shows, read}
use Rattle.sqlite_tied.specs.Compute.{everything}
use Rattle.store_table.specs.Schema.{HasDocuments}
use Rattle.store_table.specs.Open.{all_text}
use Rattle.store_table.specs.Names.{names_text}
use Rattle.store_table.specs.Visit.{scan_text, placed_text}
use Rattle.store_table.proofs.FilterLemmas.{named_terms, scan_terms}
use Rattle.store_table.proofs.QueryLemmas.{place_key, names_select, all_select, greatest_select, found_select, places_select, scan_select, at_select, placed_select, names_read, all_read, greatest_read, found_read, places_read, scan_read, at_read, placed_read}
use Rattle.store_table.proofs.CommandLemmas.{insert_statement, update_statement, delete_statement, body_project, idkey_project, program_at, insert_means, insert_untimed, delete_means, body_means, idkey_means}
use Rattle.store_table.proofs.TextLemmas.{query_at, program, equals, at_text, greatest_text, insert_text, insert_terms, delete_text, update_text, rekey_text, find_text, places_text}

-- the text is read as this statement, with no time in it
abbrev pub ParsesAs : Statement → Checked Parsed → Type 0
ParsesAs s (Ok p) = (p.statement ≡ s) × (p.formats ≡ [])
ParsesAs s (Err e) = ⊥

-- under the schema the text is this command, with nothing to show and no time in it
pub record Means (schema : Schema) (text : List ℕ) (k : Command) : Type 0 where
  pub is : command_of (understood schema text) ≡ k
  pub plain : IsPlain (understood schema text)
  pub unlisted : reads_listing schema text ≡ false

abbrev CompilesAs : Command → Result Compiled CompileError → Type 0
CompilesAs k r = (command_of r ≡ k) × IsPlain r × (misses_table r ≡ false)

compiles : (schema : Schema) (text : List ℕ) (s : Statement) (k : Command) (f : Checked Parsed) → first text ≡ f → ParsesAs s f → timed schema [] s ≡ [] → ((base : ℕ) → returning schema base s ≡ Ok None)
    → ((base : ℕ) → command schema [] base s ≡ Ok k) → CompilesAs k (compiled schema text)
unfolding compiled planned meaning
compiles schema text s k (Ok p) is read untimed shows_none means = rw (is, read.0, read.1, untimed, shows_none, means) (refl, (refl, refl), refl)
compiles schema text s k (Err e) is read untimed shows_none means = absurd read

means_by : (schema : Schema) (text : List ℕ) (k : Command) → CompilesAs k (compiled schema text) → Means schema text k
unfolding understood
means_by schema text k c = record { is = rw c.2 c.0; plain = rw c.2 c.1; unlisted = c.2 }

-- a SELECT
select_by : (schema : Schema) (text : List ℕ) (s : asked.Select) (k : Command) → ParsesAs (written.Select s) (first text) → read schema s ≡ Ok k → Means schema text k
unfolding timed returning command
select_by schema text s k parses h = means_by schema text k (compiles schema text (written.Select s) k (first text) refl parses refl (λ base. refl) (λ base. h))

insert_parses : ParsesAs insert_statement (first insert_text)
unfolding everything
insert_parses = (refl, refl)

delete_parses : ParsesAs delete_statement (first delete_text)
unfolding everything
delete_parses = (refl, refl)

update_parses : ParsesAs (update_statement (codes "body")) (first update_text)
unfolding everything
update_parses = (refl, refl)

pub rekey_parses : ParsesAs (update_statement (codes "idkey")) (first rekey_text)
unfolding everything
rekey_parses = (refl, refl)

names_parses : ParsesAs (written.Select names_select) (first names_text)
unfolding everything
names_parses = (refl, refl)

all_parses : ParsesAs (written.Select all_select) (first all_text)
unfolding everything
all_parses = (refl, refl)

greatest_parses : ParsesAs (written.Select greatest_select) (first greatest_text)
unfolding everything
greatest_parses = (refl, refl)

find_parses : ParsesAs (written.Select found_select) (first find_text)
unfolding everything
find_parses = (refl, refl)

places_parses : ParsesAs (written.Select places_select) (first places_text)
unfolding everything
places_parses = (refl, refl)

placed_parses : ParsesAs (written.Select placed_select) (first placed_text)
unfolding everything
placed_parses = (refl, refl)

at_parses : ParsesAs (written.Select at_select) (first at_text)
unfolding everything
at_parses = (refl, refl)

scan_parses : ParsesAs (written.Select scan_select) (first scan_text)
unfolding everything
scan_parses = (refl, refl)

module _ (schema : Schema) (n tree : ℕ) (h : HasDocuments schema.tables n tree) where
  pub insert_is : Means schema insert_text (Insert n (Values insert_terms 5))
  unfolding returning shows
  insert_is = means_by schema insert_text _ (compiles schema insert_text insert_statement _ (first insert_text) refl insert_parses (insert_untimed schema n tree h) (λ base. refl) (insert_means schema n tree h))

  pub delete_is : Means schema delete_text (Delete n (program_at tree (col 1 0 ∷ [])))
  unfolding returning shows timed
  delete_is = means_by schema delete_text _ (compiles schema delete_text delete_statement _ (first delete_text) refl delete_parses refl (λ base. refl) (delete_means schema n tree h))

  pub update_is : Means schema update_text (Update n (program_at tree body_project))
  unfolding returning shows timed
  update_is = means_by schema update_text _ (compiles schema update_text (update_statement (codes "body")) _ (first update_text) refl update_parses refl (λ base. refl) (body_means schema n tree h))

  pub rekey_is : Means schema rekey_text (Update n (program_at tree idkey_project))
  unfolding returning shows timed
  rekey_is = means_by schema rekey_text _ (compiles schema rekey_text (update_statement (codes "idkey")) _ (first rekey_text) refl rekey_parses refl (λ base. refl) (idkey_means schema n tree h))

  pub names_is : Means schema names_text (Select (program (query_at tree [] (col 1 2 ∷ []) (place_key false))) (codes "coll" ∷ []))
  names_is = select_by schema names_text names_select _ names_parses (names_read schema n tree h)

  pub all_is : Means schema all_text (Select (program (query_at tree [] (col 1 0 ∷ col 1 2 ∷ col 1 3 ∷ col 1 4 ∷ []) (place_key false))) (codes "place" ∷ codes "coll" ∷ codes "idkey" ∷ codes "body" ∷ []))
  all_is = select_by schema all_text all_select _ all_parses (all_read schema n tree h)

  pub greatest_is : Means schema greatest_text (Select (program (record (query_at tree [] (col 1 0 ∷ []) (place_key true)) { limit = Rattle.sqlite_resolve.specs.Terms.number 1 })) (codes "place" ∷ []))
  greatest_is = select_by schema greatest_text greatest_select _ greatest_parses (greatest_read schema n tree h)

  pub find_is : Means schema find_text (Select (program (query_at tree named_terms (col 1 0 ∷ col 1 4 ∷ []) (place_key false))) (codes "place" ∷ codes "body" ∷ []))
  find_is = select_by schema find_text found_select _ find_parses (found_read schema n tree h)

  pub places_is : Means schema places_text (Select (program (query_at tree named_terms (col 1 0 ∷ []) (place_key false))) (codes "place" ∷ []))
  places_is = select_by schema places_text places_select _ places_parses (places_read schema n tree h)

  pub scan_is : Means schema scan_text (Select (program (query_at tree scan_terms (col 1 4 ∷ []) (place_key false))) (codes "body" ∷ []))
  scan_is = select_by schema scan_text scan_select _ scan_parses (scan_read schema n tree h)

  pub at_is : Means schema at_text (Select (program (query_at tree (equals 0 0 ∷ []) (col 1 2 ∷ col 1 4 ∷ []) (place_key false))) (codes "coll" ∷ codes "body" ∷ []))
  at_is = select_by schema at_text at_select _ at_parses (at_read schema n tree h)

  pub placed_is : Means schema placed_text (Select (program (query_at tree scan_terms (col 1 0 ∷ col 1 4 ∷ []) (place_key false))) (codes "place" ∷ codes "body" ∷ []))
  placed_is = select_by schema placed_text placed_select _ placed_parses (placed_read schema n tree h)
