-- What a column of the table means, wherever the table is in a schema.
use Rattle.std.proofs.Common.{◌≡◌, ℕ, ◌-◌, suc, ◌++◌, List, [], ◌∷◌, codes, Bool, true, false, Option, None, Some, Ok, refl, nat_lt}
use Rattle.sqlite.specs.Schema.{Schema}
use Rattle.sqlite.specs.Term.{col}
use Rattle.sqlite.specs.Collation.TheVariants.{Binary}
use Rattle.sqlite_value.specs.declared.keys.Collation.{Collation}
use Rattle.sqlite_schema.specs.Names.{place_of}
use Rattle.sqlite_ast.specs.declared.Expr.{Expr, out-Expr, roll-Expr}
use Rattle.sqlite_ast.specs.declared.Expr.TheOpen.{Expr-F, Shown-F}
use Rattle.sqlite_ast.specs.declared.Shown.{Shown, roll-Shown}
use Rattle.sqlite_ast.specs.declared.Origin.TheVariants as origin
use Rattle.sqlite_resolve.specs.declared.scope.Bound.{Bound}
use Rattle.sqlite_resolve.specs.declared.scope.Output.{Output}
use Rattle.sqlite_resolve.specs.declared.scope.Found.TheVariants.{Column}
use Rattle.sqlite_resolve.specs.declared.state.State.{State}
use Rattle.sqlite_resolve.specs.declared.state.Carried.{Carried}
use Rattle.sqlite_resolve.specs.Lowering.{spend, begin, finish, either}
use Rattle.sqlite_resolve.specs.Expr.{lower_to, node, opened, passes}
use Rattle.sqlite_resolve.specs.Scope.{Context, find as looked_up, term_of, column}
use Rattle.sqlite_resolve.specs.Body.{table_in, declared, shown as shows, heading, is_column}
use Rattle.sqlite_tied.specs.Compute.{everything}
use Rattle.store_table.specs.Schema.{documents, HasDocuments}
use Rattle.store_table.proofs.TreeLemmas.{trees}

abbrev pub bound_at : ℕ → Bound
bound_at n = record { name = codes "documents"; table = n; slot = 1; shared = [] }

abbrev pub by_bytes : Carried
by_bytes = record { collation = Some Binary; is_written = false }

abbrev pub by_nothing : Carried
by_nothing = record { collation = None; is_written = false }

abbrev pub named_column : List ℕ → Expr
named_column name = roll-Expr (Expr-F.Column None name)

abbrev pub shown_column : List ℕ → Shown
shown_column name = roll-Shown (Shown-F.One (named_column name) None name)

abbrev pub output_of : List ℕ → ℕ → Carried → Output
output_of name k c = record { name = name; is_alias = false; is_column = true; term = col 1 (place_of documents k); carried = c }

abbrev pub scope_at : Schema → ℕ → List Output → Bool → Context
scope_at schema n shown groups = record { schema = schema; levels = record { tables = bound_at n ∷ []; shown = shown } ∷ []; may_aggregate = groups; may_alias = true }

-- the column is found under its name, read, and declared
pub record IsColumn (schema : Schema) (n : ℕ) (name : List ℕ) (k : ℕ) (c : Carried) : Type 0 where
  pub found : (shown : List Output) (groups : Bool) → looked_up (scope_at schema n shown groups) None name ≡ Ok (Column 1 n k)
  pub given : (shown : List Output) (groups : Bool) (s : State) → term_of (scope_at schema n shown groups) (Column 1 n k) s ≡ Ok (col 1 (place_of documents k), record s { last = c })
  pub headed : declared schema n (Some k) ≡ Some name

as_written : (o : Option Collation) → either o None ≡ o
as_written None = refl
as_written (Some c) = refl

-- the expression is read as the column
pub lowers : (schema : Schema) (n : ℕ) (name : List ℕ) (k : ℕ) (c : Carried) → IsColumn schema n name k c → (depth : ℕ) (e : Expr) → out-Expr e ≡ Expr-F.Column None name
    → (shown : List Output) (groups : Bool) (s : State) → nat_lt 1 s.budget ≡ true
    → lower_to (suc depth) (scope_at schema n shown groups) e s ≡ Ok (col 1 (place_of documents k), record s { budget = s.budget - 1; last = c })
unfolding lower_to node opened column spend begin finish passes
lowers schema n name k c column depth e is shown groups s enough = rw (enough, is, column.found shown groups, column.given shown groups, as_written s.written) refl

-- as one of the result
pub shows_column : (schema : Schema) (n : ℕ) (name : List ℕ) (k : ℕ) (c : Carried) → IsColumn schema n name k c → (done : List Output) (s : State) → nat_lt 1 s.budget ≡ true
    → shows (lower_to 700) (scope_at schema n [] true) (bound_at n ∷ []) done (shown_column name) s ≡ Ok (done ++ output_of name k c ∷ [], record s { budget = s.budget - 1; last = c })
unfolding shows heading is_column trees
shows_column schema n name k c column done s enough = rw (lowers schema n name k c column 699 (named_column name) refl [] true s enough, column.found [] true, column.headed) refl

module _ (schema : Schema) (n tree : ℕ) (h : HasDocuments schema.tables n tree) where
  pub table_is : (slot : ℕ) → table_in schema slot (origin.Table (codes "documents")) ≡ Ok (codes "documents", n)
  unfolding table_in
  table_is slot = rw h.named refl

  place_found : (shown : List Output) (groups : Bool) → looked_up (scope_at schema n shown groups) None (codes "place") ≡ Ok (Column 1 n 0)
  unfolding everything
  place_found shown groups = rw h.at refl

  coll_found : (shown : List Output) (groups : Bool) → looked_up (scope_at schema n shown groups) None (codes "coll") ≡ Ok (Column 1 n 1)
  unfolding everything
  coll_found shown groups = rw h.at refl

  idkey_found : (shown : List Output) (groups : Bool) → looked_up (scope_at schema n shown groups) None (codes "idkey") ≡ Ok (Column 1 n 2)
  unfolding everything
  idkey_found shown groups = rw h.at refl

  body_found : (shown : List Output) (groups : Bool) → looked_up (scope_at schema n shown groups) None (codes "body") ≡ Ok (Column 1 n 3)
  unfolding everything
  body_found shown groups = rw h.at refl

  place_given : (shown : List Output) (groups : Bool) (s : State) → term_of (scope_at schema n shown groups) (Column 1 n 0) s ≡ Ok (col 1 0, record s { last = by_nothing })
  unfolding everything
  place_given shown groups s = rw h.at refl

  coll_given : (shown : List Output) (groups : Bool) (s : State) → term_of (scope_at schema n shown groups) (Column 1 n 1) s ≡ Ok (col 1 2, record s { last = by_bytes })
  unfolding everything
  coll_given shown groups s = rw h.at refl

  idkey_given : (shown : List Output) (groups : Bool) (s : State) → term_of (scope_at schema n shown groups) (Column 1 n 2) s ≡ Ok (col 1 3, record s { last = by_bytes })
  unfolding everything
  idkey_given shown groups s = rw h.at refl

  body_given : (shown : List Output) (groups : Bool) (s : State) → term_of (scope_at schema n shown groups) (Column 1 n 3) s ≡ Ok (col 1 4, record s { last = by_bytes })
  unfolding everything
  body_given shown groups s = rw h.at refl

  place_headed : declared schema n (Some 0) ≡ Some (codes "place")
  unfolding declared
  place_headed = rw h.at refl

  coll_headed : declared schema n (Some 1) ≡ Some (codes "coll")
  unfolding declared
  coll_headed = rw h.at refl

  idkey_headed : declared schema n (Some 2) ≡ Some (codes "idkey")
  unfolding declared
  idkey_headed = rw h.at refl

  body_headed : declared schema n (Some 3) ≡ Some (codes "body")
  unfolding declared
  body_headed = rw h.at refl

  pub place_column : IsColumn schema n (codes "place") 0 by_nothing
  place_column = record { found = place_found; given = place_given; headed = place_headed }

  pub coll_column : IsColumn schema n (codes "coll") 1 by_bytes
  coll_column = record { found = coll_found; given = coll_given; headed = coll_headed }

  pub idkey_column : IsColumn schema n (codes "idkey") 2 by_bytes
  idkey_column = record { found = idkey_found; given = idkey_given; headed = idkey_headed }

  pub body_column : IsColumn schema n (codes "body") 3 by_bytes
  body_column = record { found = body_found; given = body_given; headed = body_headed }
