-- What the tests of the texts mean, wherever the table is in a schema.
use Rattle.std.proofs.Common.{◌≡◌, ℕ, ◌-◌, suc, List, [], ◌∷◌, codes, true, false, Option, None, Some, Ok, refl, nat_lt}
use Rattle.sqlite.specs.declared.types.Value.TheVariants.{Null}
use Rattle.sqlite.specs.Schema.{Schema}
use Rattle.sqlite.specs.Term.{Term, lit, col, op2}
use Rattle.sqlite.specs.Collation.TheVariants.{Binary}
use Rattle.sqlite_value.specs.declared.keys.Collation.{Collation}
use Rattle.sqlite_sql.specs.declared.ops.BinaryOp.TheVariants.{Compare, And, Coalesce}
use Rattle.sqlite_sql.specs.declared.ops.CompareOp.TheVariants.{Eq}
use Rattle.sqlite_ast.specs.declared.Expr.{Expr, roll-Expr}
use Rattle.sqlite_ast.specs.declared.Expr.TheOpen.{Expr-F}
use Rattle.sqlite_ast.specs.declared.Unary.TheVariants as unary
use Rattle.sqlite_ast.specs.declared.Binary.TheVariants as binary
use Rattle.sqlite_resolve.specs.declared.scope.Output.{Output}
use Rattle.sqlite_resolve.specs.declared.state.State.{State}
use Rattle.sqlite_resolve.specs.declared.state.Carried.{Carried}
use Rattle.sqlite_resolve.specs.Lowering.{fresh, max_budget, spend, begin, finish, either, written_or, passed, chosen}
use Rattle.sqlite_resolve.specs.Scope.{Context}
use Rattle.sqlite_resolve.specs.Compare.{compared, unbound}
use Rattle.sqlite_resolve.specs.Expr.{lower_to, lower, node, opened, passes, tests_truth, tests_alias, wanted_truth, both, operation, combine, prefixed}
use Rattle.sqlite_tied.specs.Compute.{everything}
use Rattle.store_table.specs.Schema.{HasDocuments}
use Rattle.store_table.proofs.TreeLemmas.{trees}
use Rattle.store_table.proofs.LookLemmas.{by_bytes, by_nothing, named_column, scope_at, lowers, place_column, coll_column, idkey_column}
use Rattle.store_table.proofs.TextLemmas.{equals}

-- what is collected if there was no step and no aggregate
abbrev pub collected : ℕ → Option Collation → Carried → State
collected budget written last = record (fresh 2 max_budget) { budget = budget; written = written; last = last }

abbrev pub after : ℕ → Carried → State
after budget c = collected budget None c

abbrev pub by_collate : Carried
by_collate = record { collation = Some Binary; is_written = true }

abbrev pub parameter : ℕ → Expr
parameter k = roll-Expr (Expr-F.Parameter k)

abbrev pub equal_to : Expr → Expr → Expr
equal_to a b = roll-Expr (Expr-F.Binary binary.Eq a b)

abbrev pub by_binary : Expr → Expr
by_binary e = roll-Expr (Expr-F.Unary (unary.Collate Binary) e)

abbrev pub named_test : Expr
named_test = roll-Expr (Expr-F.Binary binary.And (equal_to (named_column (codes "coll")) (by_binary (parameter 1))) (equal_to (named_column (codes "idkey")) (parameter 2)))

abbrev pub named_terms : List Term
named_terms = equals 2 0 ∷ equals 3 1 ∷ []

abbrev pub scan_test : Expr
scan_test = equal_to (roll-Expr (Expr-F.Unary unary.Plus (named_column (codes "coll")))) (by_binary (parameter 1))

abbrev pub scan_term : Term
scan_term = op2 (Compare Eq Binary) (op2 Coalesce (col 1 2) (lit Null)) (col 0 0)

abbrev pub scan_terms : List Term
scan_terms = scan_term ∷ []

abbrev pub place_test : Expr
place_test = equal_to (named_column (codes "place")) (parameter 1)

-- ---- one node

pub node_by : (depth : ℕ) (cx : Context) (e : Expr) (s : State) (t : Term) (u : State) → nat_lt 1 s.budget ≡ true
    → opened (lower_to depth) cx e (record s { budget = s.budget - 1; written = None; last = by_nothing }) ≡ Ok (t, u)
    → lower_to (suc depth) cx e s ≡ Ok (t, record u { written = either s.written u.written; last = written_or u.written (passed (passes e) u.last) })
unfolding lower_to node spend begin finish
node_by depth cx e s t u enough h = rw (enough, h) refl

given_by : (depth : ℕ) (cx : Context) (k : ℕ) (s : State) → opened (lower_to depth) cx (parameter k) s ≡ Ok (col 0 (k - 1), s)
unfolding opened trees
given_by depth cx k s = refl

pub parameter_by : (depth : ℕ) (cx : Context) (k b : ℕ) (w : Option Collation) (c : Carried) → nat_lt 1 b ≡ true
    → lower_to (suc depth) cx (parameter k) (collected b w c) ≡ Ok (col 0 (k - 1), collected (b - 1) (either w None) by_nothing)
unfolding passes trees
parameter_by depth cx k b w c enough = node_by depth cx (parameter k) (collected b w c) (col 0 (k - 1)) (collected (b - 1) None by_nothing) enough (given_by depth cx k (collected (b - 1) None by_nothing))

collates : (depth : ℕ) (cx : Context) (e : Expr) (t : Term) (s u : State) → lower_to depth cx e s ≡ Ok (t, u) → opened (lower_to depth) cx (by_binary e) s ≡ Ok (t, record u { written = Some Binary })
unfolding opened prefixed trees
collates depth cx e t s u h = rw h refl

-- ?1 COLLATE BINARY
collate_by : (depth : ℕ) (cx : Context) (k b : ℕ) (w : Option Collation) (c : Carried) → nat_lt 1 b ≡ true → nat_lt 1 (b - 1) ≡ true
    → lower_to (suc (suc depth)) cx (by_binary (parameter k)) (collected b w c) ≡ Ok (col 0 (k - 1), collected (b - 1 - 1) (either w (Some Binary)) by_collate)
unfolding passes trees
collate_by depth cx k b w c enough more =
    node_by (suc depth) cx (by_binary (parameter k)) (collected b w c) (col 0 (k - 1)) (collected (b - 1 - 1) (Some Binary) by_nothing) enough
    (collates (suc depth) cx (parameter k) (col 0 (k - 1)) (collected (b - 1) None by_nothing) (collected (b - 1 - 1) None by_nothing) (parameter_by depth cx k (b - 1) None by_nothing more))

equals_by : (depth : ℕ) (cx : Context) (a b : Expr) (x y z : Term) (s u v : State) → lower_to depth cx a s ≡ Ok (x, u) → lower_to depth cx b u ≡ Ok (y, v)
    → compared cx (Compare Eq (chosen u.last v.last)) x y ≡ z → opened (lower_to depth) cx (equal_to a b) s ≡ Ok (z, v)
unfolding opened operation wanted_truth both tests_truth tests_alias combine trees
equals_by depth cx a b x y z s u v left right is = rw (left, right, is) refl

ands_by : (depth : ℕ) (cx : Context) (a b : Expr) (x y : Term) (s u v : State) → lower_to depth cx a s ≡ Ok (x, u) → lower_to depth cx b u ≡ Ok (y, v)
    → opened (lower_to depth) cx (roll-Expr (Expr-F.Binary binary.And a b)) s ≡ Ok (op2 And x y, v)
unfolding opened operation wanted_truth both tests_truth tests_alias combine trees
ands_by depth cx a b x y s u v left right = rw (left, right) refl

pluses : (depth : ℕ) (cx : Context) (e : Expr) (t v : Term) (s u : State) → lower_to depth cx e s ≡ Ok (t, u) → unbound cx t ≡ v → opened (lower_to depth) cx (roll-Expr (Expr-F.Unary unary.Plus e)) s ≡ Ok (v, u)
unfolding opened prefixed trees
pluses depth cx e t v s u h is = rw (h, is) refl

-- ---- in the table

module _ (schema : Schema) (n tree : ℕ) (h : HasDocuments schema.tables n tree) (outs : List Output) where
  coll_compared : compared (scope_at schema n outs false) (Compare Eq (chosen by_bytes by_collate)) (col 1 2) (col 0 0) ≡ equals 2 0
  unfolding everything
  coll_compared = rw h.at refl

  idkey_compared : compared (scope_at schema n outs false) (Compare Eq (chosen by_bytes by_nothing)) (col 1 3) (col 0 1) ≡ equals 3 1
  unfolding everything
  idkey_compared = rw h.at refl

  place_compared : compared (scope_at schema n outs false) (Compare Eq (chosen by_nothing by_nothing)) (col 1 0) (col 0 0) ≡ equals 0 0
  unfolding everything
  place_compared = refl

  coll_unbound : unbound (scope_at schema n outs false) (col 1 2) ≡ op2 Coalesce (col 1 2) (lit Null)
  unfolding everything
  coll_unbound = rw h.at refl

  scan_compared : compared (scope_at schema n outs false) (Compare Eq (chosen by_bytes by_collate)) (op2 Coalesce (col 1 2) (lit Null)) (col 0 0) ≡ scan_term
  unfolding everything
  scan_compared = refl

  module _ (b : ℕ) (c : Carried) (e0 : nat_lt 1 b ≡ true) (e1 : nat_lt 1 (b - 1) ≡ true) (e2 : nat_lt 1 (b - 1 - 1) ≡ true) where
    -- place = ?1
    pub place_lowered : lower (scope_at schema n outs false) place_test (after b c) ≡ Ok (equals 0 0, after (b - 1 - 1 - 1) by_nothing)
    unfolding passes trees
    place_lowered =
        let cx = scope_at schema n outs false in
        node_by 699 cx place_test (after b c) (equals 0 0) (after (b - 1 - 1 - 1) by_nothing) e0
        (equals_by 699 cx (named_column (codes "place")) (parameter 1) (col 1 0) (col 0 0) (equals 0 0) (after (b - 1) by_nothing) (after (b - 1 - 1) by_nothing) (after (b - 1 - 1 - 1) by_nothing)
        (lowers schema n (codes "place") 0 by_nothing (place_column schema n tree h) 698 (named_column (codes "place")) refl outs false (after (b - 1) by_nothing) e1)
        (parameter_by 698 cx 1 (b - 1 - 1) None by_nothing e2) place_compared)

    module _ (e3 : nat_lt 1 (b - 1 - 1 - 1) ≡ true) (e4 : nat_lt 1 (b - 1 - 1 - 1 - 1) ≡ true) where
      -- +coll = ?1 COLLATE BINARY
      pub scan_lowered : lower (scope_at schema n outs false) scan_test (after b c) ≡ Ok (scan_term, collected (b - 1 - 1 - 1 - 1 - 1) (Some Binary) by_collate)
      unfolding passes trees
      scan_lowered =
          let cx = scope_at schema n outs false in
          let plus = roll-Expr (Expr-F.Unary unary.Plus (named_column (codes "coll"))) in
          let coll = col 1 2 in
          let third = b - 1 - 1 - 1 in
          let fifth = b - 1 - 1 - 1 - 1 - 1 in
          node_by 699 cx scan_test (after b c) scan_term (collected fifth (Some Binary) by_collate) e0
          (equals_by 699 cx plus (by_binary (parameter 1)) (op2 Coalesce coll (lit Null)) (col 0 0) scan_term (after (b - 1) by_nothing) (after third by_bytes) (collected fifth (Some Binary) by_collate)
          (node_by 698 cx plus (after (b - 1) by_nothing) (op2 Coalesce coll (lit Null)) (after third by_bytes) e1
          (pluses 698 cx (named_column (codes "coll")) coll (op2 Coalesce coll (lit Null)) (after (b - 1 - 1) by_nothing) (after third by_bytes)
          (lowers schema n (codes "coll") 1 by_bytes (coll_column schema n tree h) 697 (named_column (codes "coll")) refl outs false (after (b - 1 - 1) by_nothing) e2) coll_unbound))
          (collate_by 697 cx 1 third None by_bytes e3 e4) scan_compared)

      module _ (e5 : nat_lt 1 (b - 1 - 1 - 1 - 1 - 1) ≡ true) (e6 : nat_lt 1 (b - 1 - 1 - 1 - 1 - 1 - 1) ≡ true) (e7 : nat_lt 1 (b - 1 - 1 - 1 - 1 - 1 - 1 - 1) ≡ true) where
        -- coll = ?1 COLLATE BINARY AND idkey = ?2
        pub named_lowered : lower (scope_at schema n outs false) named_test (after b c) ≡ Ok (op2 And (equals 2 0) (equals 3 1), collected (b - 1 - 1 - 1 - 1 - 1 - 1 - 1 - 1) (Some Binary) by_collate)
        unfolding passes trees
        named_lowered =
            let cx = scope_at schema n outs false in
            let first = equal_to (named_column (codes "coll")) (by_binary (parameter 1)) in
            let second = equal_to (named_column (codes "idkey")) (parameter 2) in
            let b2 = b - 1 - 1 in
            let b5 = b - 1 - 1 - 1 - 1 - 1 in
            let b8 = b - 1 - 1 - 1 - 1 - 1 - 1 - 1 - 1 in
            let s1 = after (b - 1) by_nothing in
            let s5 = collected b5 (Some Binary) by_collate in
            let s8 = after b8 by_nothing in
            node_by 699 cx named_test (after b c) (op2 And (equals 2 0) (equals 3 1)) (collected b8 (Some Binary) by_nothing) e0
            (ands_by 699 cx first second (equals 2 0) (equals 3 1) s1 s5 (collected b8 (Some Binary) by_nothing)
            (node_by 698 cx first s1 (equals 2 0) s5 e1
            (equals_by 698 cx (named_column (codes "coll")) (by_binary (parameter 1)) (col 1 2) (col 0 0) (equals 2 0) (after b2 by_nothing) (after (b2 - 1) by_bytes) s5
            (lowers schema n (codes "coll") 1 by_bytes (coll_column schema n tree h) 697 (named_column (codes "coll")) refl outs false (after b2 by_nothing) e2)
            (collate_by 696 cx 1 (b2 - 1) None by_bytes e3 e4) coll_compared))
            (node_by 698 cx second s5 (equals 3 1) s8 e5
            (equals_by 698 cx (named_column (codes "idkey")) (parameter 2) (col 1 3) (col 0 1) (equals 3 1) (after (b5 - 1) by_nothing) (after (b5 - 1 - 1) by_bytes) s8
            (lowers schema n (codes "idkey") 2 by_bytes (idkey_column schema n tree h) 697 (named_column (codes "idkey")) refl outs false (after (b5 - 1) by_nothing) e6)
            (parameter_by 697 cx 2 (b5 - 1 - 1) None by_bytes e7) idkey_compared)))
