-- Exits of the functions that put a change into a draft.
use Rattle.std.proofs.Common.{◌≡◌, ◌⊎◌, inl, inr, ℕ, pos, suc, ◌+ℤ◌, ◌<ℤ◌, ◌^◌, ◌<◌, length, List, [], ◌∷◌, ◌++◌, find, Bool, true, false, cond, nat_lt, Option, Some, None, option_map, Result, Ok, Err, refl, sym, ap, ap₂, subst, ◌∙◌, arith}
use Rattle.std.specs.Prelude.{IsUtf8}
use Rattle.std.proofs.lemmas.Int.{ints}
use Rattle.bson_base.specs.Value.{Value, Members, has_key}
use Rattle.bson_bytes.specs.Encode.{size}
use Rattle.bson_frame.specs.Frame.{size_limit}
use Rattle.bson_meaning.specs.declared.gating.GateError.{GateError}
use Rattle.bson_meaning.specs.declared.gating.GateError.TheVariants as gate
use Rattle.store_table.specs.Rows.{TableRow, is_row_named, with_body_at, without_place}
use Rattle.store_table.specs.Moves.{Changes, FindsPlace, FindsRow, parts_of_found, parts_of_row}
use Rattle.store_table.specs.declared.fault.Fault.{Fault}
use Rattle.store_table.specs.declared.fault.Fault.TheVariants as faults
use Rattle.store_table.specs.declared.row.Found.{Found}
use Rattle.bson_store.specs.Draft.{IsFound}
use Rattle.bson_store.specs.Drafted.{DraftsMore, IsOver, drafted, last_of}
use Rattle.bson_store.specs.declared.draft.Draft.{Draft}
use Rattle.store_model.specs.Reading.{Reading, ReadsBytes, kind_of_gate_error, readable, unreadable}
use Rattle.store_model.specs.State.{State, Call, Command, Form, Reply, Step, id_key, in_bytes, insert, replace, remove, get_raw, on, bytes, done, refused, refusal_of, IsName}
use Rattle.store_model.specs.Run.{Denial, IsDecided, database, kind_of_denial, memory, places}
use Rattle.store_model.specs.Refusal.{refusal}
use Rattle.store_model.specs.Table.{DocumentTable, MayBeDenied, TurnThrough, only_id, state_of}
use Rattle.store_model.specs.declared.error.ErrorKind.{ErrorKind}
use Rattle.store_model.specs.declared.error.ErrorKind.TheVariants.{BadName, Database, DuplicateId, NoId, NotFound, Memory, Places, TooLong}
use Rattle.store_model.specs.declared.error.StoreError.{StoreError}
use Rattle.store_model.proofs.RefusalLemmas.{refused_turn}
use Rattle.store_model.proofs.RowLemmas.{rows_not_empty}
use Rattle.store_documents.proofs.StreamLemmas.{any_bytes}
use Rattle.bson_store.specs.Calls.{Does, DoesBytes, DoesRead, Looks}
use Rattle.bson_store.specs.Refusals.{kind_of_fault}
use Rattle.bson_store.proofs.ServeLemmas.{Fits, bad_name, denied, duplicate, insert_denied, insert_unwritten, memory_other, read_open, undecided}
use Rattle.bson_store.proofs.ReplaceLemmas.{put_in_place, not_put_in_place, replace_none as none_there, replace_unfound as not_found, replace_unwritten}
use Rattle.bson_store.proofs.FindLemmas.{found_looks, got, long_looks, not_there, removed, there, unfound_looks, unlooked, unplain_looks}
use Rattle.bson_store.proofs.ReadLemmas.{TakesReading, bytes_bad_name, bytes_read, bytes_refused, inserts, replaces, unread}
use Rattle.store_documents.specs.Bodies.{AnswersKept, AnswersWritten, IsKeyOf}
use Rattle.bson_base.specs.Kinds.{IsPlain, IsSound}
use Rattle.bson_meaning.specs.Meaning.{key}
use Rattle.bson_store.specs.Drafting.{Declines, DeclinesBy, EditsBy, EditsBytes, EditsKept, EditsPut, EditsRead, FindsDrafted, GetsDrafted, Goes, HasInserted, IsFault, KeepBy, LooksDrafted, PutBy}
use Rattle.bson_store.proofs.DraftedLemmas.{goes_in_at}

-- ---- what a command does

pub goes_of : (c : Command) (docs after : List TableRow) → Does c done docs after → Goes c docs after
goes_of c docs after does a s = let d = does a s in record { rows = after; there = d.0; shown = d.1; to = d.2; b = d.0; seen = d.1; same = refl }

-- a refusal for what was denied
pub denied_is : (y : Denial) (e : StoreError) → refused e.kind e.document ≡ refused (kind_of_denial y) None → IsFault e
denied_is memory e is = let kind : e.kind ≡ Memory = cc in let place : e.document ≡ None = cc in (faults.Memory, ap₂ (λ k d. record { kind = k; document = d }) kind place)
denied_is database e is = let kind : e.kind ≡ Database = cc in let place : e.document ≡ None = cc in (faults.Database, ap₂ (λ k d. record { kind = k; document = d }) kind place)
denied_is places e is = let kind : e.kind ≡ Places = cc in let place : e.document ≡ None = cc in (faults.Places, ap₂ (λ k d. record { kind = k; document = d }) kind place)

not_decided : (x : Denial) (a : DocumentTable) (c : Command) → MayBeDenied (Some x) a c → IsDecided c → ⊥
not_decided places a c may d = may.0 d
not_decided memory a c may d = may d
not_decided database a c may d = may d

pub declines_of : (c : Command) (k : ErrorKind) (i : Option ℕ) (docs after : List TableRow) → Does c (refused k i) docs after → Declines c (record { kind = k; document = i }) docs
declines_of c k i docs after does a s = let d = does a s in by d.0 d.2.0 d.2.1
  where
    by : (b : DocumentTable) (x : Option Denial) → TurnThrough x a c (refused k i) b → Step (state_of a) c (refused k i) (state_of a) ⊎ (IsFault (record { kind = k; document = i }) × (IsDecided c → ⊥))
    by b None (turn, follows, may) = inl (subst (λ t. Step (state_of a) c (refused k i) t) (refused_turn k i None (state_of a) c (state_of b) (rows_not_empty a) turn) turn)
    by b (Some x) (turn, follows, may) = inr (denied_is x (record { kind = k; document = i }) turn.0, not_decided x a c may)

-- memory ran out, there are no places, or the database refused
pub fault_declines : (In : State → Reply → State → Type 0) (Decided : Type 0) (x : Fault) (docs : List TableRow) → (Decided → ⊥) → DeclinesBy In Decided (refusal (kind_of_fault x)) docs
fault_declines In Decided x docs other a s = inr ((x, refl), other)

-- ---- look-ups

pub place_so : (n k : List ℕ) (f : Option Found) (docs : List TableRow) → FindsRow n k (Ok f) docs docs → FindsPlace n k (Ok (option_map (λ (x : Found). x.place) f)) docs docs
place_so n k f docs h = record { same = refl; found = by f (find (is_row_named n k) docs) h.found; faults = tt }
  where
    by : (f : Option Found) (o : Option TableRow) → option_map parts_of_found f ≡ option_map parts_of_row o → option_map (λ (x : Found). x.place) f ≡ option_map (λ (d : TableRow). d.place) o
    by None None e = refl
    by None (Some d) e = cc
    by (Some x) None e = cc
    by (Some x) (Some d) e = ap Some (let p : parts_of_found x ≡ parts_of_row d = cc in ap (λ q. q.0) p)

pub none_so : (n k : List ℕ) (docs : List TableRow) → FindsRow n k (Ok None) docs docs → find (is_row_named n k) docs ≡ None
none_so n k docs h = by (find (is_row_named n k) docs) h.found
  where
    by : (o : Option TableRow) → option_map parts_of_found None ≡ option_map parts_of_row o → o ≡ None
    by None e = refl
    by (Some d) e = cc

pub finds_ok : (n k : List ℕ) (draft : Draft) (f o : Option Found) (docs after : List TableRow) → ((ds : List TableRow) → IsOver draft ds → IsFound n k f ds → IsFound n k o (drafted draft ds)) → FindsRow n k (Ok f) docs after → FindsDrafted n k draft (Ok o) docs after
finds_ok n k draft f o docs after found h = record { same = h.same; found = λ over. record { same = refl; found = found docs over h.found; faults = tt } }

pub finds_err : (n k : List ℕ) (draft : Draft) (x : Fault) (docs after : List TableRow) → FindsRow n k (Err x) docs after → FindsDrafted n k draft (Err x) docs after
finds_err n k draft x docs after h = record { same = h.same; found = λ over. record { same = refl; found = tt; faults = h.faults } }

pub finds_memory : (n k : List ℕ) (draft : Draft) (f : Option Found) (docs after : List TableRow) → FindsRow n k (Ok f) docs after → FindsDrafted n k draft (Err faults.Memory) docs after
finds_memory n k draft f docs after h = record { same = h.same; found = λ over. record { same = refl; found = tt; faults = memory_other } }

-- ---- inserts

pub insert_unfound : (n k b : List ℕ) (d : Members) (x : Fault) (old new : Draft) (docs after : List TableRow) → IsName n → FindsDrafted n k old (Err x) docs after → EditsRead n insert d (Err (refusal (kind_of_fault x))) old new docs after
insert_unfound n k b d x old new docs after good h = record {
  same = h.same;
  done = tt;
  refused = λ over f. declines_of (on n (insert f (readable d))) (kind_of_fault x) None (drafted old docs) (drafted old docs) (insert_denied (drafted old docs) n d x good (h.found over).faults f);
}

pub insert_duplicate : (n k b : List ℕ) (d : Members) (x : Found) (old new : Draft) (docs after : List TableRow) → IsName n → Fits d k b → FindsDrafted n k old (Ok (Some x)) docs after → EditsRead n insert d (Err (refusal DuplicateId)) old new docs after
insert_duplicate n k b d x old new docs after good fits h = record {
  same = h.same;
  done = tt;
  refused = λ over f. declines_of (on n (insert f (readable d))) DuplicateId None (drafted old docs) (drafted old docs) (duplicate (drafted old docs) (drafted old docs) n k b d x.place good fits (place_so n k (Some x) (drafted old docs) (h.found over)) f);
}

pub insert_full : (n k : List ℕ) (d : Members) (o : Option Found) (x : Fault) (old new : Draft) (docs after : List TableRow) → IsName n → FindsDrafted n k old (Ok o) docs after → EditsRead n insert d (Err (refusal (kind_of_fault x))) old new docs after
insert_full n k d o faults.Memory old new docs after good h = record { same = h.same; done = tt; refused = λ over f. declines_of (on n (insert f (readable d))) Memory None (drafted old docs) (drafted old docs) (insert_denied (drafted old docs) n d faults.Memory good memory_other f) }
insert_full n k d o faults.Database old new docs after good h = record { same = h.same; done = tt; refused = λ over f. declines_of (on n (insert f (readable d))) (kind_of_fault faults.Database) None (drafted old docs) (drafted old docs) (insert_denied (drafted old docs) n d faults.Database good (λ e. cc) f) }
insert_full n k d o faults.Places old new docs after good h = record { same = h.same; done = tt; refused = λ over f. fault_declines (λ s r t. Step s (on n (insert f (readable d))) r t) (IsDecided (on n (insert f (readable d)))) faults.Places (drafted old docs) (undecided n (insert f (readable d)) good (read_open f d)) }

pub insert_added : (n k b : List ℕ) (d : Members) (old new : Draft) (docs after : List TableRow) → IsName n → IsUtf8 n → Fits d k b → FindsDrafted n k old (Ok None) docs after
    → DraftsMore old new (λ ds. ds ++ record { place = last_of old +ℤ pos 1; coll = n; idkey = k; body = b } ∷ []) → ((ds : List TableRow) → IsOver old ds → IsFound n k None (drafted old ds) → IsOver new ds) → (last_of old +ℤ pos 1) <ℤ pos (2 ^ 63) → EditsRead n insert d (Ok tt) old new docs after
insert_added n k b d old new docs after good text fits h more stays room = record {
  same = h.same;
  done = λ over. record {
    goes = λ f. subst (Goes (on n (insert f (readable d))) (drafted old docs)) (sym (more docs))
        (goes_in_at f (drafted old docs) n k b d (suc over.last) (last_of old +ℤ pos 1) good text fits (none_so n k (drafted old docs) (h.found over)) over.low (omega (arith, ints, over.counts)) (omega arith) room);
    over = stays docs over (h.found over).found;
  };
  refused = tt;
}

-- ---- replacements

change_done : (change : List TableRow → List TableRow) (v : List TableRow) → Changes change (Ok tt) v (change v)
change_done change v = record { done = refl; refused = tt; faults = tt }

change_memory : (change : List TableRow → List TableRow) (v : List TableRow) → Changes change (Err faults.Memory) v v
change_memory change v = record { done = tt; refused = refl; faults = λ e. cc }

pub replace_unfound : (n k b : List ℕ) (d : Members) (x : Fault) (old new : Draft) (docs after : List TableRow) → IsName n → Fits d k b → FindsDrafted n k old (Err x) docs after → EditsRead n replace d (Err (refusal (kind_of_fault x))) old new docs after
replace_unfound n k b d x old new docs after good fits h = record {
  same = h.same;
  done = tt;
  refused = λ over f. declines_of (on n (replace f (readable d))) (kind_of_fault x) None (drafted old docs) (drafted old docs) (not_found (drafted old docs) (drafted old docs) n k b d x good fits (h.found over) f);
}

pub replace_none : (n k b : List ℕ) (d : Members) (old new : Draft) (docs after : List TableRow) → IsName n → Fits d k b → FindsDrafted n k old (Ok None) docs after → EditsRead n replace d (Err (refusal NotFound)) old new docs after
replace_none n k b d old new docs after good fits h = record {
  same = h.same;
  done = tt;
  refused = λ over f. declines_of (on n (replace f (readable d))) NotFound None (drafted old docs) (drafted old docs) (none_there (drafted old docs) (drafted old docs) n k b d good fits (h.found over) f);
}

pub replace_memory : (n k b : List ℕ) (d : Members) (x : Found) (old new : Draft) (docs after : List TableRow) → IsName n → Fits d k b → FindsDrafted n k old (Ok (Some x)) docs after → EditsRead n replace d (Err (refusal (kind_of_fault faults.Memory))) old new docs after
replace_memory n k b d x old new docs after good fits h = record {
  same = h.same;
  done = tt;
  refused = λ over f. declines_of (on n (replace f (readable d))) Memory None (drafted old docs) (drafted old docs)
      (not_put_in_place (drafted old docs) (drafted old docs) (drafted old docs) n k b d x faults.Memory good fits (h.found over) (change_memory (with_body_at x.place b) (drafted old docs)) f);
}

pub replace_done : (n k b : List ℕ) (d : Members) (x : Found) (old new : Draft) (docs after : List TableRow) → IsName n → Fits d k b → FindsDrafted n k old (Ok (Some x)) docs after
    → DraftsMore old new (with_body_at x.place b) → ((ds : List TableRow) → IsOver old ds → IsFound n k (Some x) (drafted old ds) → IsOver new ds) → EditsRead n replace d (Ok tt) old new docs after
replace_done n k b d x old new docs after good fits h more stays = record {
  same = h.same;
  done = λ over. record {
    goes = λ f. subst (Goes (on n (replace f (readable d))) (drafted old docs)) (sym (more docs))
        (goes_of (on n (replace f (readable d))) (drafted old docs) (with_body_at x.place b (drafted old docs))
        (put_in_place (drafted old docs) (drafted old docs) (with_body_at x.place b (drafted old docs)) n k b d x good fits (h.found over) (change_done (with_body_at x.place b) (drafted old docs)) f));
    over = stays docs over (h.found over).found;
  };
  refused = tt;
}

-- ---- removals

module _ (n : List ℕ) (id : Value) (old new : Draft) (docs : List TableRow) (good : IsName n) where
  stays : (k : ErrorKind) → ((v : List TableRow) → Does (on n (remove id)) (refused k None) v v) → EditsBy (on n (remove id)) (Err (refusal k)) old new docs docs
  stays k does = record { same = refl; done = tt; refused = λ over. declines_of (on n (remove id)) k None (drafted old docs) (drafted old docs) (does (drafted old docs)) }

  none_answers : (v : List TableRow) → Looks n id (Ok None) v v → Does (on n (remove id)) (refused NotFound None) v v
  none_answers v look = not_there v v n id (remove id) good (λ a none. inr (none, (refl, refl))) look

  pub remove_unplain : IsSound id → (IsPlain id → ⊥) → EditsBy (on n (remove id)) (Err (refusal NotFound)) old new docs docs
  remove_unplain sound other = stays NotFound (λ v. none_answers v (unplain_looks v n id sound other))

  pub remove_long : IsSound id → 2147483647 < length (key (only_id id)) → EditsBy (on n (remove id)) (Err (refusal NotFound)) old new docs docs
  remove_long sound long = stays NotFound (λ v. none_answers v (long_looks v n id sound long))

  pub remove_memory : EditsBy (on n (remove id)) (Err (refusal Memory)) old new docs docs
  remove_memory = stays Memory (λ v. denied v (on n (remove id)) faults.Memory memory_other (undecided n (remove id) good (λ x. x)))

  module _ (k : List ℕ) (after : List TableRow) (is : IsKeyOf k id) where
    pub remove_unfound : (x : Fault) → FindsDrafted n k old (Err x) docs after → EditsBy (on n (remove id)) (Err (refusal (kind_of_fault x))) old new docs after
    remove_unfound x h = record {
      same = h.same;
      done = tt;
      refused = λ over. declines_of (on n (remove id)) (kind_of_fault x) None (drafted old docs) (drafted old docs)
          (unlooked (drafted old docs) (drafted old docs) n id (remove id) (refusal (kind_of_fault x)) good (λ x. x) (unfound_looks (drafted old docs) (drafted old docs) n k id x (h.found over)));
    }

    pub remove_none : FindsDrafted n k old (Ok None) docs after → EditsBy (on n (remove id)) (Err (refusal NotFound)) old new docs after
    remove_none h = record {
      same = h.same;
      done = tt;
      refused = λ over. declines_of (on n (remove id)) NotFound None (drafted old docs) (drafted old docs) (none_answers (drafted old docs) (found_looks (drafted old docs) (drafted old docs) n k id None is (h.found over)));
    }

    pub remove_denied : (x : Found) → FindsDrafted n k old (Ok (Some x)) docs after → EditsBy (on n (remove id)) (Err (refusal (kind_of_fault faults.Memory))) old new docs after
    remove_denied x h = record {
      same = h.same;
      done = tt;
      refused = λ over. declines_of (on n (remove id)) Memory None (drafted old docs) (drafted old docs) (denied (drafted old docs) (on n (remove id)) faults.Memory memory_other (undecided n (remove id) good (λ x. x)));
    }

    pub remove_done : (x : Found) → FindsDrafted n k old (Ok (Some x)) docs after → DraftsMore old new (without_place x.place) → ((ds : List TableRow) → IsOver old ds → IsFound n k (Some x) (drafted old ds) → IsOver new ds) → EditsBy (on n (remove id)) (Ok tt) old new docs after
    remove_done x h more stays = record {
      same = h.same;
      done = λ over. record {
        goes = subst (Goes (on n (remove id)) (drafted old docs)) (sym (more docs))
            (goes_of (on n (remove id)) (drafted old docs) (without_place x.place (drafted old docs))
            (removed (drafted old docs) (drafted old docs) (without_place x.place (drafted old docs)) n id x good (found_looks (drafted old docs) (drafted old docs) n k id (Some x) is (h.found over)) (change_done (without_place x.place) (drafted old docs))));
        over = stays docs over (h.found over).found;
      };
      refused = tt;
    }

pub remove_bad_name : (n : List ℕ) (id : Value) (old new : Draft) (docs : List TableRow) → (IsName n → ⊥) → EditsBy (on n (remove id)) (Err (refusal BadName)) old new docs docs
remove_bad_name n id old new docs bad = record { same = refl; done = tt; refused = λ over. declines_of (on n (remove id)) BadName None (drafted old docs) (drafted old docs) (bad_name (drafted old docs) n (remove id) bad) }

-- ---- a replacement, or an insertion if there is nothing to replace

put_refused : {X : Type 0} (By : X → Command → Reply → X → Type 0) (n : List ℕ) (x : Reading) (s : X) (k : ErrorKind) → By s (on n (replace in_bytes x)) (refused k None) s → By s (on n (insert in_bytes x)) (refused k None) s → PutBy By n x s (refused k None) s
put_refused By n x s NotFound one other = inr (s, one, other)
put_refused By n x s _ one other = inl (tt, one)

put_declines : (n : List ℕ) (x : Reading) (k : ErrorKind) (docs : List TableRow) → Declines (on n (replace in_bytes x)) (refusal k) docs → Declines (on n (insert in_bytes x)) (refusal k) docs → DeclinesBy (PutBy Step n x) (IsDecided (on n (replace in_bytes x))) (refusal k) docs
put_declines n x k docs replacing inserting a s = elim (replacing a s) [
  | inl one ↦ elim (inserting a s) [ inl other ↦ inl (put_refused Step n x (state_of a) k one other) | inr fault ↦ inr fault ]
  | inr fault ↦ inr fault
]

module _ (n k b : List ℕ) (d : Members) (old new : Draft) (docs after : List TableRow) (good : IsName n) (fits : Fits d k b) where
  put_open : IsDecided (on n (replace in_bytes (readable d))) → ⊥
  put_open = undecided n (replace in_bytes (readable d)) good (λ x. x)

  pub put_unfound : (x : Fault) → FindsDrafted n k old (Err x) docs after → EditsPut n (readable d) (Err (refusal (kind_of_fault x))) old new docs after
  put_unfound x h = record { same = h.same; done = tt; refused = λ over. fault_declines (PutBy Step n (readable d)) (IsDecided (on n (replace in_bytes (readable d)))) x (drafted old docs) put_open }

  pub put_full : (o : Option Found) (x : Fault) → FindsDrafted n k old (Ok o) docs after → EditsPut n (readable d) (Err (refusal (kind_of_fault x))) old new docs after
  put_full o x h = record { same = h.same; done = tt; refused = λ over. fault_declines (PutBy Step n (readable d)) (IsDecided (on n (replace in_bytes (readable d)))) x (drafted old docs) put_open }

  pub put_rewritten : (x : Found) → FindsDrafted n k old (Ok (Some x)) docs after → DraftsMore old new (with_body_at x.place b) → ((ds : List TableRow) → IsOver old ds → IsFound n k (Some x) (drafted old ds) → IsOver new ds) → EditsPut n (readable d) (Ok tt) old new docs after
  put_rewritten x h more stays = record {
    same = h.same;
    done = λ over.
        let it = (replace_done n k b d x old new docs after good fits h more stays).done over in
        record { goes = λ a s. let g = it.goes in_bytes a s in record { rows = g.rows; there = g.there; shown = g.shown; to = inl (tt, g.to); b = g.b; seen = g.seen; same = g.same }; over = it.over };
    refused = tt;
  }

  pub put_added : IsUtf8 n → FindsDrafted n k old (Ok None) docs after → DraftsMore old new (λ ds. ds ++ record { place = last_of old +ℤ pos 1; coll = n; idkey = k; body = b } ∷ []) → ((ds : List TableRow) → IsOver old ds → IsFound n k None (drafted old ds) → IsOver new ds) → (last_of old +ℤ pos 1) <ℤ pos (2 ^ 63)
      → EditsPut n (readable d) (Ok tt) old new docs after
  put_added text h more stays room = record {
    same = h.same;
    done = λ over.
        let it = (insert_added n k b d old new docs after good text fits h more stays room).done over in
        record {
          goes = λ a s.
              let m = none_there (drafted old docs) (drafted old docs) n k b d good fits (h.found over) in_bytes a s in
              let g = it.goes in_bytes m.0 m.1 in
              record { rows = g.rows; there = g.there; shown = g.shown; to = inr (m.0, m.2, g.to); b = g.b; seen = g.seen; same = g.same };
          over = it.over;
        };
    refused = tt;
  }

  -- ---- an insertion, or nothing

  keep_open : IsDecided (on n (insert in_bytes (readable d))) → ⊥
  keep_open = undecided n (insert in_bytes (readable d)) good (λ x. x)

  pub keep_unfound : (x : Fault) → FindsDrafted n k old (Err x) docs after → EditsKept n (readable d) (Err (refusal (kind_of_fault x))) old new docs after
  keep_unfound x h = record { same = h.same; done = tt; refused = λ over. fault_declines (KeepBy Step n (readable d)) (IsDecided (on n (insert in_bytes (readable d)))) x (drafted old docs) keep_open }

  pub keep_full : (o : Option Found) (x : Fault) → FindsDrafted n k old (Ok o) docs after → EditsKept n (readable d) (Err (refusal (kind_of_fault x))) old new docs after
  keep_full o x h = record { same = h.same; done = tt; refused = λ over. fault_declines (KeepBy Step n (readable d)) (IsDecided (on n (insert in_bytes (readable d)))) x (drafted old docs) keep_open }

  pub keep_added : IsUtf8 n → FindsDrafted n k old (Ok None) docs after → DraftsMore old new (λ ds. ds ++ record { place = last_of old +ℤ pos 1; coll = n; idkey = k; body = b } ∷ []) → ((ds : List TableRow) → IsOver old ds → IsFound n k None (drafted old ds) → IsOver new ds) → (last_of old +ℤ pos 1) <ℤ pos (2 ^ 63)
      → EditsKept n (readable d) (Ok tt) old new docs after
  keep_added text h more stays room = record {
    same = h.same;
    done = λ over.
        let it = (insert_added n k b d old new docs after good text fits h more stays room).done over in
        record { goes = λ a s. let g = it.goes in_bytes a s in record { rows = g.rows; there = g.there; shown = g.shown; to = inl (tt, g.to); b = g.b; seen = g.seen; same = g.same }; over = it.over };
    refused = tt;
  }

pub kept_already : (n k b : List ℕ) (d : Members) (draft : Draft) (docs after : List TableRow) (x : Found) → IsName n → Fits d k b → FindsDrafted n k draft (Ok (Some x)) docs after → EditsKept n (readable d) (Ok tt) draft draft docs after
kept_already n k b d draft docs after x good fits h = record {
  same = h.same;
  done = λ over. record {
    goes = λ a s.
        let m = duplicate (drafted draft docs) (drafted draft docs) n k b d x.place good fits (place_so n k (Some x) (drafted draft docs) (h.found over)) in_bytes a s in
        record { rows = drafted draft docs; there = m.0; shown = m.1; to = inr (refl, m.2); b = m.0; seen = m.1; same = refl };
    over = over;
  };
  refused = tt;
}

-- what can't be kept isn't refused for an `_id` that is taken
gate_other : (e : GateError) → kind_of_gate_error e ≡ DuplicateId → ⊥
gate_other gate.EndInside is = cc
gate_other gate.BadLength is = cc
gate_other gate.NotTerminated is = cc
gate_other gate.Faulty is = cc
gate_other gate.TooDeep is = cc

unkept_other : (d : Members) (k : ErrorKind) → refusal_of d ≡ Some k → k ≡ DuplicateId → ⊥
unkept_other d k is same = by (has_key id_key d) (nat_lt size_limit (size d)) (is ∙ ap Some same)
  where
    by : (b c : Bool) → cond b (cond c (Some TooLong) None) (Some NoId) ≡ Some DuplicateId → ⊥
    by true true h = cc
    by true false h = cc
    by false c h = cc

inserted_so : (k : ErrorKind) → (k ≡ DuplicateId → ⊥) → HasInserted (refused k None)
inserted_so DuplicateId other = absurd (other refl)
inserted_so _ other = tt

keep_declines : (n : List ℕ) (x : Reading) (k : ErrorKind) (docs : List TableRow) → (k ≡ DuplicateId → ⊥) → Declines (on n (insert in_bytes x)) (refusal k) docs → DeclinesBy (KeepBy Step n x) (IsDecided (on n (insert in_bytes x))) (refusal k) docs
keep_declines n x k docs other inserting a s = elim (inserting a s) [ inl one ↦ inl (inl (inserted_so k other, one)) | inr fault ↦ inr fault ]

-- ---- bytes

module _ (n b : List ℕ) (old new : Draft) (docs : List TableRow) where
  declines_bytes : (call : Reading → Call) (k : ErrorKind) → ((v : List TableRow) → DoesBytes n call b (refused k None) v v) → EditsBytes (λ x. EditsBy (on n (call x))) b (Err (refusal k)) old new docs docs
  declines_bytes call k does =
      let it = does (drafted old docs) in (
        it.0,
        it.1,
        record { same = refl; done = tt; refused = λ over. declines_of (on n (call it.0)) k None (drafted old docs) (drafted old docs) it.2 },
      )

  pub bytes_bad : (call : Form → Reading → Call) → (IsName n → ⊥) → EditsBytes (λ x. EditsBy (on n (call in_bytes x))) b (Err (refusal BadName)) old new docs docs
  bytes_bad call bad = declines_bytes (call in_bytes) BadName (λ v. bytes_bad_name v n b call bad)

  pub bytes_unkept : (call : Form → Reading → Call) (k : ErrorKind) → TakesReading call → ((v : List TableRow) (d : Members) → AnswersWritten d (Err k) → DoesRead n call d (refused k None) v v) → IsName n → AnswersKept b (Err k) → EditsBytes (λ x. EditsBy (on n (call in_bytes x))) b (Err (refusal k)) old new docs docs
  bytes_unkept call k t unwritten good (inl reads) = declines_bytes (call in_bytes) k (λ v. bytes_refused v n b call k t good (inl reads))
  bytes_unkept call k t unwritten good (inr h) = declines_bytes (call in_bytes) k (λ v. bytes_read v v n b call h.0 (refused k None) h.1 (unwritten v h.0 h.3))

  -- what is read is refused as an insertion and as a replacement
  refused_both : (k : ErrorKind) → IsName n → AnswersKept b (Err k) → (x : Reading) × ReadsBytes b x × ((v : List TableRow) → Declines (on n (replace in_bytes x)) (refusal k) v × Declines (on n (insert in_bytes x)) (refusal k) v)
  refused_both k good (inl reads) = (
    unreadable k,
    reads,
    λ v. (
      declines_of (on n (replace in_bytes (unreadable k))) k None v v (unread v n replace in_bytes k replaces good),
      declines_of (on n (insert in_bytes (unreadable k))) k None v v (unread v n insert in_bytes k inserts good),
    ),
  )
  refused_both k good (inr h) = (
    readable h.0,
    h.1,
    λ v. (
      declines_of (on n (replace in_bytes (readable h.0))) k None v v (replace_unwritten v n h.0 k good h.3 in_bytes),
      declines_of (on n (insert in_bytes (readable h.0))) k None v v (insert_unwritten v n h.0 k good h.3 in_bytes),
    ),
  )

  bad_step : (call : Call) (a : DocumentTable) → (IsName n → ⊥) → Step (state_of a) (on n call) (refused BadName None) (state_of a)
  bad_step call a bad = inr (bad, (refl, refl))

  pub put_bad : (IsName n → ⊥) → EditsBytes (EditsPut n) b (Err (refusal BadName)) old new docs docs
  put_bad bad = let x = any_bytes b in (x.0, x.1, record { same = refl; done = tt; refused = λ over a s. inl (inl (tt, bad_step (replace in_bytes x.0) a bad)) })

  pub put_unkept : (k : ErrorKind) → IsName n → AnswersKept b (Err k) → EditsBytes (EditsPut n) b (Err (refusal k)) old new docs docs
  put_unkept k good told =
      let x = refused_both k good told in
      (x.0, x.1, record { same = refl; done = tt; refused = λ over. let it = x.2 (drafted old docs) in put_declines n x.0 k (drafted old docs) it.0 it.1 })

  pub keep_bad : (IsName n → ⊥) → EditsBytes (EditsKept n) b (Err (refusal BadName)) old new docs docs
  keep_bad bad = let x = any_bytes b in (x.0, x.1, record { same = refl; done = tt; refused = λ over a s. inl (inl (tt, bad_step (insert in_bytes x.0) a bad)) })

  pub keep_unkept : (k : ErrorKind) → IsName n → AnswersKept b (Err k) → EditsBytes (EditsKept n) b (Err (refusal k)) old new docs docs
  keep_unkept k good told =
      let x = refused_both k good told in
      (x.0, x.1, record { same = refl; done = tt; refused = λ over. keep_declines n x.0 k (drafted old docs) (other told) (x.2 (drafted old docs)).1 })
    where
      other : AnswersKept b (Err k) → k ≡ DuplicateId → ⊥
      other (inl reads) is = gate_other reads.0 (sym reads.2 ∙ is)
      other (inr h) is = elim h.3 [ inl unkept ↦ unkept_other h.0 k unkept is | inr ran_out ↦ let no : DuplicateId ≡ Memory = sym is ∙ ran_out in cc ]

pub bytes_edited : (n nb b : List ℕ) (call : Form → Reading → Call) (d : Members) (r : Result (Unit {0}) StoreError) (old new : Draft) (docs after : List TableRow) → nb ≡ n → ReadsBytes b (readable d) → EditsRead nb call d r old new docs after → EditsBytes (λ x. EditsBy (on n (call in_bytes x))) b r old new docs after
bytes_edited n nb b call d r old new docs after e reads h = (readable d, reads, subst (λ m. EditsBy (on m (call in_bytes (readable d))) r old new docs after) e (by r h))
  where
    by : (r : Result (Unit {0}) StoreError) → EditsRead nb call d r old new docs after → EditsBy (on nb (call in_bytes (readable d))) r old new docs after
    by (Ok x) h = record { same = h.same; done = λ over. let it = h.done over in record { goes = it.goes in_bytes; over = it.over }; refused = tt }
    by (Err x) h = record { same = h.same; done = tt; refused = λ over. h.refused over in_bytes }

-- ---- the document with an id

module _ (n : List ℕ) (id : Value) (draft : Draft) (docs : List TableRow) where
  pub none_looks : ((v : List TableRow) → Looks n id (Ok None) v v) → LooksDrafted n id draft (Ok None) docs docs
  none_looks looks = record { same = refl; looks = λ over. looks (drafted draft docs) }

  pub memory_looks : LooksDrafted n id draft (Err (refusal Memory)) docs docs
  memory_looks = record { same = refl; looks = λ over. record { same = refl; found = tt; denied = (faults.Memory, memory_other, refl) } }

  pub found_drafted : (k : List ℕ) (f : Option Found) (after : List TableRow) → IsKeyOf k id → FindsDrafted n k draft (Ok f) docs after → LooksDrafted n id draft (Ok f) docs after
  found_drafted k f after is h = record { same = h.same; looks = λ over. found_looks (drafted draft docs) (drafted draft docs) n k id f is (h.found over) }

  pub unfound_drafted : (k : List ℕ) (x : Fault) (after : List TableRow) → FindsDrafted n k draft (Err x) docs after → LooksDrafted n id draft (Err (refusal (kind_of_fault x))) docs after
  unfound_drafted k x after h = record { same = h.same; looks = λ over. unfound_looks (drafted draft docs) (drafted draft docs) n k id x (h.found over) }

  pub get_bad_name : (IsName n → ⊥) → GetsDrafted n id draft (Err (refusal BadName)) docs docs
  get_bad_name bad = record { same = refl; got = λ over. bad_name (drafted draft docs) n (get_raw id) bad }

  module _ (after : List TableRow) (good : IsName n) where
    pub get_unlooked : (e : StoreError) → LooksDrafted n id draft (Err e) docs after → GetsDrafted n id draft (Err e) docs after
    get_unlooked e h = record { same = h.same; got = λ over. unlooked (drafted draft docs) (drafted draft docs) n id (get_raw id) e good (λ x. x) (h.looks over) }

    pub get_none : LooksDrafted n id draft (Ok None) docs after → GetsDrafted n id draft (Err (refusal NotFound)) docs after
    get_none h = record { same = h.same; got = λ over. not_there (drafted draft docs) (drafted draft docs) n id (get_raw id) good (λ a none. inr (none, (refl, refl))) (h.looks over) }

    pub get_found : (f : Found) → LooksDrafted n id draft (Ok (Some f)) docs after → GetsDrafted n id draft (Ok f.body) docs after
    get_found f h = record { same = h.same; got = λ over. there (drafted draft docs) (drafted draft docs) n id f (get_raw id) (bytes f.body.items) good (λ x. x) (h.looks over) (got id f) }
