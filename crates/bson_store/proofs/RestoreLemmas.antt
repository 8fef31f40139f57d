-- Lists of commands that mean the same, and what comes back, by what the calls are proved to do.
use Rattle.std.proofs.Common.{◌≡◌, inl, inr, ℕ, List, [], ◌++◌, length, map, Some, Ok, refl, ap, ◌∙◌, sym, subst}
use Rattle.std.specs.List.{flat_map}
use Rattle.std.specs.Io.KnownBytes.{Appends, Consumes}
use Rattle.std.proofs.lemmas.List.{append_cancel_left, length-map}
use Rattle.serde_json.specs.Data.{Data}
use Rattle.bson_base.specs.Device.{Feed, Tally}
use Rattle.bson_bytes.specs.Encode.{encode}
use Rattle.bson_meaning.specs.Meaning.{norm_members_in_order}
use Rattle.store_table.specs.Rows.{TableRow}
use Rattle.store_model.specs.Reading.{Documents, ReadsStream, ReadsTrees}
use Rattle.store_model.specs.Run.{Denials, Run}
use Rattle.store_model.specs.Same.{SameReplies, SameStates}
use Rattle.store_model.specs.State.{State, Call, list_of, export, dump, import, on, number, bytes, json_list, IsName, Step}
use Rattle.store_model.specs.Table.{DocumentTable, state_of, documents_of}
use Rattle.store_model.proofs.KeyLemmas.{rows_are_a_state}
use Rattle.store_model.proofs.RestoreLemmas.{export_restored, dump_restored}
use Rattle.store_model.proofs.RowLemmas.{list_of-state_of}
use Rattle.store_model.proofs.RunLemmas.{run_same}
use Rattle.bson_store.specs.Shown.{Represents}
use Rattle.bson_store.specs.Calls.{Does}
use Rattle.bson_store.specs.Export.{SendsCollection}
use Rattle.bson_store.specs.Many.{DoesMany, Imports, Restored}
use Rattle.bson_store.specs.Runs.{MeanTheSame, RunsOnLists, reply_of}
use Rattle.bson_store.specs.declared.command.Command.{Command as Asked}
use Rattle.bson_store.specs.declared.command.Reply.{Reply as Told}
use Rattle.bson_store.proofs.ImportLemmas.{whole_slice}
use Rattle.bson_store.proofs.CrashLemmas.{step_of}
use Rattle.bson_store.proofs.ServeLemmas.{stay}

-- ---- lists of commands

pub runs_mean : (xs ys : List Asked) (rs qs : List Told) (old older new newer : List TableRow) (a b : DocumentTable) → MeanTheSame xs ys → Represents old a → Represents older b → SameStates (state_of a) (state_of b)
    → (h : RunsOnLists a xs rs new) (k : RunsOnLists b ys qs newer) → h.denials ≡ k.denials → SameReplies h.asked (map reply_of rs) (map reply_of qs) × SameStates (state_of h.b) (state_of k.b)
runs_mean xs ys rs qs old older new newer a b same shown other states h k denied =
    let m = same h.asked k.asked h.asks k.asks in
    let run = subst (λ (w : Denials). Run w 0 (state_of b) k.asked (map reply_of qs) (state_of k.b)) (sym denied) k.run in
    run_same h.denials 0 h.asked k.asked (map reply_of rs) (map reply_of qs) (state_of a) (state_of b) (state_of h.b) (state_of k.b) m.0 m.1 m.2 states (rows_are_a_state a shown.good) (rows_are_a_state b other.good) h.run run

-- ---- what comes back

-- an accepted command has a good name
named : (m : List ℕ) (c : Call) (s t : State) (i : ℕ) → Step s (on m c) (number i) t → IsName m
named m c s t i (inl h) = h.0
named m c s t i (inr h) = let e = h.1.0 in cc

-- the list that is named in terms of states, in terms of tables
back : (m n : List ℕ) (count : ℕ) (a u : DocumentTable) (last : List TableRow) (f : Documents → Documents) → Represents last u → (number count ≡ number (length (list_of (state_of a) n))) × (list_of (state_of u) m ≡ f (list_of (state_of a) n))
    → length (f (documents_of a n)) ≡ length (documents_of a n) → Restored m (f (documents_of a n)) count last
back m n count a u last f shown (told, are) long =
    let many : count ≡ length (list_of (state_of a) n) = cc in (
      many ∙ ap (λ (l : Documents). length l) (list_of-state_of a n) ∙ sym long,
      (u, shown, sym (list_of-state_of u m) ∙ are ∙ ap f (list_of-state_of a n)),
    )

pub export_back : (n m bs : List ℕ) (count : ℕ) (docs after more last : List TableRow) (a b : DocumentTable) → Does (on n export) (bytes bs) docs after → Represents docs a → DoesMany m (ReadsStream bs) (number count) more last → Represents more b → documents_of b m ≡ [] → Restored m (documents_of a n) count last
export_back n m bs count docs after more last a b out shown (ds, stop, reads, into) other empty =
    let x = out a shown in
    let y = into b other in
    let first = step_of a (on n export) (bytes bs) x.0 (λ e. e) x.2 in
    let second = step_of b (on m (import ds stop)) (number count) y.0 (λ e. e) y.2 in
    let good = named m (import ds stop) (state_of b) (state_of y.0) count second in
    back m n count a y.0 last (λ l. l) y.1 (export_restored (state_of a) (state_of x.0) (state_of b) (state_of y.0) n m bs ds stop (number count) (rows_are_a_state a shown.good) first reads good (list_of-state_of b m ∙ empty) second) refl

pub dump_back : (n m : List ℕ) (js : List Data) (count : ℕ) (docs after more last : List TableRow) (a b : DocumentTable) → Does (on n dump) (json_list js) docs after → Represents docs a → DoesMany m (ReadsTrees js) (number count) more last → Represents more b → documents_of b m ≡ []
    → Restored m (map (λ d. norm_members_in_order d) (documents_of a n)) count last
dump_back n m js count docs after more last a b out shown (ds, stop, reads, into) other empty =
    let x = out a shown in
    let y = into b other in
    let first = step_of a (on n dump) (json_list js) x.0 (λ e. e) x.2 in
    let second = step_of b (on m (import ds stop)) (number count) y.0 (λ e. e) y.2 in
    let good = named m (import ds stop) (state_of b) (state_of y.0) count second in
    back m n count a y.0 last (λ l. map (λ d. norm_members_in_order d) l) y.1 (dump_restored (state_of a) (state_of x.0) (state_of b) (state_of y.0) n m js ds stop (number count) (rows_are_a_state a shown.good) first reads good (list_of-state_of b m ∙ empty) second)
    (length-map (documents_of a n) (λ d. norm_members_in_order d))

-- what was written is what was added to the sink
went_out : (n taken bs : List ℕ) (old new : Tally) (docs after : List TableRow) → SendsCollection n old new (Ok tt) docs after → old.taken ≡ Some taken → new.taken ≡ Some (taken ++ bs) → Does (on n export) (bytes bs) docs after
went_out n taken bs old new docs after h was is a shown =
    let e = h.exports a shown in
    let out = flat_map encode (list_of (state_of a) n) in
    let k : Appends (Some taken) (Some (taken ++ bs)) out = subst (λ o. Appends o (Some (taken ++ bs)) out) was (subst (λ o. Appends old.taken o out) is e.1.1) in
    let same : bs ≡ flat_map encode (documents_of a n) = append_cancel_left taken bs out k ∙ ap (flat_map encode) (list_of-state_of a n) in
    (a, subst (λ d. Represents d a) (sym h.same) shown, stay a n export (bytes bs) e.0 (ap bytes same, refl))

pub calls_back : (n m taken bs : List ℕ) (old new : Tally) (fed left : Feed) (count : ℕ) (docs after more last : List TableRow) (a b : DocumentTable) → SendsCollection n old new (Ok tt) docs after → Represents docs a → old.taken ≡ Some taken → new.taken ≡ Some (taken ++ bs)
    → Imports m fed left (Ok count) more last → Represents more b → fed.supply.left ≡ Some bs → documents_of b m ≡ [] → Restored m (documents_of a n) count last
calls_back n m taken bs old new fed left count docs after more last a b sends shown was is (good, (all, took, many)) other has empty =
    let whole : all ≡ bs = whole_slice bs left.supply.left all (subst (λ o. Consumes o left.supply.left all) has took.0.1.1) took.1 in
    export_back n m bs count docs after more last a b (went_out n taken bs old new docs after sends was is) shown (subst (λ x. DoesMany m (ReadsStream x) (number count) more last) whole many) other empty
