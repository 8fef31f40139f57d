-- What the program writes.
use Rattle.std.proofs.Common.{◌≡◌, inl, inr, [], ◌∷◌, append-nil, None, Ok, Err, refl, ap, ◌∙◌, subst}
use Rattle.std.specs.List.{flat_map}
use Rattle.sqlite.specs.State.{State, HasCleanDisk}
use Rattle.bson_base.specs.Value.{Members}
use Rattle.bson_bytes.specs.Encode.{encode}
use Rattle.store_table.specs.Moves.{Moves}
use Rattle.store_model.specs.State.{list_of, refusal_of}
use Rattle.store_model.specs.Table.{DocumentTable, state_of}
use Rattle.store_model.specs.declared.error.ErrorKind.{ErrorKind}
use Rattle.store_model.specs.declared.error.ErrorKind.TheVariants.{BadName, Memory, Database, Reader, Writer}
use Rattle.bson_base.specs.Device.{Feed, Tally}
use Rattle.bson_store.specs.Export.{Delivers, ExportRefused, SendsCollection}
use Rattle.store_model.specs.declared.error.StoreError.{StoreError}
use Rattle.cli_commands.specs.Pipe.{ReadsInput, KeepsInput, RefusesInput, Exchanges}
use Rattle.cli_commands.proofs.RefusalLemmas.{of_input}
use Rattle.cli_commands.proofs.KeepLemmas.{name, is_name}

-- if the document of the input is not kept, nothing is written
pub nothing_out : (kind : ErrorKind) (old new : Feed) (out : Tally) → RefusesInput kind old new → Exchanges old new out out (Err kind)
nothing_out Reader old new out h = (h, refl)
nothing_out Memory old new out (inl h) = inl (h, refl)
nothing_out Memory old new out (inr (d, reads)) = inr (d, reads, inl refl)
nothing_out Database old new out (inl h) = inl (h, refl)
nothing_out Database old new out (inr (d, reads)) = inr (d, reads, inl refl)
nothing_out Writer old new out h = absurd ((of_input h.0 Writer h.2).3 refl)
nothing_out _ old new out h = (h, refl)

-- the written documents of a list of one
one_written : (a : DocumentTable) (d : Members) → list_of (state_of a) name ≡ d ∷ [] → flat_map encode (list_of (state_of a) name) ≡ encode d
one_written a d is = ap (flat_map encode) is ∙ append-nil (encode d)

pub all_out : (s t : State) (old new : Feed) (before after : Tally) → HasCleanDisk t → KeepsInput old new s → Moves s t (SendsCollection name before after (Ok tt)) → Exchanges old new before after (Ok tt)
all_out s t old new before after clean (d, reads, kept, (docs, a, stands, shown, is)) moves =
    let m = (moves clean).1 docs stands in
    (d, reads, kept, subst (λ bs. Delivers bs before after (Ok tt)) (one_written a d is) (m.2.exports a shown).1)

cut_short : (kind : ErrorKind) (a : DocumentTable) (d : Members) (old new : Feed) (before after : Tally) → ReadsInput old new d → refusal_of d ≡ None → list_of (state_of a) name ≡ d ∷ []
    → ExportRefused (state_of a) name before after kind → Exchanges old new before after (Err kind)
cut_short BadName a d old new before after reads kept is h = absurd (h.0 is_name)
cut_short Memory a d old new before after reads kept is h = inr (d, reads, inr (kept, subst (λ bs. Delivers bs before after (Err Memory)) (one_written a d is) h.1))
cut_short Database a d old new before after reads kept is h = inr (d, reads, inr (kept, subst (λ bs. Delivers bs before after (Err Database)) (one_written a d is) h.1))
cut_short Writer a d old new before after reads kept is h = (d, reads, kept, subst (λ bs. Delivers bs before after (Err Writer)) (one_written a d is) h.1)
cut_short _ a d old new before after reads kept is h = absurd h.1

pub some_out : (s t : State) (old new : Feed) (before after : Tally) (e : StoreError) → HasCleanDisk t → KeepsInput old new s → Moves s t (SendsCollection name before after (Err e))
    → Exchanges old new before after (Err e.kind)
some_out s t old new before after e clean (d, reads, kept, (docs, a, stands, shown, is)) moves =
    let m = (moves clean).1 docs stands in
    cut_short e.kind a d old new before after reads kept is (m.2.exports a shown).1
