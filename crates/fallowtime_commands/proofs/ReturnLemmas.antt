-- Documents that were printed and are read again.
use Rattle.std.proofs.Common.{arith, refl, sym, subst, ◌≡◌, ◌≤◌, ℕ, List, [], ◌∷◌, false, Result, Ok, Err}
use Rattle.std.proofs.lemmas.List.{append_cancel_right}
use Rattle.bson_base.specs.Kinds.{IsSound}
use Rattle.bson_base.specs.Value.{document, has_key, Members, no_members, member}
use Rattle.bson_json.specs.Prints.{IsTextOf}
use Rattle.bson_json.specs.Settled.{ComesBack, json_levels, settle_members}
use Rattle.bson_json_read.specs.Reading.{ReadsText}
use Rattle.bson_json_read.specs.declared.error.Error.{Error}
use Rattle.bson_json_read.specs.declared.error.Error.TheVariants.{Memory}
use Rattle.bson_meaning.specs.JsonReserved.{has_reserved}
use Rattle.bson_model.specs.declared.document.Document.{Document}
use Rattle.bson_model.specs.declared.extjson.ser.Mode.{Mode}
use Rattle.bson_model.specs.declared.extjson.ser.Mode.TheVariants.{Canonical}
use Rattle.cli_convert.specs.Lines.{Reads}
use Rattle.cli_commands.specs.Lines.{line}
use Rattle.cli_convert.specs.Made.{identified}
use Rattle.cli_convert.specs.declared.made.IdMaker.{IdMaker}
use Rattle.store_model.specs.State.{id_key, IsKept}
use Rattle.fallowtime_commands.specs.Printing.{IsPrinted}
use Rattle.fallowtime_commands.specs.declared.printing.Form.TheVariants.{Lines}

-- settling keeps the keys
settled_keys : (m : Mode) (k : List ℕ) (ms : Members) → has_key k (settle_members m ms) ≡ has_key k ms
settled_keys m k no_members = refl
settled_keys m k (member l v ms) = grind (arith, settled_keys m k ms)

-- the text of the line
printed : (d : Members) (text : List ℕ) → IsPrinted (Lines Canonical) d (line text) → IsTextOf Canonical (document d) text
printed d text (t, is, same) = subst (λ x. IsTextOf Canonical (document d) x) (sym (append_cancel_right text t (10 ∷ []) same)) is

-- what `canonical_texts_read_back` says
abbrev pub ReadBack : Type 0
ReadBack = (ms : Members) (t : List ℕ) (r : Result Document Error) → IsSound (document ms) → has_reserved ms ≡ false → json_levels (document ms) ≤ 125 → IsTextOf Canonical (document ms) t → ReadsText t r → ComesBack Canonical ms r

pub read_again : ReadBack → (d e : Members) (text : List ℕ) (maker : IdMaker) → IsKept d → has_reserved d ≡ false → json_levels (document d) ≤ 125 → IsPrinted (Lines Canonical) d (line text) → Reads text e
    → identified maker e ≡ settle_members Canonical d
read_again back d e text maker kept free low is (some, utf8, (found, gives, reads)) =
    grind (arith, back d text (Ok found) kept.read.sound free low (printed d text is) reads, gives, kept.identified, settled_keys Canonical id_key d)

pub refused_again : ReadBack → (d : Members) (text : List ℕ) (error : Error) → IsKept d → has_reserved d ≡ false → json_levels (document d) ≤ 125 → IsPrinted (Lines Canonical) d (line text)
    → ReadsText text (Err error) → error ≡ Memory
refused_again back d text error kept free low is reads = back d text (Err error) kept.read.sound free low (printed d text is) reads
