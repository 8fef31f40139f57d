-- What the commands of the words are read of.
use Rattle.std.proofs.Common.{◌≡◌, inl, inr, ℕ, List, sym, ap, subst}
use Rattle.serde_json.specs.Data.{Data}
use Rattle.bson_base.specs.Device.{Feed}
use Rattle.store_model.specs.Reading.{Reading, readable, unreadable, ReadsTree}
use Rattle.store_model.specs.State.{Command, insert, replace, in_json, on}
use Rattle.cli_commands.specs.declared.call.Call.{Call}
use Rattle.cli_commands.specs.declared.call.Call.TheVariants.{Insert, Replace, Get, Set, Unset, Remove, Find, Count, Import, Export, Dump, Load, Collections}
use Rattle.cli_commands.specs.declared.lines.UsageError.{UsageError}
use Rattle.cli_commands.specs.declared.lines.UsageError.TheVariants as words
use Rattle.cli_commands.specs.Commands.{Complains, IsCommandOf, IsOfLines, IsOfStream}
use Rattle.cli_commands.proofs.KindLemmas.{IsReadCommand, stream_stop, tree_kind, trees_stop}

inserted : (n : List ℕ) (a : Reading) (j : Data) → ReadsTree j a → IsReadCommand (on n (insert in_json a))
inserted n (readable d) j h = tt
inserted n (unreadable k) j h = tree_kind j k h

replaced : (n : List ℕ) (a : Reading) (j : Data) → ReadsTree j a → IsReadCommand (on n (replace in_json a))
replaced n (readable d) j h = tt
replaced n (unreadable k) j h = tree_kind j k h

pub command_read : (call : Call) (n : List ℕ) (texts : List (List ℕ)) (c : Command) → IsCommandOf call n texts c → IsReadCommand c
command_read Insert n texts c (text, j, a, only, tree, reads, is) = subst IsReadCommand (sym is) (inserted n a j reads)
command_read Replace n texts c (text, j, a, only, tree, reads, is) = subst IsReadCommand (sym is) (replaced n a j reads)
command_read Get n texts c (text, more, id, first, reads, is) = subst IsReadCommand (sym is) tt
command_read Set n texts c (text, key, value, id, j, all, reads, tree, is) = subst IsReadCommand (sym is) tt
command_read Unset n texts c (text, more, id, first, reads, is) = subst IsReadCommand (sym is) tt
command_read Remove n texts c (text, more, id, first, reads, is) = subst IsReadCommand (sym is) tt
command_read Find n texts c (text, f, only, stands, is) = subst IsReadCommand (sym is) tt
command_read Count n texts c (text, f, only, stands, is) = subst IsReadCommand (sym is) tt
command_read Import n texts c h = absurd h
command_read Export n texts c is = subst IsReadCommand (sym is) tt
command_read Dump n texts c is = subst IsReadCommand (sym is) tt
command_read Load n texts c h = absurd h
command_read Collections n texts c is = subst IsReadCommand (sym is) tt

pub stream_read : (n : List ℕ) (fed left : Feed) (c : Command) → IsOfStream n fed left c → IsReadCommand c
stream_read n fed left c (bytes, ds, stop, fed_so, reads, is) = subst IsReadCommand (sym is) (stream_stop bytes ds stop reads)

pub stream_quiet : (n : List ℕ) (fed left : Feed) (c : Command) → IsOfStream n fed left c → left.failures ≡ fed.failures
stream_quiet n fed left c (bytes, ds, stop, inl (good, took), reads, is) = took.0.0
stream_quiet n fed left c (bytes, ds, stop, inr (bad, same), reads, is) = ap (λ (f : Feed). f.failures) same

pub lines_read : (n : List ℕ) (fed left : Feed) (c : Command) → IsOfLines n fed left c → IsReadCommand c
lines_read n fed left c (bytes, js, ds, stop, took, have, reads, is) = subst IsReadCommand (sym is) (trees_stop js ds stop reads)

pub lines_quiet : (n : List ℕ) (fed left : Feed) (c : Command) → IsOfLines n fed left c → left.failures ≡ fed.failures
lines_quiet n fed left c (bytes, js, ds, stop, took, have, reads, is) = took.0.0

pub load_hush : (texts : List (List ℕ)) (fed left : Feed) (w : UsageError) → Complains Load texts fed left w → left.failures ≡ fed.failures
load_hush texts fed left (words.Line i) h = h.1.1.0.0
load_hush texts fed left words.Usage h = ap (λ (f : Feed). f.failures) h.1
load_hush texts fed left words.Json h = ap (λ (f : Feed). f.failures) h.1
load_hush texts fed left words.Id h = ap (λ (f : Feed). f.failures) h.1
load_hush texts fed left words.Filter h = ap (λ (f : Feed). f.failures) h.1
