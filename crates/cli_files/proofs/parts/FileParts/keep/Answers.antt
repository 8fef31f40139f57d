use Rattle.std.proofs.Common.{◌≡◌, ◌∙◌, ◌++◌, ◌∷◌, ℕ, List, true, take, drop, IsTrue, refl, subst, rules}
use Rattle.cli_files.specs.declared.parts.Part.{Part}
use Rattle.sqlite_disk.specs.Disk.{Holds}
use Rattle.cli_files.proofs.PartLemmas.{clean_parts}
use Rattle.cli_files.proofs.parts.FileParts.keep.Goals as goal

pub returns-clause-clean : goal.returns-clause-clean
returns-clause-clean g c clean =
    let part : Part = record { at = c.args.at; bytes = c.in_ok-from_slice.field-0 } in
    let items : c.insert.new.self.items ≡ take c.place_of-place.result c.args.self.now.parts.items ++ part ∷ drop c.place_of-place.result c.args.self.now.parts.items = search rules in
    (clean_parts g.S.Start c.args.self.now (record c.args.self.now { parts = c.insert.new.self }) c.place_of-place.result part c.requires refl refl refl items clean).0

pub returns-clause-kept : goal.returns-clause-kept
returns-clause-kept g c clean =
    let part : Part = record { at = c.args.at; bytes = c.in_ok-from_slice.field-0 } in
    let items : c.insert.new.self.items ≡ take c.place_of-place.result c.args.self.now.parts.items ++ part ∷ drop c.place_of-place.result c.args.self.now.parts.items = search rules in
    subst (Holds g.S.Start.db c.args.at) c.in_ok-from_slice.ensures.items (clean_parts g.S.Start c.args.self.now (record c.args.self.now { parts = c.insert.new.self }) c.place_of-place.result part c.requires refl refl refl items clean).1
