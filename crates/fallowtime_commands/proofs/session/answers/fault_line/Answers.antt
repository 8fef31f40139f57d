use Rattle.std.proofs.Common.{ℕ, List, Some, codes, sym, subst}
use Rattle.fallowtime_commands.specs.Answers.{refusal}
use Rattle.fallowtime_commands.specs.Objects.{Makes, MakesLine, ShowsFault, id_tree}
use Rattle.fallowtime_commands.proofs.session.answers.fault_line.Goals as goal

pub returns-in-ReservedKey : goal.returns-in-ReservedKey
returns-in-ReservedKey c =
    let id = id_tree c.args.id in
    let r = c.refusal_line.result in
    subst (λ fault. Makes (ShowsFault id c.args.index fault) r) (sym c.in-ReservedKey.is)
    (subst (λ (path : List ℕ). MakesLine id (refusal (codes "ReservedKey") c.args.index (Some path)) r) c.as_str.ensures.value c.refusal_line.ensures)
