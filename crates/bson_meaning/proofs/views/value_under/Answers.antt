use Rattle.std.proofs.Common.{◌≡◌, Some, sym, ◌∙◌}
use Rattle.bson_base.specs.Value.{look_up}
use Rattle.bson_model.specs.View.{view, pairs_of, members_of}
use Rattle.bson_model.proofs.EqualLemmas.{look_up-members_of}
use Rattle.bson_meaning.proofs.views.value_under.Goals as goal
use Rattle.bson_base.proofs.MemberLemmas.{found_levels}

pub returns-in-Some : goal.returns-in-Some
returns-in-Some c =
    let ps = pairs_of c.args.document.now in
    let key = c.args.key.now in
    let found : look_up key (members_of ps) ≡ Some (view c.in-Some.value.now) = look_up-members_of key ps ∙ sym c.in-Some.ensures in
    (found, found_levels key (members_of ps) (view c.in-Some.value.now) found)

pub returns-in-None : goal.returns-in-None
returns-in-None c = look_up-members_of c.args.key.now (pairs_of c.args.document.now) ∙ sym c.in-None.ensures
