use Rattle.std.proofs.Common.{◌∙◌, ℕ, sym, subst}
use Rattle.sqlite_btree.proofs.Results.{steps_on}
use Rattle.store_table.specs.Documents.{AreDocuments}
use Rattle.store_table.proofs.DocumentLemmas.{body_found}
use Rattle.store_table.proofs.pages.look.body_named.Goals as goal

pub returns-in_ok-body-in-Some-clause-found : goal.returns-in_ok-body-in-Some-clause-found
returns-in_ok-body-in-Some-clause-found g c clean docs are =
    let size = c.place_named.ensures.kept.same_size in
    let pages = c.place_named.ensures.pages in
    let now = subst (λ (n : ℕ). AreDocuments n (g.P.Pages.pages c.place_named.new.pages) c.args.roots.table c.args.roots.index docs) (sym size) (subst (λ p. AreDocuments (g.P.Pages.size c.args.pages.now) p c.args.roots.table c.args.roots.index docs) (sym pages) are) in
    body_found c.args.coll.now c.args.idkey.now docs _ (are.apart c.args.coll.now c.args.idkey.now) (c.in_ok-body-in-Some.ensures.found clean docs now)

pub returns-in_err-body-in-Some-clause-kept : goal.returns-in_err-body-in-Some-clause-kept
returns-in_err-body-in-Some-clause-kept g c = steps_on g.met.P.Pages.follows_trans c.place_named.ensures.kept c.body_at.ensures.kept

pub returns-in_err-body-in-Some-clause-pages : goal.returns-in_err-body-in-Some-clause-pages
returns-in_err-body-in-Some-clause-pages g c = c.body_at.ensures.pages ∙ c.place_named.ensures.pages

pub returns-in_ok-body-in-Some-clause-kept : goal.returns-in_ok-body-in-Some-clause-kept
returns-in_ok-body-in-Some-clause-kept g c = steps_on g.met.P.Pages.follows_trans c.place_named.ensures.kept c.body_at.ensures.kept

pub returns-in_ok-body-in-Some-clause-pages : goal.returns-in_ok-body-in-Some-clause-pages
returns-in_ok-body-in-Some-clause-pages g c = c.body_at.ensures.pages ∙ c.place_named.ensures.pages
