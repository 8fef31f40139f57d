use Rattle.std.proofs.Common.{[]}
use Rattle.sqlite.specs.Held.{state}
use Rattle.sqlite.proofs.StateLemmas.{survives_weaker}
use Rattle.store_table.proofs.TextLemmas.{create_text}
use Rattle.store_table.proofs.StatementLemmas.{if_refused_keeps}
use Rattle.store_table.proofs.BlankLemmas.{blank_ok}
use Rattle.store_table.proofs.BesideLemmas.{create_beside, beside_commits}
use Rattle.store_table.proofs.statements.create.Goals as goal

pub returns-clause-made : goal.returns-clause-made
returns-clause-made g c clean blank =
    let old = state g.S.Store c.args.conn.now in
    let new = state g.S.Store c.execute.new.self in
    blank_ok old new blank c.execute.result (create_beside old new blank.autocommit c.execute.result (c.execute.ensures.runs clean))

pub returns-clause-beside : goal.returns-clause-beside
returns-clause-beside g c clean auto = create_beside (state g.S.Store c.args.conn.now) (state g.S.Store c.execute.new.self) auto c.execute.result (c.execute.ensures.runs clean)

pub returns-clause-kept : goal.returns-clause-kept
returns-clause-kept g c clean settled = if_refused_keeps create_text [] (state g.S.Store c.args.conn.now) (state g.S.Store c.execute.new.self) c.execute.result (c.execute.ensures.runs clean) settled

pub returns-clause-crash : goal.returns-clause-crash
returns-clause-crash g c =
    let old = state g.S.Store c.args.conn.now in
    survives_weaker _ _ _ _ (λ _ db commits. beside_commits old db commits) c.execute.ensures.survives
