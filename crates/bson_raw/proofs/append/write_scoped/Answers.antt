use Rattle.std.proofs.Common.{ℕ, List, ◌++◌, ap, ◌∙◌, arith}
use Rattle.std.proofs.lemmas.Result.{err_from_is_err_and}
use Rattle.bson_raw.specs.View.{bytes_of}
use Rattle.bson_raw.proofs.AppendLemmas.{scoped_put, long_scoped, long_code}
use Rattle.bson_raw.proofs.append.write_scoped.Goals as goal

pub returns-in_err-write_text-clause-refused : goal.returns-in_err-write_text-clause-refused
returns-in_err-write_text-clause-refused c =
    let p = err_from_is_err_and c.from_residual-in_err-write_text.result c.from_residual-in_err-write_text.ensures.1 in
    rw (p.1, p.2) (long_code c.args.code.code.now (bytes_of c.args.code.scope) _ (c.in_err-write_text.ensures).refused)

pub returns-clause-ok : goal.returns-clause-ok
returns-clause-ok c = scoped_put c.args.out.now.items c.write_bytes.new.out.items c.write_text.new.out.items c.write_bytes-2.new.out.items c.args.code.code.now (bytes_of c.args.code.scope)
    (c.in_ok-write_bytes.ensures).ok (c.in_ok-write_text.ensures).ok ((c.in_ok-write_bytes-2.ensures).ok ∙ ap (λ (x : List ℕ). c.write_text.new.out.items ++ x) c.as_bytes.ensures) c.put_length.new.out.items c.len-start.result c.put_length.result (omega (arith, c.len-start.ensures, c.args.out.now.ok.0)) c.put_length.ensures.ok

pub returns-clause-refused : goal.returns-clause-refused
returns-clause-refused c = long_scoped c.args.out.now.items c.write_bytes.new.out.items c.write_text.new.out.items c.write_bytes-2.new.out.items c.args.code.code.now (bytes_of c.args.code.scope)
    (c.in_ok-write_bytes.ensures).ok (c.in_ok-write_text.ensures).ok ((c.in_ok-write_bytes-2.ensures).ok ∙ ap (λ (x : List ℕ). c.write_text.new.out.items ++ x) c.as_bytes.ensures) c.len-start.result c.put_length.result (omega (arith, c.len-start.ensures, c.args.out.now.ok.0)) c.put_length.ensures.refused
