use Rattle.std.proofs.Common.{arith}
use Rattle.bson_raw.proofs.AppendLemmas.{length_kept, closed, closed_length}
use Rattle.bson_raw.proofs.append.finish_append.Goals as goal

pub index_mut-requires : goal.index_mut-requires
index_mut-requires c = omega (arith, length_kept c.args.bytes.now.items c.put_length.new.out.items (omega (arith, c.requires.some, c.requires.within)) (c.in-Ok.ensures).ok)

pub returns-in-Ok : goal.returns-in-Ok
returns-in-Ok c = record {
  ok = λ four body more e len whole. (closed c.args.bytes.now.items c.put_length.new.out.items four body more c.args.tag c.args.end (c.in-Ok.ensures).ok e len whole, omega (arith, (c.in-Ok.ensures).short, closed_length c.args.bytes.now.items four body more e len));
}
