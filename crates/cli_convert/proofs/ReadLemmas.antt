-- Bodies that a store keeps, read again.
use Rattle.std.proofs.Common.{◌≡◌, ℕ, List, drop, refl, subst, sym, arith}
use Rattle.bson_base.specs.Value.{Members}
use Rattle.bson_bytes.specs.Encode.{encode, members_bytes}
use Rattle.bson_bytes.specs.Spells.{Means, SpellsMembers}
use Rattle.bson_bytes.proofs.LengthLemmas.{members_length}
use Rattle.bson_bytes.proofs.OneTreeLemmas.{one_meaning}
use Rattle.bson_bytes.proofs.SpellingLemmas.{framed_inside, spelled_members}
use Rattle.store_model.specs.Reading.{readable}
use Rattle.store_model.specs.State.{IsKept}
use Rattle.store_model.proofs.RestoreLemmas.{written_reads}
use Rattle.cli_convert.specs.declared.printed.PrintFault.{PrintFault}
use Rattle.cli_convert.specs.declared.printed.PrintFault.TheVariants.{Memory}

module _ (d : Members) (body : List ℕ) (kept : IsKept d) (is : body ≡ encode d) where
  meant : Means body d
  meant = subst (λ bytes. Means bytes d) (sym is) ((written_reads d kept (readable d)).1 refl).1

  pub same_read : (read : Members) → ((m : Members) → Means body m → Means body read) → read ≡ d
  same_read read means = one_meaning body read d (means d meant) meant

  pub no_memory : (e : PrintFault) → ((m : Members) → Means body m → e ≡ Memory) → e ≡ Memory
  no_memory e memory = memory d meant

  pub spelled : SpellsMembers (drop 4 body) d
  spelled =
      let inside : SpellsMembers (drop 4 (encode d)) d = subst (λ (x : List ℕ). SpellsMembers x d) (sym (framed_inside (members_bytes d))) (spelled_members d kept.read.clean kept.read.sound.ranged (omega (arith, kept.small, members_length d))) in
      subst (λ (x : List ℕ). SpellsMembers (drop 4 x) d) (sym is) inside
