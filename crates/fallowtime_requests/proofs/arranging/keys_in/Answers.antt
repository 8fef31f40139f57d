use Rattle.std.proofs.Common.{◌≡◌, ◌⊎◌, Some, None, sym, subst}
use Rattle.std.specs.Prelude.{MatchResult}
use Rattle.store_pipeline.specs.Bodies.{keys_of}
use Rattle.fallowtime_requests.specs.Orders.{keys_under}
use Rattle.fallowtime_requests.specs.declared.stop.Stop.TheVariants.{Memory, Words}
use Rattle.fallowtime_requests.specs.declared.unread.Unread.TheVariants as unread
use Rattle.fallowtime_requests.proofs.OptionLemmas.{object_seen}
use Rattle.fallowtime_requests.proofs.arranging.keys_in.Goals as goal

pub returns-in-Object : goal.returns-in-Object
returns-in-Object c =
    let seen = object_seen c.args.value.now c.in-Object.members c.as_slice.result.now c.in-Object.is c.as_slice.ensures.value in
    subst (λ j. MatchResult c.keys_among.result (λ keys. keys_under j ≡ Some (keys_of keys.items)) (λ s. (s ≡ Memory) ⊎ ((s ≡ Words unread.Options) × (keys_under j ≡ None)))) (sym seen) c.keys_among.ensures
