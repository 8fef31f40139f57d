-- A document that bytes mean has no fault in its walk, and none at any depth.
use Rattle.std.proofs.Common.{◌≡◌, ℕ, List, [], ◌∷◌, drop, Option, Some, None, refl}
use Rattle.std.specs.List.{All}
use Rattle.std.proofs.lemmas.List.Elements.{All-nil, All-cons}
use Rattle.bson_base.specs.Value.{Members, no_members, member}
use Rattle.bson_bytes.specs.Spells.{Means, SpellsMembers}
use Rattle.bson_frame.specs.declared.error.ErrorKind.{ErrorKind}
use Rattle.bson_frame.specs.Frame.{Element}
use Rattle.bson_frame.specs.Payload.{IsFaultless}
use Rattle.bson_raw.specs.Convert.{HasFault}
use Rattle.bson_raw.specs.Walk.{IsWalk, IsDocumentWalk}
use Rattle.bson_raw.proofs.FaultLemmas.{no_fault, members_front, spells_no_members}
use Rattle.bson_raw.proofs.WalkLemmas.{FramesAreOne}

abbrev HasNoFault : Element → Type 0
HasNoFault e = IsFaultless e.tag e.payload

abbrev AreFaultless : List Element → Type 0
AreFaultless = All HasNoFault

module _ (one : FramesAreOne) where
  walk_is_faultless : (elements : List Element) (fault : Option ErrorKind) (bytes : List ℕ) (ms : Members) → SpellsMembers bytes ms → IsWalk bytes elements fault → (fault ≡ None) × AreFaultless elements
  walk_is_faultless [] None bytes ms h w = (refl, All-nil HasNoFault)
  walk_is_faultless [] (Some kind) bytes no_members h w = absurd (w.0 h)
  walk_is_faultless [] (Some kind) bytes (member k v ms) h w = absurd (w.1.no_frame h.0 h.1 h.2)
  walk_is_faultless (e ∷ elements) fault bytes ms h w =
      let front = members_front one bytes e w.0 w.1 ms h in
      let rest = walk_is_faultless elements fault w.0 front.1.0 front.1.1 w.2 in
      (rest.0, All-cons HasNoFault e elements (no_fault e.tag e.payload front.0.0 front.0.1 front.0.2) rest.1)

  pub meant_walk : (bytes : List ℕ) (d : Members) (elements : List Element) (fault : Option ErrorKind) → Means bytes d → IsDocumentWalk bytes elements fault → (fault ≡ None) × AreFaultless elements
  meant_walk bytes d elements fault m w = walk_is_faultless elements fault (drop 4 bytes) m.0 m.2 w

  pub meant_inside : (bytes : List ℕ) (d : Members) (key : Option (List ℕ)) (kind : ErrorKind) → Means bytes d → HasFault (drop 4 bytes) key kind → ⊥
  meant_inside bytes d key kind m h = spells_no_members one h.0 (drop 4 bytes) key kind h.1 m.0 m.2
