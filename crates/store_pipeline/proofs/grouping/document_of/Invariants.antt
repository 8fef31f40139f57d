use Rattle.std.proofs.Common.{◌≡◌, drop}
use Rattle.bson_base.specs.Value.{document, member, no_members}
use Rattle.bson_model.specs.View.{content}
use Rattle.store_model.specs.Reading.{Documents}
use Rattle.store_model.specs.State.{id_key}
use Rattle.store_pipeline.specs.Bodies.{AreLent}
use Rattle.store_pipeline.proofs.grouping.document_of.Given as goal
use Rattle.store_pipeline.specs.Faithful.{IsFaithful}
use Rattle.store_pipeline.specs.Grouped.{key_of}
use Rattle.store_pipeline.specs.Groups.{with_fields}

abbrev pub invariant-loop-field : goal.invariant-loop-field
invariant-loop-field l = (ds : Documents) → IsFaithful (key_of l.group) → AreLent l.group.bodies.items ds
    → (with_fields l.fields ds (member id_key (key_of l.group) no_members) ≡ with_fields (drop l.field-index l.fields) ds (content l.document)) × IsFaithful (document (content l.document))
