-- Documents while they are put in groups.
use Rattle.std.specs.Prelude.{◌≡◌, ◌⊎◌, List, map, Result, Ok, Err, Vec}
use Rattle.std.specs.List.{AllByRecursion}
use Rattle.std.specs.declared.alloc.Global.{Global}
use Rattle.bson_base.specs.Value.{Value, Members, document}
use Rattle.bson_model.specs.View.{view, content}
use Rattle.bson_model.specs.declared.bson.Bson.{Bson}
use Rattle.bson_model.specs.declared.document.Document.{Document}
use Rattle.bson_order.specs.Order.{order}
use Rattle.store_pipeline.specs.Once.{IsEachOnce}
use Rattle.store_model.specs.Reading.{Documents}
use Rattle.store_pipeline.specs.Bodies.{AreLent}
use Rattle.store_update.specs.declared.error.UpdateError.{UpdateError}
use Rattle.store_update.specs.declared.error.UpdateError.TheVariants.{Memory}
use Rattle.store_pipeline.specs.Faithful.{AreFaithful, IsFaithful}
use Rattle.store_pipeline.specs.Groups.{of_key}
use Rattle.store_pipeline.specs.Operands.{key_in}
use Rattle.store_pipeline.specs.declared.grouping.KeyGroup.{KeyGroup}
use Rattle.store_pipeline.specs.declared.stage.Operand.{Operand}

abbrev pub key_of : KeyGroup → Value
key_of g = view g.key

-- it has the bodies of those of the documents that have its key
abbrev pub IsGroup : Operand → Documents → KeyGroup → Type 0
IsGroup o ds g = IsFaithful (key_of g) × AreLent g.bodies.items (of_key o (key_of g) ds)

-- the documents are in these groups
pub record AreGrouped (o : Operand) (ds : Documents) (gs : List KeyGroup) : Type 0 where
  pub once : IsEachOnce order (map (key_in o) ds) (map key_of gs)
  pub each : AllByRecursion (IsGroup o ds) gs

-- ---- what is made of them

-- it is seen as the definition says, and P holds of that; or memory ran out
abbrev pub Returns : {A B : Type 0} → (A → B) → (B → Type 0) → Result A UpdateError → Result B UpdateError → Type 0
Returns seen P (Ok a) says = (says ≡ Ok (seen a)) × P (seen a)
Returns seen P (Err e) says = (says ≡ Err e) ⊎ (e ≡ Memory)

abbrev pub contents : Vec Document Global → Documents
contents documents = map content documents.items

abbrev pub ReturnsValue : Result Bson UpdateError → Result Value UpdateError → Type 0
ReturnsValue = Returns view IsFaithful

abbrev pub ReturnsDocument : Result Document UpdateError → Result Members UpdateError → Type 0
ReturnsDocument = Returns content (λ d. IsFaithful (document d))

abbrev pub ReturnsDocuments : Result (Vec Document Global) UpdateError → Result Documents UpdateError → Type 0
ReturnsDocuments = Returns contents AreFaithful
