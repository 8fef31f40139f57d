use Rattle.bson_model.specs.declared.extjson.ser.Mode.TheVariants.{Canonical}
use Rattle.bson_json.proofs.ReadBackLemmas.{value_back, top_back}
use Rattle.bson_json.proofs.laws.canonical_trees_read_back.Goals as goal

pub returns : goal.returns
returns c = record {
  value = λ v j s r w. value_back Canonical _ v s.ranged s.distinct r j w;
  top = top_back Canonical;
}
