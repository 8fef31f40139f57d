use Rattle.bson_model.specs.declared.extjson.ser.Mode.TheVariants.{Relaxed}
use Rattle.bson_json.proofs.ReadBackLemmas.{value_back, top_back}
use Rattle.bson_json.proofs.laws.relaxed_trees_read_back.Goals as goal

pub returns : goal.returns
returns c = record {
  value = λ v j s r w. value_back Relaxed _ v s.ranged s.distinct r j w;
  top = top_back Relaxed;
}
