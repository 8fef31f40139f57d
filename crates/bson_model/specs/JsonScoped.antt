-- The parts of an object that is a code with its scope.
use Rattle.std.specs.Prelude.{ℕ, List, Result, Ok}
use Rattle.serde_json.specs.Data as json
use Rattle.serde_json.specs.Data.{Data}
use Rattle.bson_base.specs.Answer.{◌>>=◌}
use Rattle.bson_model.specs.JsonKeys.{key_of, of_code, scope_key}
use Rattle.bson_model.specs.JsonRead.{bodies_in, text_of}
use Rattle.bson_model.specs.declared.extjson.de.Error.{Error}

-- the text of the code and the tree of the scope, if the object has no other key
abbrev pub scoped_parts : json.Members → Result (List ℕ × Data) Error
scoped_parts js = bodies_in (key_of of_code) scope_key js >>= λ p. text_of p.0 >>= λ t. Ok (t, p.1)
