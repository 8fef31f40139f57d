-- Pairs with their values in the normal form, and with the keys inside their values in order.
use Rattle.bson_base.specs.Value.{Value}
use Rattle.bson_model.specs.Keyed.{Key}
use Rattle.bson_meaning.specs.Meaning.{norm, asc}

abbrev pub normal_pair : Key × Value → Key × Value
normal_pair p = (p.0, norm p.1)

abbrev pub sorted_pair : Key × Value → Key × Value
sorted_pair p = (p.0, asc p.1)
