use Rattle.std.proofs.Common.{◌∙◌}
use Rattle.bson_bytes.proofs.LengthLemmas.{encode_length}
use Rattle.bson_meaning.specs.Meaning.{norm_members_in_order}
use Rattle.bson_meaning.proofs.NowLemmas.{key_size}
use Rattle.bson_meaning.proofs.laws.keys_keep_sizes.Goals as goal

pub returns : goal.returns
returns c = record { bytes = λ d p s. encode_length (norm_members_in_order d) ∙ key_size d p s; trees = key_size }
