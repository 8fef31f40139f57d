-- Why what the options of a command line want can't be read.
use Rattle.std.proofs.Common.{◌≡◌, ℕ, true, false, List, Option, inr, refl}
use Rattle.fallowtime_words.specs.declared.words.Words.{Words as Wording}
use Rattle.store_pipeline.specs.Bodies.{keys_of}
use Rattle.store_pipeline.specs.declared.sorted.arrangement.Arrangement.{Arrangement}
use Rattle.fallowtime_requests.specs.Arranging.{ReadsSort, StopsFields, StopsSort, StopsWanted, text_in}
use Rattle.fallowtime_requests.specs.Plain.{are_plainly}
use Rattle.fallowtime_requests.specs.declared.stop.Stop.{Stop}
use Rattle.fallowtime_requests.specs.declared.stop.Stop.TheVariants.{Words}
use Rattle.fallowtime_requests.specs.declared.unread.Unread.TheVariants as unread

-- a path of the order isn't plain
pub unplain : (sort : Option (List ℕ)) (a : Arrangement) → ReadsSort sort (keys_of a.keys.items) → are_plainly (keys_of a.keys.items) ≡ false → StopsSort sort (Words unread.Options)
unplain sort a reads plain = inr ((keys_of a.keys.items, reads, plain), refl)

-- the order can be read, and the fields can't
pub no_fields : (w : Wording) (a : Arrangement) (s : Stop) → ReadsSort (text_in w.sort) (keys_of a.keys.items) → are_plainly (keys_of a.keys.items) ≡ true → StopsFields (text_in w.fields) (text_in w.without) s → StopsWanted w s
no_fields w a s reads plain stops = inr ((keys_of a.keys.items, reads, plain), stops)
