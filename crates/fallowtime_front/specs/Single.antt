-- Which requests are changes of one document.
use Rattle.std.specs.Prelude.{Bool, true, false}
use Rattle.fallowtime_requests.specs.declared.request.Request.{Request}
use Rattle.fallowtime_requests.specs.declared.request.Request.TheVariants as request

-- it changes the one document that has an `_id`, under a top key or as a whole
abbrev pub is_of_one : Request → Bool
is_of_one (request.Insert id given) = true
is_of_one (request.Put given) = true
is_of_one (request.Replace given) = true
is_of_one (request.Set id key value) = true
is_of_one (request.Unset id key) = true
is_of_one (request.Remove id) = true
is_of_one _ = false
