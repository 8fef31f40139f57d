-- What filters and paths stand for.
use Rattle.std.specs.Prelude.{List, [], ◌∷◌, map, String, string_bytes}
use Rattle.std.specs.declared.alloc.Global.{Global}
use Rattle.store_question.specs.declared.filter.Filter.{Filter, fold-Filter}
use Rattle.store_question.specs.declared.filter.Filter.TheOpen.{Filter-F}
use Rattle.bson_model.specs.View.{view}
use Rattle.store_model.specs.Filter.{Filter as Test, equals, exists, is_of, no, all_of, any_of, Filters, no_filters, filter, Path}

-- the keys of a path, each as its bytes
abbrev pub path_of : List (String Global) → Path
path_of keys = map string_bytes keys

-- the filters, in their order
abbrev pub tests_of : List Test → Filters
tests_of [] = no_filters
tests_of (f ∷ fs) = filter f (tests_of fs)

-- one level, with each filter inside already seen as its test
abbrev pub filter_step : Filter-F Test → Test
filter_step (Filter-F.Eq path v) = equals (path_of path.items) (view v)
filter_step (Filter-F.Exists path) = exists (path_of path.items)
filter_step (Filter-F.Kind path k) = is_of (path_of path.items) k
filter_step (Filter-F.Not f) = no f.value
filter_step (Filter-F.And fs) = all_of (tests_of fs.items)
filter_step (Filter-F.Or fs) = any_of (tests_of fs.items)

-- the test on documents that a filter is
abbrev pub filter_of : Filter → Test
filter_of = fold-Filter Test filter_step
