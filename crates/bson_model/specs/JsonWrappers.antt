-- The reserved keys as the reader tells them apart.
use Rattle.bson_model.specs.JsonKeys.{Reserved, of_id, of_symbol, of_regex, of_int, of_long, of_double, of_decimal, of_binary, of_uuid, of_code, of_timestamp, of_date, of_min, of_max, of_pointer, of_undefined}
use Rattle.bson_model.specs.declared.extjson.de.keys.Wrapper.{Wrapper}
use Rattle.bson_model.specs.declared.extjson.de.keys.Wrapper.TheVariants as wrapper

-- the reserved key that a wrapper has
abbrev pub reserved_key : Wrapper → Reserved
reserved_key wrapper.Oid = of_id
reserved_key wrapper.Symbol = of_symbol
reserved_key wrapper.RegularExpression = of_regex
reserved_key wrapper.NumberInt = of_int
reserved_key wrapper.NumberLong = of_long
reserved_key wrapper.NumberDouble = of_double
reserved_key wrapper.NumberDecimal = of_decimal
reserved_key wrapper.Binary = of_binary
reserved_key wrapper.Uuid = of_uuid
reserved_key wrapper.Code = of_code
reserved_key wrapper.Timestamp = of_timestamp
reserved_key wrapper.Date = of_date
reserved_key wrapper.MinKey = of_min
reserved_key wrapper.MaxKey = of_max
reserved_key wrapper.DbPointer = of_pointer
reserved_key wrapper.Undefined = of_undefined
