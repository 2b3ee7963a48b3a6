-- What stands at the fields of a JSON object.
use Rattle.std.specs.Prelude.{ℕ, ◌^◌, nat_lt, List, [], ◌∷◌, Option, Some, None, option_map, option_and_then, unwrap_or, if◌then◌else◌}
use Rattle.serde_json.specs.Data.{Data, Items, no_items, item, Members, no_members, member}
use Rattle.serde_json.specs.Find.{get, as_str, as_array, as_object, as_number, as_u64}
use Rattle.rv_names.specs.Keys.{Bytes}
use Rattle.taint_config.specs.Kinds.{kind_of}

-- the values of an array
abbrev pub values : Items → List Data
values no_items = []
values (item d ds) = d ∷ values ds

abbrev pub as_list : Data → Option (List Data)
as_list d = option_map values (as_array d)

-- a string that is the name of a source or a sink
abbrev pub as_kind : Data → Option Bytes
as_kind d = option_and_then kind_of (as_str d)

-- a whole number from 0 to 4,294,967,295: neither `-0` nor `1.0` nor `1e3` is spelled as one
abbrev pub code_within : ℕ → Option ℕ
code_within n = if nat_lt n (2 ^ 32) then Some n else None

abbrev pub as_code : Data → Option ℕ
as_code d = option_and_then code_within (option_and_then as_u64 (as_number d))

-- the keys of an object, in order
abbrev pub member_keys : Members → List Bytes
member_keys no_members = []
member_keys (member key d ms) = key ∷ member_keys ms

abbrev pub keys_of : Data → List Bytes
keys_of d = unwrap_or (option_map member_keys (as_object d)) []

-- what stands at a key, where it is of that type
abbrev pub text_at : Bytes → Data → Option Bytes
text_at key d = option_and_then as_str (get key d)

abbrev pub code_at : Bytes → Data → Option ℕ
code_at key d = option_and_then as_code (get key d)

-- the values of a list, and none of another value
abbrev pub values_in : Data → List Data
values_in d = unwrap_or (as_list d) []

-- the list at a key, or none
abbrev pub list_in : Option Data → List Data
list_in None = []
list_in (Some d) = values_in d

abbrev pub list_at : Bytes → Data → List Data
list_at key d = list_in (get key d)
