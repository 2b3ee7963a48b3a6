-- The calls and draws that a JSON text spells, over the values that `serde_json` reads.
use Rattle.std.specs.Prelude.{ℕ, ℤ, pos, List, [], ◌∷◌, Option, Some, None, if◌then◌else◌, option_map, option_and_then}
use Rattle.std.specs.Str.{is_utf8}
use Rattle.serde_json.specs.Data.{Num, unsigned, negative, float, Data, null, boolean, number, string, array, object, Items, no_items, item, Members, no_members, member}
use Rattle.serde_json.specs.Find.{as_array, as_str}
use Rattle.serde_json.specs.Read.{read}
use Rattle.serde_json.specs.View.{view}
use Rattle.serde_json.specs.declared.value.Value.{Value}
use Rattle.std.specs.Borrow.{Bor}
use Rattle.script.specs.declared.values.Plain.{Plain}
use Rattle.script.specs.declared.values.Plain.TheVariants.{Int, Str, Truth, Nothing, External}
use Rattle.script.specs.declared.values.Entry.{Entry}

-- a whole number of 64 bits, with a sign or without one
abbrev pub plain_of_number : Num → Option Plain
plain_of_number (unsigned n) = Some (Int (pos n))
plain_of_number (negative z) = Some (Int z)
plain_of_number (float f) = None

-- the same, of what a number is with a sign and without one
abbrev pub whole_of : Option ℤ → Option ℕ → Option Plain
whole_of (Some z) n = Some (Int z)
whole_of None (Some n) = Some (Int (pos n))
whole_of None None = None

-- two values as their data
abbrev pub view_pair : (Bor Value × Bor Value) → Data × Data
view_pair p = (view p.0.now, view p.1.now)

-- `{}` is an external object, and no other object
abbrev pub external_of : Members → Option Plain
external_of no_members = Some External
external_of (member k d ms) = None

-- no list is a plain value
abbrev pub plain_of : Data → Option Plain
plain_of null = Some Nothing
plain_of (boolean b) = Some (Truth b)
plain_of (number n) = plain_of_number n
plain_of (string s) = Some (Str s)
plain_of (array ds) = None
plain_of (object ms) = external_of ms

-- what each item gives, where each of them gives something
abbrev pub each : {A : Type 0} → (Data → Option A) → Items → Option (List A)
each f no_items = Some []
each f (item d ds) = option_and_then (λ x. option_map (λ xs. x ∷ xs) (each f ds)) (f d)

-- a list of plain values
abbrev pub values_of : Data → Option (List Plain)
values_of d = option_and_then (each plain_of) (as_array d)

-- the items of a list of two
abbrev pub pair_in : Items → Option (Data × Data)
pair_in no_items = None
pair_in (item a no_items) = None
pair_in (item a (item b no_items)) = Some (a, b)
pair_in (item a (item b (item c ds))) = None

abbrev pub pair_of : Data → Option (Data × Data)
pair_of d = option_and_then pair_in (as_array d)

-- a list of two: a name, and a list of plain values
abbrev pub entry_of : Data → Option Entry
entry_of d = option_and_then (λ p. option_and_then (λ name. option_map (λ ps. record { name = name; args = ps }) (values_of p.1)) (as_str p.0)) (pair_of d)

-- a list of calls
abbrev pub calls_of : Data → Option (List Entry)
calls_of d = option_and_then (each entry_of) (as_array d)

-- a list of two: calls and draws
abbrev pub run_of : Data → Option (List Entry × List Plain)
run_of d = option_and_then (λ p. option_and_then (λ es. option_map (λ ps. (es, ps)) (values_of p.1)) (calls_of p.0)) (pair_of d)

-- the value that a JSON text in UTF-8 spells
unfoldable pub value_in : List ℕ → Option Data
value_in json = if is_utf8 json then read json else None

-- the calls and draws that it spells
abbrev pub run_in : List ℕ → Option (List Entry × List Plain)
run_in json = option_and_then run_of (value_in json)
