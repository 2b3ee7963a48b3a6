-- The names of sources and sinks, and their numbers.
use Rattle.std.specs.Prelude.{ℕ, ◌+◌, ◌==◌, ◌||◌, ◌&&◌, Bool, false, nat_le, List, [], ◌∷◌, length, position, Option, Some, None, option_map, if◌then◌else◌}
use Rattle.std.specs.List.{list_all}
use Rattle.std.specs.Char.{is_ascii_alphabetic, is_ascii_alphanumeric}
use Rattle.rv_names.specs.Keys.{Bytes, bytes_equal}

-- an identifier within ASCII: a letter or `_`, and then letters, digits and `_` (Python Language Reference, section 2.3)
abbrev pub begins_kind : ℕ → Bool
begins_kind c = is_ascii_alphabetic c || (c == 95)

abbrev pub continues_kind : ℕ → Bool
continues_kind c = is_ascii_alphanumeric c || (c == 95)

abbrev pub is_ascii_identifier : Bytes → Bool
is_ascii_identifier [] = false
is_ascii_identifier (c ∷ cs) = begins_kind c && list_all continues_kind cs

-- the name of a source or a sink: such an identifier of at most 64 characters
unfoldable pub is_kind : Bytes → Bool
is_kind name = nat_le (length name) 64 && is_ascii_identifier name

-- the text, where it is one
abbrev pub kind_of : Bytes → Option Bytes
kind_of text = if is_kind text then Some text else None

-- the number of a name in a list whose first has the number `first`
abbrev pub number_from : ℕ → List Bytes → Bytes → Option ℕ
number_from first names name = option_map (λ k. first + k) (position (bytes_equal name) names)
