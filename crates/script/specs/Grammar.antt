-- The commands of a script, each by what spells it.
use Rattle.std.specs.Prelude.{◌≡◌, ◌≢◌, ◌+◌, ◌<◌, ◌≤◌, ◌^◌, ◌==◌, ◌||◌, ◌&&◌, ℕ, Bool, true, nat_le, List, [], ◌∷◌, ◌++◌, length, codes, decimal, All, Some}
use Rattle.std.specs.Str.{IsUtf8}
use Rattle.script.specs.declared.command.Command.{Command}
use Rattle.script.specs.declared.command.Command.TheVariants.{Put, Drop, Ask, Sync, Run, End}
use Rattle.script.specs.declared.command.Query.{Query}
use Rattle.script.specs.declared.command.Query.TheVariants.{Issues, IssuesOf, Model, Trace, Notes, Version}
use Rattle.script.specs.Runs.{run_in}

-- a space, and the end of a line
abbrev pub space : ℕ
space = 32

abbrev pub line_end : ℕ
line_end = 10

abbrev pub IsWithin : ℕ → ℕ → ℕ → Type 0
IsWithin low high n = (low ≤ n) × (n ≤ high)

-- a letter, a digit, or one of `_-./`
abbrev pub is_path_byte : ℕ → Bool
is_path_byte b = (nat_le 97 b && nat_le b 122) || (nat_le 65 b && nat_le b 90) || (nat_le 45 b && nat_le b 57) || (b == 95)

abbrev pub path_limit : ℕ
path_limit = 255

-- 1 to 255 such bytes
pub record IsPath (path : List ℕ) : Type 0 where
  pub bytes : All (λ b. is_path_byte b ≡ true) path
  pub len : IsWithin 1 path_limit (length path)

-- a text of 1 to 4,096 bytes, each above the space
pub record IsName (name : List ℕ) : Type 0 where
  pub bytes : All (λ b. space < b) name
  pub len : IsWithin 1 4096 (length name)
  pub text : IsUtf8 name

-- a line of at most so many bytes
pub record IsLine (limit : ℕ) (line : List ℕ) : Type 0 where
  pub bytes : All (λ b. b ≢ line_end) line
  pub len : length line ≤ limit

abbrev pub json_limit : ℕ
json_limit = 1048576

abbrev pub name_limit : ℕ
name_limit = 4096

-- what a query adds to `ask S `, up to the line's end; numbers are decimal, without leading zeros
abbrev pub SpellsQuery : List ℕ → Query → Type 0
SpellsQuery text Issues = text ≡ codes "issues"
SpellsQuery text (IssuesOf path) = IsPath path × (text ≡ codes "issues " ++ path)
SpellsQuery text (Model name) = IsName name × (text ≡ codes "model " ++ name)
SpellsQuery text (Trace number) = IsWithin 1 4294967295 number × (text ≡ codes "trace " ++ decimal number)
SpellsQuery text Notes = text ≡ codes "notes"
SpellsQuery text Version = text ≡ codes "version"

-- the line of a `put`
abbrev pub put_line : List ℕ → ℕ → List ℕ
put_line path len = codes "put " ++ path ++ space ∷ decimal len ++ line_end ∷ []

-- the text, which begins at the place `at`, spells the command
abbrev pub Spells : ℕ → List ℕ → Command → Type 0
Spells at text (Put path from len) =
    IsPath path × (len < 2 ^ 32) × (from ≡ at + length (put_line path len))
    × (body : List ℕ) × (length body ≡ len) × (text ≡ put_line path len ++ body ++ line_end ∷ [])
Spells at text (Drop path) = IsPath path × (text ≡ codes "drop " ++ path ++ line_end ∷ [])
Spells at text (Ask session query) =
    IsWithin 1 16 session × (question : List ℕ) × SpellsQuery question query
    × (text ≡ codes "ask " ++ decimal session ++ space ∷ question ++ line_end ∷ [])
Spells at text Sync = text ≡ codes "sync\n"
Spells at text (Run fuel calls draws) =
    IsWithin 1 1000000 fuel × (json : List ℕ) × IsLine json_limit json × (run_in json ≡ Some (calls, draws))
    × (text ≡ codes "run " ++ decimal fuel ++ space ∷ json ++ line_end ∷ [])
Spells at text End = text ≡ codes "end\n"
