-- Identifiers: Python Language Reference, section 2.3. The subset has those that are in NFKC as they are written.
use Rattle.std.specs.Prelude.{ℕ, Bool, false, ◌&&◌, ◌||◌, ◌==◌, List, [], ◌∷◌, IsTrue}
use Rattle.std.specs.List.{list_all}
use Rattle.unicode_ident.specs.Ident.{is_xid_start, is_xid_continue}
use Rattle.unicode_normalization.specs.Forms.{IsInForm, Nfkc}

-- an identifier may begin with the character: `_`, or one with XID_Start
abbrev pub is_identifier_start : ℕ → Bool
is_identifier_start c = is_xid_start c || (c == 95)

-- an identifier may go on with the character
abbrev pub is_identifier_continue : ℕ → Bool
is_identifier_continue = is_xid_continue

-- the characters are spelled as an identifier, whatever their normalization form
abbrev pub is_spelled_as_identifier : List ℕ → Bool
is_spelled_as_identifier [] = false
is_spelled_as_identifier (c ∷ cs) = is_identifier_start c && list_all is_identifier_continue cs

-- the characters are an identifier, in NFKC
pub record IsIdentifier (cs : List ℕ) : Type 0 where
  pub spelled : IsTrue (is_spelled_as_identifier cs)
  pub normal : IsInForm Nfkc cs
