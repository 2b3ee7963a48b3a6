-- The logical line, the statement and the expression that a run of tokens ends in, and the block round them (Language Reference,
-- 2.1, 7 and 8). The run is one with which a file of the subset begins.
use Rattle.std.specs.Prelude.{ℕ, Bool, true, false, ◌+◌, ◌-◌, ◌==◌, ◌&&◌, not, List, [], ◌∷◌, map, reverse, Option, Some, None, if◌then◌else◌}
use Rattle.py_lexer.specs.declared.token.Kind.{Kind}
use Rattle.py_lexer.specs.declared.token.Kind.TheVariants as kinds
use Rattle.py_lexer.specs.declared.token.Token.{Token}
use Rattle.py_forms.specs.declared.part.Parting.{Parting}
use Rattle.py_forms.specs.declared.part.Parting.TheVariants as partings
use Rattle.py_forms.specs.declared.block.Block.{Block}
use Rattle.py_forms.specs.declared.block.Block.TheVariants as blocks

-- ---- brackets

-- with so many brackets open, so many are behind the token; a formatted string is one, and each of its fields
unfoldable pub nested : ℕ → Kind → ℕ
nested n kinds.LeftParen = n + 1
nested n kinds.LeftBracket = n + 1
nested n kinds.LeftBrace = n + 1
nested n kinds.FieldOpen = n + 1
nested n kinds.FStringStart = n + 1
nested n kinds.RightParen = n - 1
nested n kinds.RightBracket = n - 1
nested n kinds.RightBrace = n - 1
nested n kinds.FieldClose = n - 1
nested n kinds.FStringEnd = n - 1
nested n _ = n

-- ---- what parts a run

-- an operator with "="
unfoldable pub is_augmented : Kind → Bool
is_augmented kinds.PlusEqual = true
is_augmented kinds.MinusEqual = true
is_augmented kinds.StarEqual = true
is_augmented kinds.SlashEqual = true
is_augmented kinds.DoubleSlashEqual = true
is_augmented kinds.PercentEqual = true
is_augmented kinds.AtEqual = true
is_augmented kinds.AmpersandEqual = true
is_augmented kinds.BarEqual = true
is_augmented kinds.CaretEqual = true
is_augmented kinds.RightShiftEqual = true
is_augmented kinds.LeftShiftEqual = true
is_augmented kinds.DoubleStarEqual = true
is_augmented _ = false

-- lines, the simple statements of a line, a header and its block, the names of a loop and what is gone over, the expressions of
-- a statement, the sides of an assignment, its targets, what is no assignment of values alone, and the parts of a function's header
unfoldable pub parts : Parting → Kind → Bool
parts partings.Lines kinds.Newline = true
parts partings.Lines kinds.Indent = true
parts partings.Lines kinds.Dedent = true
parts partings.Simples kinds.Semicolon = true
parts partings.Header kinds.Colon = true
parts partings.Loop kinds.In = true
parts partings.Expressions kinds.Comma = true
parts partings.Sides kinds.Comma = true
parts partings.Sides kinds.Equal = true
parts partings.Sides kinds.Colon = true
parts partings.Sides kind = is_augmented kind
parts partings.Targets kinds.Equal = true
parts partings.Others kinds.Colon = true
parts partings.Others kind = is_augmented kind
parts partings.Parameters kinds.RightParen = true
parts partings.Signature kinds.Comma = true
parts partings.Signature kinds.Equal = true
parts partings.Signature kinds.Colon = true
parts partings.Signature kinds.Arrow = true
parts _ _ = false

-- what stands behind the first token that parts, outside of brackets
unfoldable pub behind_first : Parting → ℕ → List Token → Option (List Token)
behind_first p n [] = None
behind_first p n (t ∷ ts) = if (n == 0) && parts p t.kind then Some ts else behind_first p (nested n t.kind) ts

-- what stands behind the last one, or all where there is none
unfoldable pub behind_last : Parting → ℕ → List Token → List Token → List Token
behind_last p n all [] = all
behind_last p n all (t ∷ ts) = if (n == 0) && parts p t.kind then behind_last p 0 ts ts else behind_last p (nested n t.kind) all ts

abbrev pub last_part : Parting → List Token → List Token
last_part p ts = behind_last p 0 ts ts

-- ---- lines and statements

abbrev pub line : List Token → List Token
line run = last_part partings.Lines run

-- the words that begin a statement with a block
unfoldable pub begins_header : Kind → Bool
begins_header kinds.If = true
begins_header kinds.Elif = true
begins_header kinds.Else = true
begins_header kinds.While = true
begins_header kinds.For = true
begins_header kinds.Def = true
begins_header kinds.Class = true
begins_header _ = false

-- what stands behind the ":" of the line's header, if the line has one
abbrev pub behind_header : List Token → Option (List Token)
behind_header [] = None
behind_header (t ∷ ts) = if begins_header t.kind then behind_first partings.Header 0 ts else None

abbrev pub statement_of : Option (List Token) → List Token → List Token
statement_of (Some block) line = last_part partings.Simples block
statement_of None line = last_part partings.Simples line

-- the statement that the run ends in: empty where none has begun
unfoldable pub statement : List Token → List Token
statement run = statement_of (behind_header (line run)) (line run)

-- ---- blocks

unfoldable pub kinds_back : List Token → List Kind
kinds_back tokens = reverse (map (λ t. t.kind) tokens)

-- the first word of the line that ends here; k stands behind it
unfoldable pub first_word : Kind → List Kind → Kind
first_word k [] = k
first_word k (j ∷ back) = if parts partings.Lines j then k else first_word j back

-- the first word of the statement whose block begins with the INDENT behind this
abbrev pub opened_by : List Kind → Option Kind
opened_by (kinds.Newline ∷ back) = Some (first_word kinds.Newline back)
opened_by _ = None

abbrev pub is_indent : Kind → Bool
is_indent kinds.Indent = true
is_indent _ = false

abbrev pub is_dedent : Kind → Bool
is_dedent kinds.Dedent = true
is_dedent _ = false

-- the first word of the statement whose indented block is open here, from the end of a run on back, behind so many blocks that
-- close again
unfoldable pub owner : ℕ → List Kind → Option Kind
owner n [] = None
owner n (k ∷ back) =
    if is_dedent k then owner (n + 1) back else (if is_indent k then (if n == 0 then opened_by back else owner (n - 1) back) else owner n back)

abbrev pub block_by : Option Kind → Block
block_by None = blocks.File
block_by (Some kinds.Class) = blocks.Class
block_by (Some _) = blocks.Other

abbrev pub first_kind : List Token → Option Kind
first_kind [] = None
first_kind (t ∷ ts) = Some t.kind

-- the block in which the statement stands: one on the line of its header, or an indented one
abbrev pub block_of : Option (List Token) → List Token → Block
block_of (Some behind) run = block_by (first_kind (line run))
block_of None run = block_by (owner 0 (kinds_back run))

unfoldable pub block : List Token → Block
block run = block_of (behind_header (line run)) run
