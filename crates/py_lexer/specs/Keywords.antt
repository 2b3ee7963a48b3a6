-- The keywords (Language Reference, 2.3.1).
use Rattle.std.specs.Prelude.{ℕ, List, length, slice_index, ◌==◌, ◌&&◌, Option, Some, None, codes, if◌then◌else◌}
use Rattle.std.specs.Str.{bytes_eq}
use Rattle.py_lexer.specs.Spellings.{is_spelled}
use Rattle.py_lexer.specs.declared.token.Kind.{Kind}
use Rattle.py_lexer.specs.declared.token.Kind.TheVariants as kinds

-- the keyword of these bytes
abbrev pub keyword_of : List ℕ → Option Kind
keyword_of name =
    if bytes_eq name (codes "False") then Some kinds.False else (
    if bytes_eq name (codes "None") then Some kinds.None else (
    if bytes_eq name (codes "True") then Some kinds.True else (
    if bytes_eq name (codes "and") then Some kinds.And else (
    if bytes_eq name (codes "as") then Some kinds.As else (
    if bytes_eq name (codes "assert") then Some kinds.Assert else (
    if bytes_eq name (codes "async") then Some kinds.Async else (
    if bytes_eq name (codes "await") then Some kinds.Await else (
    if bytes_eq name (codes "break") then Some kinds.Break else (
    if bytes_eq name (codes "class") then Some kinds.Class else (
    if bytes_eq name (codes "continue") then Some kinds.Continue else (
    if bytes_eq name (codes "def") then Some kinds.Def else (
    if bytes_eq name (codes "del") then Some kinds.Del else (
    if bytes_eq name (codes "elif") then Some kinds.Elif else (
    if bytes_eq name (codes "else") then Some kinds.Else else (
    if bytes_eq name (codes "except") then Some kinds.Except else (
    if bytes_eq name (codes "finally") then Some kinds.Finally else (
    if bytes_eq name (codes "for") then Some kinds.For else (
    if bytes_eq name (codes "from") then Some kinds.From else (
    if bytes_eq name (codes "global") then Some kinds.Global else (
    if bytes_eq name (codes "if") then Some kinds.If else (
    if bytes_eq name (codes "import") then Some kinds.Import else (
    if bytes_eq name (codes "in") then Some kinds.In else (
    if bytes_eq name (codes "is") then Some kinds.Is else (
    if bytes_eq name (codes "lambda") then Some kinds.Lambda else (
    if bytes_eq name (codes "nonlocal") then Some kinds.Nonlocal else (
    if bytes_eq name (codes "not") then Some kinds.Not else (
    if bytes_eq name (codes "or") then Some kinds.Or else (
    if bytes_eq name (codes "pass") then Some kinds.Pass else (
    if bytes_eq name (codes "raise") then Some kinds.Raise else (
    if bytes_eq name (codes "return") then Some kinds.Return else (
    if bytes_eq name (codes "try") then Some kinds.Try else (
    if bytes_eq name (codes "while") then Some kinds.While else (
    if bytes_eq name (codes "with") then Some kinds.With else (
    if bytes_eq name (codes "yield") then Some kinds.Yield else (
    None)))))))))))))))))))))))))))))))))))

-- the keyword, if the characters are its word
abbrev pub if_spelled : List ℕ → List ℕ → Kind → Option Kind
if_spelled text word keyword = if is_spelled text word then Some keyword else None

-- the keyword of two letters with these at its ends
abbrev pub two_letters : List ℕ → ℕ → ℕ → Option Kind
two_letters text first last =
    if (first == 97) && (last == 115) then if_spelled text (codes "as") kinds.As else (
    if (first == 105) && (last == 102) then if_spelled text (codes "if") kinds.If else (
    if (first == 105) && (last == 110) then if_spelled text (codes "in") kinds.In else (
    if (first == 105) && (last == 115) then if_spelled text (codes "is") kinds.Is else (
    if (first == 111) && (last == 114) then if_spelled text (codes "or") kinds.Or else (
    None)))))

-- the keyword of three letters with these at its ends
abbrev pub three_letters : List ℕ → ℕ → ℕ → Option Kind
three_letters text first last =
    if (first == 97) && (last == 100) then if_spelled text (codes "and") kinds.And else (
    if (first == 100) && (last == 102) then if_spelled text (codes "def") kinds.Def else (
    if (first == 100) && (last == 108) then if_spelled text (codes "del") kinds.Del else (
    if (first == 102) && (last == 114) then if_spelled text (codes "for") kinds.For else (
    if (first == 110) && (last == 116) then if_spelled text (codes "not") kinds.Not else (
    if (first == 116) && (last == 121) then if_spelled text (codes "try") kinds.Try else (
    None))))))

-- the keyword of four letters with these at its ends
abbrev pub four_letters : List ℕ → ℕ → ℕ → Option Kind
four_letters text first last =
    if (first == 78) && (last == 101) then if_spelled text (codes "None") kinds.None else (
    if (first == 84) && (last == 101) then if_spelled text (codes "True") kinds.True else (
    if (first == 101) && (last == 102) then if_spelled text (codes "elif") kinds.Elif else (
    if (first == 101) && (last == 101) then if_spelled text (codes "else") kinds.Else else (
    if (first == 102) && (last == 109) then if_spelled text (codes "from") kinds.From else (
    if (first == 112) && (last == 115) then if_spelled text (codes "pass") kinds.Pass else (
    if (first == 119) && (last == 104) then if_spelled text (codes "with") kinds.With else (
    None)))))))

-- the keyword of five letters with these at its ends
abbrev pub five_letters : List ℕ → ℕ → ℕ → Option Kind
five_letters text first last =
    if (first == 70) && (last == 101) then if_spelled text (codes "False") kinds.False else (
    if (first == 97) && (last == 99) then if_spelled text (codes "async") kinds.Async else (
    if (first == 97) && (last == 116) then if_spelled text (codes "await") kinds.Await else (
    if (first == 98) && (last == 107) then if_spelled text (codes "break") kinds.Break else (
    if (first == 99) && (last == 115) then if_spelled text (codes "class") kinds.Class else (
    if (first == 114) && (last == 101) then if_spelled text (codes "raise") kinds.Raise else (
    if (first == 119) && (last == 101) then if_spelled text (codes "while") kinds.While else (
    if (first == 121) && (last == 100) then if_spelled text (codes "yield") kinds.Yield else (
    None))))))))

-- the keyword of six letters with these at its ends
abbrev pub six_letters : List ℕ → ℕ → ℕ → Option Kind
six_letters text first last =
    if (first == 97) && (last == 116) then if_spelled text (codes "assert") kinds.Assert else (
    if (first == 101) && (last == 116) then if_spelled text (codes "except") kinds.Except else (
    if (first == 103) && (last == 108) then if_spelled text (codes "global") kinds.Global else (
    if (first == 105) && (last == 116) then if_spelled text (codes "import") kinds.Import else (
    if (first == 108) && (last == 97) then if_spelled text (codes "lambda") kinds.Lambda else (
    if (first == 114) && (last == 110) then if_spelled text (codes "return") kinds.Return else (
    None))))))

-- the keyword of seven letters with these at its ends
abbrev pub seven_letters : List ℕ → ℕ → ℕ → Option Kind
seven_letters text first last =
    if (first == 102) && (last == 121) then if_spelled text (codes "finally") kinds.Finally else (
    None)

-- the keyword of eight letters with these at its ends
abbrev pub eight_letters : List ℕ → ℕ → ℕ → Option Kind
eight_letters text first last =
    if (first == 99) && (last == 101) then if_spelled text (codes "continue") kinds.Continue else (
    if (first == 110) && (last == 108) then if_spelled text (codes "nonlocal") kinds.Nonlocal else (
    None))

-- the keyword that these characters are, by their number and their ends
abbrev pub keyword_like : List ℕ → Option Kind
keyword_like text =
    if length text == 2 then two_letters text (slice_index text 0) (slice_index text 1) else (
    if length text == 3 then three_letters text (slice_index text 0) (slice_index text 2) else (
    if length text == 4 then four_letters text (slice_index text 0) (slice_index text 3) else (
    if length text == 5 then five_letters text (slice_index text 0) (slice_index text 4) else (
    if length text == 6 then six_letters text (slice_index text 0) (slice_index text 5) else (
    if length text == 7 then seven_letters text (slice_index text 0) (slice_index text 6) else (
    if length text == 8 then eight_letters text (slice_index text 0) (slice_index text 7) else (
    None)))))))
