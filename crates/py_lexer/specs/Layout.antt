-- How the tokens of a text lie in it (Language Reference, 2.1): between them stand white space, comments, joined lines and
-- line ends alone, each stands where its characters do, and each is the longest possible.
use Rattle.std.specs.Prelude.{◌≡◌, ◌≢◌, ◌<◌, ◌≤◌, ◌⊎◌, ℕ, Bool, true, false, List, [], ◌∷◌, ◌++◌, length, take, drop, pos, Option, Some, None, Ok, IsTrue, encode_utf8_all, if◌then◌else◌}
use Rattle.std.specs.List.{list_all}
use Rattle.rv_names.specs.Identifier.{is_spelled_as_identifier, IsIdentifier}
use Rattle.py_literals.specs.declared.place.Pos.{Pos}
use Rattle.py_literals.specs.declared.text.Opening.{Opening}
use Rattle.py_literals.specs.declared.text.StringKind.{StringKind}
use Rattle.py_literals.specs.Place.{after}
use Rattle.py_literals.specs.Grammar.{IsInteger, IsFloating, IsNumber}
use Rattle.py_literals.specs.Number.{integer_value}
use Rattle.py_literals.specs.Text.{opening, body_len}
use Rattle.py_literals.specs.Escape.{decoded}
use Rattle.py_lexer.specs.declared.token.Kind.{Kind}
use Rattle.py_lexer.specs.declared.token.Kind.TheVariants as kinds
use Rattle.py_lexer.specs.declared.token.Value.{Value}
use Rattle.py_lexer.specs.declared.token.Value.TheVariants as values
use Rattle.py_lexer.specs.declared.token.Token.{Token}
use Rattle.py_lexer.specs.Chars.{is_white, is_line_end, is_in_line}
use Rattle.py_lexer.specs.Keywords.{keyword_of}
use Rattle.py_lexer.specs.Operators.{sign, two_signs, three_signs}

-- the rest of a physical line is empty
abbrev pub at_line_end : List ℕ → Bool
at_line_end [] = true
at_line_end (c ∷ cs) = is_line_end c

-- what may stand between tokens, before rest: white space, line ends, joined lines (2.1.5), and comments, which go up to
-- the end of their physical line (2.1.3)
pub data IsGap (rest : List ℕ) : List ℕ → Type 0 where
  none : IsGap rest []
  white : {c : ℕ} {cs : List ℕ} → IsTrue (is_white c) → IsGap rest cs → IsGap rest (c ∷ cs)
  line_end : {cs : List ℕ} → IsGap rest cs → IsGap rest (10 ∷ cs)
  join : {cs : List ℕ} → IsGap rest cs → IsGap rest (92 ∷ 10 ∷ cs)
  comment : (ds : List ℕ) {cs : List ℕ} → IsTrue (list_all is_in_line ds) → IsTrue (at_line_end (cs ++ rest)) → IsGap rest cs → IsGap rest (35 ∷ (ds ++ cs))

-- the operator or delimiter of just these characters (2.5 and 2.6)
abbrev pub operator_of : List ℕ → Option Kind
operator_of [] = None
operator_of (a ∷ []) = sign a
operator_of (a ∷ b ∷ []) = two_signs a b
operator_of (a ∷ b ∷ c ∷ []) = three_signs a b c
operator_of (a ∷ b ∷ c ∷ d ∷ cs) = None

-- the closing quotes of a string of this kind
abbrev pub quotes_of : StringKind → List ℕ
quotes_of kind = if kind.triple then kind.quote ∷ kind.quote ∷ kind.quote ∷ [] else kind.quote ∷ []

-- the text is a string literal with this opening and this body, which ends at the first closing quotes (2.4.1)
pub record IsStringOf (o : Opening) (body text : List ℕ) : Type 0 where
  pub begins : opening text ≡ Some o
  pub parts : drop o.len text ≡ body ++ quotes_of o.kind
  pub first : body_len o.kind (drop o.len text) ≡ Some (length body)

-- the text is a string literal
pub record IsString (text : List ℕ) : Type 0 where
  pub opening_of : Opening
  pub body : List ℕ
  pub is : IsStringOf opening_of body text

-- what a token is spelled as: a keyword or an identifier (2.3), a number (2.4.4 to 2.4.7), a string or bytes literal (2.4.1),
-- an operator or delimiter (2.5, 2.6); or something else: the layout of lines, or a part of a formatted string
pub data TokenClass : Type 0 where
  Words : TokenClass
  Numbers : TokenClass
  Strings : TokenClass
  Operators : TokenClass
  Others : TokenClass

-- these characters, before rest, spell a token of this class, kind and value
pub data Spells (rest : List ℕ) : TokenClass → Kind → Value → List ℕ → Type 0 where
  keyword : {k : Kind} {text : List ℕ} → IsTrue (is_spelled_as_identifier text) → keyword_of (encode_utf8_all text) ≡ Some k → Spells rest Words k values.Nothing text
  name : {text : List ℕ} → IsIdentifier text → keyword_of (encode_utf8_all text) ≡ None → Spells rest Words kinds.Name (values.Name (encode_utf8_all text)) text
  whole : {text : List ℕ} → IsInteger text → Spells rest Numbers kinds.Number (values.Whole (pos (integer_value text))) text
  floating : {text : List ℕ} → IsFloating text → Spells rest Numbers kinds.Float values.Nothing text
  string : {o : Opening} {body text value : List ℕ} → IsStringOf o body text → o.kind.formatted ≡ false → o.kind.bytes ≡ false → decoded o.kind body ≡ Ok value →
      Spells rest Strings kinds.Text (values.Text (encode_utf8_all value)) text
  bytes : {o : Opening} {body text value : List ℕ} → IsStringOf o body text → o.kind.formatted ≡ false → o.kind.bytes ≡ true → decoded o.kind body ≡ Ok value →
      Spells rest Strings kinds.Bytes values.Nothing text
  operator : {k : Kind} {text : List ℕ} → operator_of text ≡ Some k → Spells rest Operators k values.Nothing text
  newline : Spells rest Others kinds.Newline values.Nothing (10 ∷ [])
  -- the end of a text ends its last line; a block begins or ends where a token stands, or at the end of the text (2.1.8)
  last_newline : rest ≡ [] → Spells rest Others kinds.Newline values.Nothing []
  indent : Spells rest Others kinds.Indent values.Nothing []
  dedent : Spells rest Others kinds.Dedent values.Nothing []
  -- prefix and opening quotes, texts, the braces of fields, closing quotes (2.4.3)
  formatted : {o : Opening} {text : List ℕ} → opening text ≡ Some o → o.kind.formatted ≡ true → length text ≡ o.len →
      Spells rest Others kinds.FStringStart values.Nothing text
  formatted_text : (kind : StringKind) {text value : List ℕ} → decoded kind text ≡ Ok value →
      Spells rest Others kinds.FStringText (values.Text (encode_utf8_all value)) text
  field_open : Spells rest Others kinds.FieldOpen values.Nothing (123 ∷ [])
  field_close : Spells rest Others kinds.FieldClose values.Nothing (125 ∷ [])
  formatted_end : (kind : StringKind) → Spells rest Others kinds.FStringEnd values.Nothing (quotes_of kind)

-- the text is a legal token: a word, a number, a string of any prefix, or an operator
pub data IsLegal (text : List ℕ) : Type 0 where
  a_word : IsTrue (is_spelled_as_identifier text) → IsLegal text
  a_number : IsNumber text → IsLegal text
  a_string : IsString text → IsLegal text
  an_operator : operator_of text ≢ None → IsLegal text

-- no front of cs longer than n characters is a legal token (2.1: a token is the longest possible string that forms a legal
-- token, when read from left to right)
abbrev pub HasNoLonger : List ℕ → ℕ → Type 0
HasNoLonger cs n = (m : ℕ) → n < m → m ≤ length cs → IsLegal (take m cs) → ⊥

-- n characters of cs, which are a token of this class, are the longest possible; of the layout of lines and of the parts of
-- formatted strings nothing is said
abbrev pub IsLongest : TokenClass → List ℕ → ℕ → Type 0
IsLongest Others cs n = Unit {0}
IsLongest _ cs n = HasNoLonger cs n

-- the place p isn't behind q
abbrev pub IsUpTo : Pos → Pos → Type 0
IsUpTo p q = (p.line < q.line) ⊎ ((p.line ≡ q.line) × (p.col ≤ q.col))

-- from p on the tokens stand in order of place
abbrev pub IsInOrder : Pos → List Token → Type 0
IsInOrder p [] = Unit {0}
IsInOrder p (k ∷ ks) = IsUpTo p k.at × IsInOrder k.at ks

-- the characters cs, the first of which stands at `at`, are gaps and the spellings of these tokens in turn
pub data IsLaidOut : Pos → List ℕ → List Token → Type 0 where
  ended : {at : Pos} {gap : List ℕ} → IsGap [] gap → IsLaidOut at gap []
  next : {at : Pos} {class : TokenClass} {gap spelling rest : List ℕ} {k : Token} {ks : List Token} →
      IsGap (spelling ++ rest) gap → k.at ≡ after at gap → Spells rest class k.kind k.value spelling →
      IsLaidOut (after k.at spelling) rest ks → IsLaidOut at (gap ++ (spelling ++ rest)) (k ∷ ks)

-- and each spelling is the longest possible
pub data IsMatchedLongest : Pos → List ℕ → List Token → Type 0 where
  done : {at : Pos} {gap : List ℕ} → IsGap [] gap → IsMatchedLongest at gap []
  more : {at : Pos} {class : TokenClass} {gap spelling rest : List ℕ} {k : Token} {ks : List Token} →
      IsGap (spelling ++ rest) gap → k.at ≡ after at gap → Spells rest class k.kind k.value spelling → IsLongest class (spelling ++ rest) (length spelling) →
      IsMatchedLongest (after k.at spelling) rest ks → IsMatchedLongest at (gap ++ (spelling ++ rest)) (k ∷ ks)
