-- What may stand at the front of a text.
use Rattle.std.specs.Prelude.{ℕ}
use Rattle.py_literals.specs.declared.place.Pos.{Pos}
use Rattle.py_lexer.specs.declared.token.Kind.{Kind}
use Rattle.py_lexer.specs.declared.token.Value.{Value}
use Rattle.py_lexer.specs.declared.token.LexKind.{LexKind}
use Rattle.py_lexer.specs.declared.piece.Lexeme.{Lexeme}
use Rattle.py_lexer.specs.declared.piece.Lexeme.TheVariants as lexemes
use Rattle.py_lexer.specs.declared.piece.Piece.{Piece}
use Rattle.py_lexer.specs.declared.piece.Piece.TheVariants as pieces
use Rattle.py_lexer.specs.declared.state.State.{State}

pub data Front : Type 0 where
  -- a token of so many characters, and what is open behind it
  Found : ℕ → Kind → Value → State → Front
  -- so many characters that give no token, and what is open behind them
  Passed : ℕ → State → Front
  -- a fault behind so many characters
  Bad : LexKind → ℕ → Front
  -- the end of the text, inside the bracket at this place
  Unclosed : Pos → Front
  -- the end of the text
  Over : Front

-- a piece of the code, and what is open behind it
abbrev pub front_of : Piece → State → Front
front_of (pieces.Found n kind value) s = Found n kind value s
front_of (pieces.Passed n) s = Passed n s
front_of (pieces.Bad kind n) s = Bad kind n
front_of (pieces.Unclosed at) s = Unclosed at
front_of pieces.Over s = Over

-- a token, or its fault, that leaves open what is
abbrev pub piece_of : Lexeme → Piece
piece_of (lexemes.Spelled n kind value) = pieces.Found n kind value
piece_of (lexemes.Refused kind n) = pieces.Bad kind n

abbrev pub front_of_lexeme : Lexeme → State → Front
front_of_lexeme lexeme s = front_of (piece_of lexeme) s
