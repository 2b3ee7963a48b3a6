-- What holds of each text.
use Rattle.std.specs.Prelude.{◌≡◌, ◌⊎◌, ℕ, List}
use Rattle.py_literals.specs.declared.place.Pos.{Pos}
use Rattle.py_lexer.specs.declared.token.Token.{Token}
use Rattle.py_lexer.specs.declared.token.LexKind.{LexKind}
use Rattle.py_lexer.specs.Runs.{HasTokens, HasFault}

-- it has some list of tokens
pub record IsLexed (text : List ℕ) : Type 0 where
  pub tokens : List Token
  pub are : HasTokens text tokens

-- it has a fault at some place
pub record IsFaulty (text : List ℕ) : Type 0 where
  pub fault : LexKind
  pub place : Pos
  pub is : HasFault text fault place

-- it has one list of tokens, or else one fault
pub record HasOneAnswer (text : List ℕ) : Type 0 where
  pub answered : IsLexed text ⊎ IsFaulty text
  pub one_list : (a b : List Token) → HasTokens text a → HasTokens text b → a ≡ b
  pub not_both : (a : List Token) (fault : LexKind) (place : Pos) → HasTokens text a → HasFault text fault place → ⊥
  pub one_fault : (k l : LexKind) (p q : Pos) → HasFault text k p → HasFault text l q → (k ≡ l) × (p ≡ q)
