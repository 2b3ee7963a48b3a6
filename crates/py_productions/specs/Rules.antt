-- The words in which productions are written (Language Reference, 1.2): a rule says which tokens stand for which value.
use Rattle.std.specs.Prelude.{◌≡◌, List, [], ◌∷◌, ◌++◌, Option, Some, None}
use Rattle.py_literals.specs.declared.place.Pos.{Pos}
use Rattle.phrases.specs.Spelling.{One, Then, Many}
use Rattle.py_lexer.specs.declared.token.Kind.{Kind}
use Rattle.py_lexer.specs.declared.token.Kind.TheVariants as kinds
use Rattle.py_lexer.specs.declared.token.Token.{Token}
use Rattle.py_ast.specs.Kinds.{code, mark_of}
use Rattle.py_ast.specs.Grammar.{both, first_of, second}

abbrev pub Rule : Type 0 → Type 1
Rule A = List Token → A → Type 0

-- a token of a kind, which stands for its place
abbrev pub Word : Kind → Rule Pos
Word k = One (mark_of (code k))

-- P Q
abbrev pub Row : {A B C : Type 0} → Rule A → Rule B → (A → B → C) → Rule C
Row P Q f = Then P (λ a. Q) f

-- [P]
abbrev pub Maybe : {A : Type 0} → (P : List Token → A → Type 0) → List Token → Option A → Type 0
Maybe P x None = x ≡ []
Maybe P x (Some a) = P x a

-- a separator and P
abbrev pub Further : {A : Type 0} → Kind → Rule A → Rule (Pos × A)
Further k P = Row (Word k) P both

-- the items without the separators before them
abbrev pub values : {A : Type 0} → List (Pos × A) → List A
values [] = []
values ((at, a) ∷ others) = a ∷ values others

-- P (k P)* [k]: the first item, the others, each with the separator before it, and the separator behind the last
pub record Listed {A : Type 0} (k : Kind) (P : List Token → A → Type 0) (x : List Token) (first : A) (others : List (Pos × A)) (end : Option Pos) : Type 0 where
  pub front : List Token
  pub middle : List Token
  pub back : List Token
  pub split : x ≡ front ++ (middle ++ back)
  pub item : P front first
  pub further : Many (Further k P) middle others
  pub trailing : Maybe (Word k) back end

-- the same, as the list of the items alone
pub record Items {A : Type 0} (k : Kind) (P : List Token → A → Type 0) (x : List Token) (items : List A) : Type 0 where
  pub first : A
  pub others : List (Pos × A)
  pub end : Option Pos
  pub listed : Listed k P x first others end
  pub all : items ≡ first ∷ values others

-- "(" [P] ")", where the "(" opens no nesting
pub data Parenthesized {A : Type 0} (P : List Token → A → Type 0) (x : List Token) (o : Option A) : Type 0 where
  empty : (at : Pos) → Row (Word kinds.LeftParen) (Word kinds.RightParen) first_of x at → o ≡ None → Parenthesized P x o
  filled : (a : A) → Row (Word kinds.LeftParen) (Row P (Word kinds.RightParen) first_of) second x a → o ≡ Some a → Parenthesized P x o
