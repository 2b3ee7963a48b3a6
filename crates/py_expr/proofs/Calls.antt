-- The arguments of a call: those behind the first, one after the other, and the bracket behind the last.
use Rattle.std.proofs.Common.{◌≡◌, ℕ, ◌<◌, Bool, true, false, List, [], ◌∷◌, ◌++◌, length, Option, Some, None, refl, sym, ap, ◌∙◌}
use Rattle.phrases.specs.Sets.{starts}
use Rattle.phrases.specs.Reading.{Outcome, Read, Stuck}
use Rattle.phrases.specs.Phrases.{Phrase, token, opener}
use Rattle.phrases.specs.Loops.{Fails, opening}
use Rattle.phrases.specs.declared.fault.Fault.{Fault}
use Rattle.phrases.specs.declared.fault.Stop.{Stop}
use Rattle.phrases.specs.declared.fault.Stop.TheVariants as reasons
use Rattle.phrases.proofs.Loops.{LeftIn, left_in_all, next_in, stopped_in, closed_in}
use Rattle.py_literals.specs.declared.place.Pos.{Pos}
use Rattle.py_lexer.specs.declared.token.Token.{Token}
use Rattle.py_ast.specs.declared.tree.Argument.{Argument}
use Rattle.py_ast.specs.declared.tree.Expr.{Expr}
use Rattle.py_ast.specs.declared.tree.StepForm.TheVariants as steps
use Rattle.py_ast.specs.Kinds.{class, mark_of}
use Rattle.py_ast.specs.Trees.{given, has_keyword, step_of}
use Rattle.py_ast.specs.Grammar.{mapped, ended, bracketed, argument_first, comma_item, comma_items, goes_past, argument, arguments, call}

given-more : (is : List (Pos × Option Argument)) (i : Pos × Option Argument) → given (is ++ i ∷ []) ≡ given is ++ given (i ∷ [])
given-more [] i = refl
given-more ((at, None) ∷ is) i = given-more is i
given-more ((at, Some a) ∷ is) i = ap (λ (all : List Argument). a ∷ all) (given-more is i)

-- where the bracket and the first argument of a call were read, and what is left behind them
pub record Begun (room : ℕ) (e : Phrase Token Expr) (ts : List Token) (node : Pos) (first : Argument) (y : List Token) : Type 0 where
  pub bracket : List Token
  pub opened : (opener room (mark_of 71)).read ts ≡ Read node bracket
  pub begins : starts class (argument_first false) bracket ≡ true
  pub read : (argument e false).read bracket ≡ Read first y

behind-stuck : (room : ℕ) (e : Phrase Token Expr) (ts : List Token) (node : Pos) (first : Argument) (tokens : List Token) (w : Fault) (y : List Token) → Begun room e ts node first tokens → (comma_items argument_first (argument e) has_keyword (has_keyword first)).read tokens ≡ Stuck w y → (call room e).read ts ≡ Stuck w y
unfolding call bracketed mapped ended arguments
behind-stuck room e ts node first tokens w y b h = rw (b.opened, b.begins, b.read, h) refl

behind-fails : (room : ℕ) (e : Phrase Token Expr) (ts : List Token) (node : Pos) (first : Argument) (tokens : List Token) (stop : Stop Token) → Begun room e ts node first tokens → Fails stop ((comma_items argument_first (argument e) has_keyword (has_keyword first)).read tokens) → Fails stop ((call room e).read ts)
behind-fails room e ts node first tokens reasons.Memory b h = tt
behind-fails room e ts node first tokens (reasons.Fault w y) b h = behind-stuck room e ts node first tokens w y.now b h

unclosed-stuck : (room : ℕ) (e : Phrase Token Expr) (ts : List Token) (node : Pos) (first : Argument) (tokens : List Token) (vs : List (Pos × Option Argument)) (y : List Token) (w : Fault) (z : List Token) → Begun room e ts node first tokens → (comma_items argument_first (argument e) has_keyword (has_keyword first)).read tokens ≡ Read vs y → (token (mark_of 72)).read y ≡ Stuck w z → (call room e).read ts ≡ Stuck w z
unfolding call bracketed mapped ended arguments
unclosed-stuck room e ts node first tokens vs y w z b h k = rw (b.opened, b.begins, b.read, h, k) refl

unclosed-fails : (room : ℕ) (e : Phrase Token Expr) (ts : List Token) (node : Pos) (first : Argument) (tokens : List Token) (vs : List (Pos × Option Argument)) (y : List Token) (stop : Stop Token) → Begun room e ts node first tokens → (comma_items argument_first (argument e) has_keyword (has_keyword first)).read tokens ≡ Read vs y → Fails stop ((token (mark_of 72)).read y) → Fails stop ((call room e).read ts)
unclosed-fails room e ts node first tokens vs y reasons.Memory b h k = tt
unclosed-fails room e ts node first tokens vs y (reasons.Fault w z) b h k = unclosed-stuck room e ts node first tokens vs y w z.now b h k

closed-read : (room : ℕ) (e : Phrase Token Expr) (ts : List Token) (node : Pos) (first : Argument) (tokens : List Token) (vs : List (Pos × Option Argument)) (y : List Token) (m : Pos) (z : List Token) → Begun room e ts node first tokens → (comma_items argument_first (argument e) has_keyword (has_keyword first)).read tokens ≡ Read vs y → (token (mark_of 72)).read y ≡ Read m z → (call room e).read ts ≡ Read (step_of node (steps.Call (first ∷ given vs))) z
unfolding call bracketed mapped ended arguments
closed-read room e ts node first tokens vs y m z b h k = rw (b.opened, b.begins, b.read, h, k) refl

-- all arguments were read up to what is left
pub record ArgumentsLeft (e : Phrase Token Expr) (first : Argument) (tokens : List Token) (all : List Argument) (state : Option Bool) (rest : List Token) : Type 0 where
  pub values : List (Pos × Option Argument)
  pub listed : all ≡ first ∷ given values
  pub left : LeftIn class (λ s. (77 ∷ [])) (λ s. (comma_item (argument_first s) (argument e s)).read) (λ s i. goes_past has_keyword i) (has_keyword first) tokens values state rest

pub none_yet : (e : Phrase Token Expr) (first : Argument) (tokens : List Token) (all : List Argument) (state : Option Bool) → all ≡ first ∷ [] → state ≡ Some (has_keyword first) → ArgumentsLeft e first tokens all state tokens
none_yet e first tokens all state h k = record {
  values = [];
  listed = h;
  left = rw k (left_in_all class (λ s. (77 ∷ [])) (λ s. (comma_item (argument_first s) (argument e s)).read) (λ s i. goes_past has_keyword i) (has_keyword first) tokens);
}

module _ (e : Phrase Token Expr) (first : Argument) (tokens : List Token) (all : List Argument) (state : Option Bool) (rest : List Token) (l : ArgumentsLeft e first tokens all state rest) where
  abbrev item : Bool → List Token → Outcome Token (Pos × Option Argument)
  item s ts = (comma_item (argument_first s) (argument e s)).read ts

  pub one_more : (s : Bool) (i : Pos × Option Argument) (y : List Token) (n : Option Bool) (more : List Argument) → opening class (λ s. (77 ∷ [])) state rest ≡ Some s → (comma_item (argument_first s) (argument e s)).read rest ≡ Read i y → length y < length rest → n ≡ goes_past has_keyword i → more ≡ all ++ given (i ∷ []) → ArgumentsLeft e first tokens more n y
  one_more s i y n more o r h q m = record {
    values = l.values ++ i ∷ [];
    listed = m ∙ rw (l.listed, given-more l.values i) refl;
    left = next_in class (λ s. (77 ∷ [])) item (λ s i. goes_past has_keyword i) (has_keyword first) tokens l.values state rest l.left s i y n o r h q;
  }

  items-over : opening class (λ s. (77 ∷ [])) state rest ≡ None → (comma_items argument_first (argument e) has_keyword (has_keyword first)).read tokens ≡ Read l.values rest
  unfolding comma_items
  items-over o = closed_in class (λ s. (77 ∷ [])) item (λ s i. goes_past has_keyword i) (has_keyword first) tokens l.values state rest l.left o

  items-stop : (s : Bool) (stop : Stop Token) → opening class (λ s. (77 ∷ [])) state rest ≡ Some s → Fails stop (item s rest) → Fails stop ((comma_items argument_first (argument e) has_keyword (has_keyword first)).read tokens)
  unfolding comma_items
  items-stop s stop o h = stopped_in class (λ s. (77 ∷ [])) item (λ s i. goes_past has_keyword i) (has_keyword first) tokens l.values state rest l.left s stop o h

  -- an argument stops, and so the call
  pub argument_stops : (room : ℕ) (ts : List Token) (node : Pos) (s : Bool) (stop : Stop Token) → Begun room e ts node first tokens → opening class (λ s. (77 ∷ [])) state rest ≡ Some s → Fails stop ((comma_item (argument_first s) (argument e s)).read rest) → Fails stop ((call room e).read ts)
  argument_stops room ts node s stop b o h = behind-fails room e ts node first tokens stop b (items-stop s stop o h)

  -- no bracket stands behind the arguments
  pub unclosed : (room : ℕ) (ts : List Token) (node : Pos) (stop : Stop Token) → Begun room e ts node first tokens → opening class (λ s. (77 ∷ [])) state rest ≡ None → Fails stop ((token (mark_of 72)).read rest) → Fails stop ((call room e).read ts)
  unclosed room ts node stop b o h = unclosed-fails room e ts node first tokens l.values rest stop b (items-over o) h

  -- one does
  pub closed : (room : ℕ) (ts : List Token) (node m : Pos) (z : List Token) → Begun room e ts node first tokens → opening class (λ s. (77 ∷ [])) state rest ≡ None → (token (mark_of 72)).read rest ≡ Read m z → (call room e).read ts ≡ Read (step_of node (steps.Call all)) z
  closed room ts node m z b o h =
      closed-read room e ts node first tokens l.values rest m z b (items-over o) h ∙ ap (λ (all_as : List Argument). Read (step_of node (steps.Call all_as)) z) (sym l.listed)
