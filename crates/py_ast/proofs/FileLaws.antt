-- Each production of the grammar of blocks and files is lawful.
use Rattle.std.proofs.Common.{◌≡◌, ℕ, zero, suc, ◌-◌, ◌<◌, Bool, true, false, List, [], ◌∷◌, ◌++◌, Option, Some, None, inl, inr, refl, sym, ap, ◌∙◌, arith}
use Rattle.std.specs.List.{flat_map}
use Rattle.phrases.specs.Laws.{Laws}
use Rattle.phrases.specs.Phrases.{Phrase}
use Rattle.phrases.specs.Sets.{has, apart, Sets, token_sets, item_sets, many_sets}
use Rattle.phrases.specs.Verdict.{Spelled, Means}
use Rattle.phrases.proofs.Composed.{token_laws, nothing_laws, sequence_laws, either_laws, many_laws, larger_laws}
use Rattle.phrases.proofs.Outcomes.{verdict, one_tree}
use Rattle.py_lexer.specs.declared.token.Kind.TheVariants as kinds
use Rattle.py_lexer.specs.declared.token.Value.TheVariants as values
use Rattle.py_lexer.specs.declared.token.Token.{Token}
use Rattle.py_ast.specs.Kinds.{class, code, name_code, text_code}
use Rattle.py_ast.specs.Nested.{nest_shapes}
use Rattle.py_ast.specs.Tokens.{name_codes}
use Rattle.py_ast.specs.Trees.{all_given, optional_items}
use Rattle.py_ast.specs.Grammar.{both, second, mapped, ended, expr}
use Rattle.py_ast.specs.Literals.{literal_argument_first, literal}
use Rattle.py_ast.specs.Statements.{cons, stmt_at, dotted_of, word_codes, word_of, simple, simple_first, line}
use Rattle.py_ast.specs.Files.{is_left_out, dot_first, dots, decorator_name, decorator_of, decorator, decorators, single, Suites, compound_first, compound, body_statement, member_first, member_of, expression_of, ellipsis_of, member_simple, decorated_function, function_first, member_statement, indented, suite_first, suite_over, suites, definition, decorated, definition_first, import_first, file_simple, file_simple_first, file_statement, file_first, file_item, file, module_of, SpellsModule}
use Rattle.py_ast.specs.declared.tree.Expr.{Expr}
use Rattle.py_ast.specs.declared.statement.Decorator.{Decorator}
use Rattle.py_ast.specs.declared.statement.Module.{Module}
use Rattle.py_ast.specs.declared.statement.Stmt.{Stmt}
use Rattle.py_ast.specs.declared.statement.StmtForm.TheVariants as stmts
use Rattle.py_ast.specs.declared.statement.Suite.{Suite}
use Rattle.py_ast.specs.declared.statement.Suite.TheVariants.{Body, Members}
use Rattle.py_ast.proofs.TokenLaws.{some_place, some_token, pick-kind, mark-kind, plain-name-kind}
use Rattle.py_ast.proofs.Parts.{mapped-laws, past-laws, ended-laws}
use Rattle.py_ast.proofs.ExprLaws.{expr_sets}
use Rattle.py_ast.proofs.Expressions.{alone, expr-laws}
use Rattle.py_ast.proofs.LiteralLaws.{literal_sets, texts-laws, literal-arguments-laws, literal-laws}
use Rattle.py_ast.proofs.Nested.{nest-laws}
use Rattle.py_ast.proofs.StatementLaws.{a_pass, word-kind, optional-laws, name-laws, dot-name-laws, import-laws, from-laws, simple_more, assigned-laws, annotated-laws, simple-laws, line-laws, in-parentheses-laws, if-laws, while-laws, for-laws, function-laws, class-laws}

-- ---- decorators

abbrev dots_sets : Sets
dots_sets = record { first = dot_first; more = dot_first; nullable = true }

dots-laws : (b : Bool) → Laws class (dots b) (dots b) (dots b) dots_sets
unfolding dots
dots-laws false = larger_laws dots_sets (many_laws dot-name-laws refl refl) refl
dots-laws true = larger_laws dots_sets (sequence_laws dot-name-laws (λ n. many_laws dot-name-laws refl refl) cons refl refl) refl

decorator-name-laws : Laws class decorator_name decorator_name decorator_name (item_sets name_codes dot_first)
unfolding decorator_name
decorator-name-laws = larger_laws (item_sets name_codes dot_first) (sequence_laws name-laws (λ n. dots-laws (is_left_out n.name)) dotted_of refl refl) refl

module _ {l l+ lk : Phrase Token Expr} (ll : Laws class l l+ lk literal_sets) where
  decorator-laws : Laws class (decorator l) (decorator l+) (decorator lk) (token_sets (code kinds.At ∷ []))
  unfolding decorator
  decorator-laws =
      larger_laws (token_sets (code kinds.At ∷ []))
      (sequence_laws (token_laws (mark-kind kinds.At refl))
      (λ m. ended-laws (sequence_laws decorator-name-laws (λ n. optional-laws (mapped-laws (in-parentheses-laws (literal-arguments-laws ll) refl refl) refl optional_items)) both refl refl) kinds.Newline refl refl refl)
      decorator_of refl refl) refl

  decorators-laws : Laws class (decorators l) (decorators l+) (decorators lk) (item_sets (code kinds.At ∷ []) (code kinds.At ∷ []))
  unfolding decorators
  decorators-laws = larger_laws (item_sets (code kinds.At ∷ []) (code kinds.At ∷ [])) (sequence_laws decorator-laws (λ d. many_laws decorator-laws refl refl) cons refl refl) refl

-- ---- statements of blocks and classes

abbrev branch_more : List ℕ
branch_more = code kinds.Elif ∷ code kinds.Else ∷ []

abbrev SuiteLaws : (i i+ k : Suites) → Type 0
SuiteLaws i i+ k = (s : Suite) → Laws class (i s) (i+ s) (k s) (item_sets (suite_first s) [])

module _ {e e+ ek : Phrase Token Expr} (le : Laws class e e+ ek expr_sets) where
  member-simple-laws : Laws class (member_simple e) (member_simple e+) (member_simple ek) (item_sets member_first (text_code ∷ simple_more))
  unfolding member_simple
  member-simple-laws =
      larger_laws (item_sets member_first (text_code ∷ simple_more))
      (either_laws (larger_laws (item_sets (name_code ∷ []) simple_more) (sequence_laws (token_laws plain-name-kind) (λ n. either_laws (assigned-laws le) (annotated-laws le) refl refl) member_of refl refl) refl)
      (either_laws (token_laws (word-kind false)) (either_laws (mapped-laws (token_laws (mark-kind kinds.Ellipsis refl)) refl ellipsis_of) (mapped-laws texts-laws refl expression_of) refl refl) refl refl) refl refl) refl

  member-line-laws : Laws class (line member_first (member_simple e)) (line member_first (member_simple e+)) (line member_first (member_simple ek)) (item_sets member_first [])
  member-line-laws = line-laws member-simple-laws refl refl refl

  simple-line-laws : (returns loops : Bool) → Laws class (line (simple_first returns loops) (simple e returns loops)) (line (simple_first returns loops) (simple e+ returns loops)) (line (simple_first returns loops) (simple ek returns loops)) (item_sets (simple_first returns loops) [])
  simple-line-laws false false = line-laws (simple-laws le false false) refl refl refl
  simple-line-laws false true = line-laws (simple-laws le false true) refl refl refl
  simple-line-laws true false = line-laws (simple-laws le true false) refl refl refl
  simple-line-laws true true = line-laws (simple-laws le true true) refl refl refl

  module _ (room n : ℕ) {i i+ k : Suites} (ls : SuiteLaws i i+ k) where
    compound-laws : (returns loops : Bool) → Laws class (compound e room i returns loops) (compound e+ (suc room) i+ returns loops) (compound ek n k returns loops) (item_sets compound_first branch_more)
    unfolding compound
    compound-laws returns loops =
        larger_laws (item_sets compound_first branch_more)
        (either_laws (if-laws le room n (ls (Body returns loops))) (either_laws (while-laws le room n (ls (Body returns true))) (for-laws le room n (ls (Body returns true))) refl refl) refl refl) refl

    body-laws : (returns loops : Bool) → Laws class (body_statement e room i returns loops) (body_statement e+ (suc room) i+ returns loops) (body_statement ek n k returns loops) (item_sets (compound_first ++ simple_first returns loops) branch_more)
    unfolding body_statement
    body-laws false false = larger_laws (item_sets (compound_first ++ simple_first false false) branch_more) (either_laws (mapped-laws (compound-laws false false) refl single) (simple-line-laws false false) refl refl) refl
    body-laws false true = larger_laws (item_sets (compound_first ++ simple_first false true) branch_more) (either_laws (mapped-laws (compound-laws false true) refl single) (simple-line-laws false true) refl refl) refl
    body-laws true false = larger_laws (item_sets (compound_first ++ simple_first true false) branch_more) (either_laws (mapped-laws (compound-laws true false) refl single) (simple-line-laws true false) refl refl) refl
    body-laws true true = larger_laws (item_sets (compound_first ++ simple_first true true) branch_more) (either_laws (mapped-laws (compound-laws true true) refl single) (simple-line-laws true true) refl refl) refl

    module _ {l l+ lk : Phrase Token Expr} (ll : Laws class l l+ lk literal_sets) where
      decorated-function-laws : Laws class (decorated_function e l room i) (decorated_function e+ l+ (suc room) i+) (decorated_function ek lk n k) (item_sets function_first [])
      unfolding decorated_function
      decorated-function-laws =
          larger_laws (item_sets function_first [])
          (either_laws (larger_laws (item_sets (code kinds.At ∷ []) []) (sequence_laws (decorators-laws ll) (λ ds. function-laws le room n (ls (Body true false)) ds) second refl refl) refl) (function-laws le room n (ls (Body true false)) []) refl refl) refl

      member-laws : Laws class (member_statement e l room i) (member_statement e+ l+ (suc room) i+) (member_statement ek lk n k) (item_sets (function_first ++ member_first) [])
      unfolding member_statement
      member-laws = larger_laws (item_sets (function_first ++ member_first) []) (either_laws (mapped-laws decorated-function-laws refl single) member-line-laws refl refl) refl

-- ---- what stands behind a ":"

indented-laws : {g g+ k h h+ m : Phrase Token (List Stmt)} {first simples : List ℕ} → Laws class g g+ k (item_sets first branch_more) → Laws class h h+ m (item_sets simples [])
    → apart first branch_more ≡ true → apart (code kinds.Dedent ∷ []) ((branch_more ++ first) ++ branch_more) ≡ true → apart simples (code kinds.Newline ∷ []) ≡ true
    → Laws class (indented first g h) (indented first g+ h+) (indented first k m) (item_sets (code kinds.Newline ∷ simples) [])
unfolding indented
indented-laws lg lh aside ends other =
    either_laws
    (past-laws (past-laws (ended-laws (mapped-laws (sequence_laws lg (λ s. many_laws lg refl aside) cons refl aside) refl (flat_map (λ s. s))) kinds.Dedent refl refl ends) kinds.Indent refl) kinds.Newline refl)
    lh refl other

suite-layer : (r m room n : ℕ) (i i+ k : Suites) → SuiteLaws i i+ k
    → (s : Suite) → Laws class (suite_over (expr r) (literal r) room i s) (suite_over (expr (suc r)) (literal (suc r)) (suc room) i+ s) (suite_over (expr m) (literal m) n k s) (item_sets (suite_first s) [])
unfolding suite_over
suite-layer r m room n i i+ k ls (Body false false) = indented-laws (body-laws (expr-laws r m) room n ls false false) (simple-line-laws (expr-laws r m) false false) refl refl refl
suite-layer r m room n i i+ k ls (Body false true) = indented-laws (body-laws (expr-laws r m) room n ls false true) (simple-line-laws (expr-laws r m) false true) refl refl refl
suite-layer r m room n i i+ k ls (Body true false) = indented-laws (body-laws (expr-laws r m) room n ls true false) (simple-line-laws (expr-laws r m) true false) refl refl refl
suite-layer r m room n i i+ k ls (Body true true) = indented-laws (body-laws (expr-laws r m) room n ls true true) (simple-line-laws (expr-laws r m) true true) refl refl refl
suite-layer r m room n i i+ k ls Members = indented-laws (larger_laws (item_sets (function_first ++ member_first) branch_more) (member-laws (expr-laws r m) room n ls (literal-laws r m)) refl) (member-line-laws (expr-laws r m)) refl refl refl

-- ---- every depth

abbrev newline : Token
newline = some_token kinds.Newline values.Nothing

abbrev passing : List Token
passing = a_pass ∷ newline ∷ []

abbrev pass : Stmt
pass = stmt_at some_place stmts.Pass

some-word : (loops : Bool) → word_of loops a_pass ≡ Some pass
some-word false = refl
some-word true = refl

some-simple : (e : Phrase Token Expr) (returns loops : Bool) → (simple e returns loops).Spells (a_pass ∷ []) pass
unfolding simple
some-simple e returns loops = inr (inl (record { token = a_pass; alone = refl; is = some-word loops }))

some-member : (e : Phrase Token Expr) → (member_simple e).Spells (a_pass ∷ []) pass
unfolding member_simple
some-member e = inr (inl (record { token = a_pass; alone = refl; is = refl }))

some-line : (first : List ℕ) (g : Phrase Token Stmt) → g.Spells (a_pass ∷ []) pass → (line first g).Spells passing (pass ∷ [])
unfolding line mapped ended
some-line first g h = alone _ passing (pass, []) (pass, []) (record {
  front = a_pass ∷ [];
  back = newline ∷ [];
  one = (pass, []);
  two = some_place;
  split = refl;
  first = alone _ (a_pass ∷ []) pass [] h refl;
  second = record { token = newline; alone = refl; is = refl };
  value = refl;
}) (refl, refl)

some-suite : (r room : ℕ) (g : Suites) (s : Suite) → (x : List Token) × (a : List Stmt) × (suite_over (expr r) (literal r) room g s).Spells x a
unfolding suite_over indented
some-suite r room g (Body returns loops) = (passing, pass ∷ [], inr (some-line (simple_first returns loops) (simple (expr r) returns loops) (some-simple (expr r) returns loops)))
some-suite r room g Members = (passing, pass ∷ [], inr (some-line member_first (member_simple (expr r)) (some-member (expr r))))

known : (s : Suite) → has (suite_first s) (class newline) ≡ true
known (Body returns loops) = refl
known Members = refl

pub suites-laws : (room n : ℕ) (s : Suite) → Laws class (suites room room s) (suites (suc room) (suc room) s) (suites n n s) (item_sets (suite_first s) [])
suites-laws room n s = nest-laws class suite_first (λ s. []) (λ r. suite_over (expr r) (literal r)) (λ s. newline) known some-suite suite-layer room n room n s

-- what stands behind a ":" has one less room for blocks
pub suites-is : (s : Suite) (nestings room : ℕ) → 0 < room → suites nestings room s ≡ suite_over (expr nestings) (literal nestings) (room - 1) (suites nestings (room - 1)) s
unfolding nest_shapes
suites-is s nestings zero h = absurd (omega arith)
suites-is s nestings (suc room) h = let e : suc room - 1 ≡ room = omega arith in rw e refl

-- ---- files

module _ (room n : ℕ) where
  abbrev le : Laws class (expr room) (expr (suc room)) (expr n) expr_sets
  le = expr-laws room n

  abbrev ls : SuiteLaws (suites room room) (suites (suc room) (suc room)) (suites n n)
  ls s = suites-laws room n s

  definition-laws : (ds : List Decorator) → Laws class (definition (expr room) room (suites room room) ds) (definition (expr (suc room)) (suc room) (suites (suc room) (suc room)) ds) (definition (expr n) n (suites n n) ds) (item_sets (code kinds.Def ∷ code kinds.Class ∷ []) [])
  unfolding definition
  definition-laws ds = larger_laws (item_sets (code kinds.Def ∷ code kinds.Class ∷ []) []) (either_laws (function-laws le room n (ls (Body true false)) ds) (class-laws room n (ls Members) ds) refl refl) refl

  decorated-laws : Laws class (decorated (expr room) (literal room) room (suites room room)) (decorated (expr (suc room)) (literal (suc room)) (suc room) (suites (suc room) (suc room))) (decorated (expr n) (literal n) n (suites n n)) (item_sets definition_first [])
  unfolding decorated
  decorated-laws =
      larger_laws (item_sets definition_first [])
      (either_laws (larger_laws (item_sets (code kinds.At ∷ []) []) (sequence_laws (decorators-laws (literal-laws room n)) (λ ds. definition-laws ds) second refl refl) refl) (definition-laws []) refl refl) refl

  abbrev file_simple_more : List ℕ
  file_simple_more = code kinds.As ∷ code kinds.Dot ∷ simple_more

  file-simple-laws : Laws class (file_simple (expr room)) (file_simple (expr (suc room))) (file_simple (expr n)) (item_sets file_simple_first file_simple_more)
  unfolding file_simple
  file-simple-laws = larger_laws (item_sets file_simple_first file_simple_more) (either_laws import-laws (either_laws from-laws (simple-laws le false false) refl refl) refl refl) refl

  file-statement-laws : Laws class (file_statement (expr room) (literal room) room (suites room room)) (file_statement (expr (suc room)) (literal (suc room)) (suc room) (suites (suc room) (suc room))) (file_statement (expr n) (literal n) n (suites n n)) (item_sets (definition_first ++ compound_first ++ file_simple_first) branch_more)
  unfolding file_statement
  file-statement-laws =
      larger_laws (item_sets (definition_first ++ compound_first ++ file_simple_first) branch_more)
      (either_laws (mapped-laws decorated-laws refl single) (either_laws (mapped-laws (compound-laws le room n ls false false) refl single) (line-laws file-simple-laws refl refl refl) refl refl) refl refl) refl

  file-item-laws : Laws class (file_item (expr room) (literal room) room (suites room room)) (file_item (expr (suc room)) (literal (suc room)) (suc room) (suites (suc room) (suc room))) (file_item (expr n) (literal n) n (suites n n)) (item_sets file_first branch_more)
  unfolding file_item
  file-item-laws =
      larger_laws (item_sets file_first branch_more)
      (either_laws (sequence_laws (token_laws (mark-kind kinds.Newline refl)) (λ m. nothing_laws class []) second refl refl) file-statement-laws refl refl) refl

  pub file-laws : Laws class (file room) (file (suc room)) (file n) (many_sets (item_sets file_first branch_more))
  unfolding file
  file-laws = many_laws file-item-laws refl refl

-- ---- what follows

pub file-means : (room : ℕ) (ts : List Token) → Means file room ts ((file room).read ts)
file-means room ts = verdict class file (many_sets (item_sets file_first branch_more)) room (λ n. file-laws room n) ts

pub one-module : (x : List Token) (a b : Module) → SpellsModule x a → SpellsModule x b → a ≡ b
one-module x a b (as_lines, h, e) (bs_lines, k, f) =
    e ∙ ap module_of (one_tree class file (many_sets (item_sets file_first branch_more)) file-laws x as_lines bs_lines h k) ∙ sym f
