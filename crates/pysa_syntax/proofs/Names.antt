-- What is of the symbol of a name has a text.
use Rattle.std.proofs.Common.{◌≡◌, Bool, true, false, refl}
use Rattle.py_lexer.specs.declared.token.Kind.{Kind}
use Rattle.py_lexer.specs.declared.token.Kind.TheVariants as kinds
use Rattle.py_lexer.specs.declared.token.Value.{Value}
use Rattle.py_lexer.specs.declared.token.Value.TheVariants as values
use Rattle.py_lexer.specs.declared.token.Token.{Token}
use Rattle.phrases.specs.Sets.{has}
use Rattle.pysa_syntax.specs.Symbols.{class, code, symbol, symbol_by, names}

abbrev pub is_text : Value → Bool
is_text (values.Name text) = true
is_text _ = false

by_value : (v : Value) → has names (code (symbol_by kinds.Name v)) ≡ true → is_text v ≡ true
by_value (values.Name text) h = refl
by_value _ h = absurd cc

by_kind : (k : Kind) (v : Value) → has names (code (symbol_by k v)) ≡ true → is_text v ≡ true
by_kind kinds.Name v h = by_value v h
by_kind _ v h = absurd cc

pub name_values : (t : Token) → has names (class t) ≡ true → is_text t.value ≡ true
unfolding symbol
name_values t h = by_kind t.kind t.value h
