-- What classes hold, names of decorators and bases are those of the productions.
use Rattle.std.proofs.Common.{◌≡◌, ℕ, Bool, true, false, List, [], ◌∷◌, Option, ◌⊎◌, inl, inr, refl, sym, ap, subst, ◌∙◌}
use Rattle.phrases.specs.Phrases.{Phrase, token}
use Rattle.phrases.specs.Spelling.{Then, Many}
use Rattle.py_lexer.specs.declared.token.Kind.TheVariants as kinds
use Rattle.py_lexer.specs.declared.token.Token.{Token}
use Rattle.py_ast.specs.Kinds.{code, mark_of}
use Rattle.py_ast.specs.Tokens.{name_codes}
use Rattle.py_ast.specs.Grammar.{second, mapped, past, expr}
use Rattle.py_ast.specs.Literals.{texts}
use Rattle.py_ast.specs.Statements.{name, dotted, assigned, annotated, annotated_of, begun_stmt, base}
use Rattle.py_ast.specs.Files.{is_left_out, dots, decorator_name, name_expr, member_of, expression_of, ellipsis_of, member_simple}
use Rattle.py_ast.specs.declared.tree.Expr.{Expr}
use Rattle.py_ast.specs.declared.tree.NameAt.{NameAt}
use Rattle.py_ast.specs.declared.statement.Dotted.{Dotted}
use Rattle.py_ast.specs.declared.statement.Stmt.{Stmt}
use Rattle.py_ast.specs.declared.statement.Tail.TheVariants as tails
use Rattle.py_productions.specs.Rules.{Word, Row}
use Rattle.py_productions.specs.Targets.{AnyName, Operand}
use Rattle.py_productions.specs.Members.{IsEllipsis, IsText, Member, assigned_member, annotated_member, pass_member, ellipsis_member, text_member, DottedName, DecoratorName, Base, without, within_parentheses}
use Rattle.py_productions.proofs.Parts.{mapped-out, mapped-in, past-out, past-into, many-map}
use Rattle.py_productions.proofs.Parentheses.{parenthesized-out, parenthesized-into}
use Rattle.py_productions.proofs.BegunLaws.{assigned-out, assigned-into, annotated-out, annotated-into}

module _ (room : ℕ) where
  abbrev e : Phrase Token Expr
  e = expr room

  text-out : (x : List Token) (s : Stmt) → (mapped texts expression_of).Spells x s → IsText x s
  unfolding texts
  text-out x s h = let m = mapped-out texts expression_of x s h in record { expression = m.from; spelled = m.spelled; tree = m.value }

  text-into : (x : List Token) (s : Stmt) → IsText x s → (mapped texts expression_of).Spells x s
  unfolding texts
  text-into x s h = subst (λ (w : Stmt). (mapped texts expression_of).Spells x w) (sym h.tree) (mapped-in texts expression_of x h.expression h.spelled)

  ellipsis-out : (x : List Token) (s : Stmt) → (mapped (token (mark_of (code kinds.Ellipsis))) ellipsis_of).Spells x s → IsEllipsis x s
  ellipsis-out x s h = let m = mapped-out (token (mark_of (code kinds.Ellipsis))) ellipsis_of x s h in record { at = m.from; spelled = m.spelled; tree = m.value }

  ellipsis-into : (x : List Token) (s : Stmt) → IsEllipsis x s → (mapped (token (mark_of (code kinds.Ellipsis))) ellipsis_of).Spells x s
  ellipsis-into x s h = subst (λ (w : Stmt). (mapped (token (mark_of (code kinds.Ellipsis))) ellipsis_of).Spells x w) (sym h.tree) (mapped-in (token (mark_of (code kinds.Ellipsis))) ellipsis_of x h.at h.spelled)

  -- a name, and "=" or ":"
  abbrev Named : List Token → Stmt → Type 0
  Named = Then Operand (λ n y t. (assigned e).Spells y t ⊎ (annotated e).Spells y t) member_of

  named-out : (x : List Token) (s : Stmt) → Named x s → Member room x s
  named-out x s h = by h.second
    where
      by : (assigned e).Spells h.back h.two ⊎ (annotated e).Spells h.back h.two → Member room x s
      by (inl k) = let b = assigned-out room h.back h.two k in assigned_member (record { front = h.front; back = h.back; one = h.one; two = b.value; split = h.split; first = h.first; second = b.spelled; value = h.value ∙ ap (begun_stmt (name_expr h.one)) b.same })
      by (inr k) = let b = annotated-out room h.back h.two k in annotated_member (record { front = h.front; back = h.back; one = h.one; two = b.value; split = h.split; first = h.first; second = b.spelled; value = h.value ∙ ap (begun_stmt (name_expr h.one)) b.same })

  pub member-out : (x : List Token) (s : Stmt) → (member_simple e).Spells x s → Member room x s
  unfolding member_simple
  member-out x s (inl h) = named-out x s h
  member-out x s (inr (inl h)) = pass_member h
  member-out x s (inr (inr (inl h))) = ellipsis_member (ellipsis-out x s h)
  member-out x s (inr (inr (inr h))) = text_member (text-out x s h)

  pub member-into : (x : List Token) (s : Stmt) → Member room x s → (member_simple e).Spells x s
  unfolding member_simple
  member-into x s (assigned_member h) = inl (record { front = h.front; back = h.back; one = h.one; two = tails.Assigned h.two.0 h.two.1; split = h.split; first = h.first; second = inl (assigned-into room h.back h.two h.second); value = h.value })
  member-into x s (annotated_member h) = inl (record { front = h.front; back = h.back; one = h.one; two = annotated_of h.two.0 h.two.1; split = h.split; first = h.first; second = inr (annotated-into room h.back h.two h.second); value = h.value })
  member-into x s (pass_member h) = inr (inl h)
  member-into x s (ellipsis_member h) = inr (inr (inl (ellipsis-into x s h)))
  member-into x s (text_member h) = inr (inr (inr (text-into x s h)))

-- ---- dotted names

abbrev DotName : List Token → NameAt → Type 0
DotName = Row (Word kinds.Dot) AnyName second

name-is : (x : List Token) (n : NameAt) → name.Spells x n → AnyName x n
unfolding name
name-is x n h = h

is-name : (x : List Token) (n : NameAt) → AnyName x n → name.Spells x n
unfolding name
is-name x n h = h

dot-out : (x : List Token) (n : NameAt) → (past (code kinds.Dot) name).Spells x n → DotName x n
dot-out x n h = let k = past-out (code kinds.Dot) name x n h in record { front = k.front; back = k.back; one = k.one; two = k.two; split = k.split; first = k.first; second = name-is k.back k.two k.second; value = k.value }

dot-into : (x : List Token) (n : NameAt) → DotName x n → (past (code kinds.Dot) name).Spells x n
dot-into x n k = past-into (code kinds.Dot) name x n (record { front = k.front; back = k.back; one = k.one; two = k.two; split = k.split; first = k.first; second = is-name k.back k.two k.second; value = k.value })

pub dotted-out : (x : List Token) (d : Dotted) → dotted.Spells x d → DottedName x d
unfolding dotted
dotted-out x d h = record { front = h.front; back = h.back; one = h.one; two = h.two; split = h.split; first = name-is h.front h.one h.first; second = many-map (past (code kinds.Dot) name).Spells DotName dot-out h.back h.two h.second; value = h.value }

pub dotted-into : (x : List Token) (d : Dotted) → DottedName x d → dotted.Spells x d
unfolding dotted
dotted-into x d h = record { front = h.front; back = h.back; one = h.one; two = h.two; split = h.split; first = is-name h.front h.one h.first; second = many-map DotName (past (code kinds.Dot) name).Spells dot-into h.back h.two h.second; value = h.value }

dots-out : (b : Bool) (x : List Token) (ns : List NameAt) → (dots b).Spells x ns → Many DotName x ns × (b ≡ true → ns ≡ [] → ⊥)
unfolding dots
dots-out false x ns h = (many-map (past (code kinds.Dot) name).Spells DotName dot-out x ns h, λ k. absurd (cc k))
dots-out true x ns h =
    let v = h.value in
    let m : Many DotName x (h.one ∷ h.two) = (h.front, h.back, h.split, dot-out h.front h.one h.first, many-map (past (code kinds.Dot) name).Spells DotName dot-out h.back h.two h.second) in
    (subst (λ w. Many DotName x w) (sym v) m, λ k n. cc (v, n))

dots-into : (b : Bool) (x : List Token) (ns : List NameAt) → Many DotName x ns → (b ≡ true → ns ≡ [] → ⊥) → (dots b).Spells x ns
unfolding dots
dots-into false x ns m k = many-map DotName (past (code kinds.Dot) name).Spells dot-into x ns m
dots-into true x [] m k = absurd (k refl refl)
dots-into true x (n ∷ ns) (y, z, s, d, m) k =
    record { front = y; back = z; one = n; two = ns; split = s; first = dot-into y n d; second = many-map DotName (past (code kinds.Dot) name).Spells dot-into z ns m; value = refl }

pub decorator-out : (x : List Token) (d : Dotted) → decorator_name.Spells x d → DecoratorName x d
unfolding decorator_name
decorator-out x d h =
    let (m, n) = dots-out (is_left_out h.one.name) h.back h.two h.second in
    record {
      spelled = record { front = h.front; back = h.back; one = h.one; two = h.two; split = h.split; first = name-is h.front h.one h.first; second = m; value = h.value };
      not_left_out = subst (λ (w : Dotted). is_left_out w.first.name ≡ true → w.others ≡ [] → ⊥) (sym h.value) n;
    }

pub decorator-into : (x : List Token) (d : Dotted) → DecoratorName x d → decorator_name.Spells x d
unfolding decorator_name
decorator-into x d k =
    let h = k.spelled in
    record {
      front = h.front;
      back = h.back;
      one = h.one;
      two = h.two;
      split = h.split;
      first = is-name h.front h.one h.first;
      second = dots-into (is_left_out h.one.name) h.back h.two h.second (subst (λ (w : Dotted). is_left_out w.first.name ≡ true → w.others ≡ [] → ⊥) h.value k.not_left_out);
      value = h.value;
    }

pub base-out : (x : List Token) (b : Option Dotted) → base.Spells x b → Base x b
unfolding base
base-out x b (inl h) = within_parentheses (parenthesized-out name_codes dotted DottedName dotted-out x b h)
base-out x b (inr h) = without h.0 h.1

pub base-into : (x : List Token) (b : Option Dotted) → Base x b → base.Spells x b
unfolding base
base-into x b (within_parentheses h) = inl (parenthesized-into name_codes dotted DottedName dotted-into x b h)
base-into x b (without h n) = inr (h, n)
