-- Decorators are those of the production.
use Rattle.std.proofs.Common.{◌≡◌, false, List, [], ◌∷◌, Option, Some, None, refl, sym, ap, subst, ◌∙◌}
use Rattle.phrases.specs.Phrases.{Phrase, sequence}
use Rattle.py_literals.specs.declared.place.Pos.{Pos}
use Rattle.py_lexer.specs.declared.token.Kind.TheVariants as kinds
use Rattle.py_lexer.specs.declared.token.Token.{Token}
use Rattle.py_ast.specs.Kinds.{code}
use Rattle.py_ast.specs.Trees.{all_given, optional_items}
use Rattle.py_ast.specs.Grammar.{both, mapped}
use Rattle.py_ast.specs.Literals.{literal_argument_first, literal_arguments}
use Rattle.py_ast.specs.Statements.{optional, in_parentheses, all_of}
use Rattle.py_ast.specs.Files.{decorator_name, decorator}
use Rattle.py_ast.specs.declared.tree.Argument.{Argument}
use Rattle.py_ast.specs.declared.tree.Expr.{Expr}
use Rattle.py_ast.specs.declared.statement.Decorator.{Decorator}
use Rattle.py_ast.specs.declared.statement.Dotted.{Dotted}
use Rattle.py_productions.specs.Rules.{Parenthesized, empty, filled}
use Rattle.py_productions.specs.Parameters.{Arguments}
use Rattle.py_productions.specs.Members.{ArgumentPart, IsDecorator}
use Rattle.py_productions.proofs.Parts.{Mapped, mapped-out, mapped-in, optional-out, optional-in, ended-out, ended-into, maybe-map}
use Rattle.py_productions.proofs.Parentheses.{parenthesized-out, parenthesized-into}
use Rattle.py_productions.proofs.ParameterLaws.{literals-out, literals-into}
use Rattle.py_productions.proofs.MemberLaws.{decorator-out, decorator-into}

module _ (l : Phrase Token Expr) where
  abbrev Given : Type 0
  Given = Argument × List (Pos × Option Argument)

  abbrev Listing : Phrase Token (Option Given)
  Listing = in_parentheses (literal_argument_first false) (literal_arguments l)

  abbrev Part : Phrase Token (List Argument)
  Part = mapped Listing optional_items

  given-out : (x : List Token) (o : Option Given) → Parenthesized (literal_arguments l).Spells x o → ArgumentPart l.Spells x (optional_items o)
  given-out x o (empty at h n) = record { inside = None; spelled = empty at h refl; all = ap optional_items n }
  given-out x o (filled a h n) =
      let k = h.second in
      record {
        inside = Some (all_given a);
        spelled = filled (all_given a) (record {
          front = h.front;
          back = h.back;
          one = h.one;
          two = all_given h.two;
          split = h.split;
          first = h.first;
          second = record { front = k.front; back = k.back; one = all_given k.one; two = k.two; split = k.split; first = literals-out l k.front (all_given k.one) (mapped-in (literal_arguments l) all_given k.front k.one k.first); second = k.second; value = ap all_given k.value };
          value = ap all_given h.value;
        }) refl;
        all = ap optional_items n;
      }

  part-out : (x : List Token) (list : List Argument) → Part.Spells x list → ArgumentPart l.Spells x list
  part-out x list h =
      let m = mapped-out Listing optional_items x list h in
      subst (λ w. ArgumentPart l.Spells x w) (sym m.value) (given-out x m.from (parenthesized-out (literal_argument_first false) (literal_arguments l) (literal_arguments l).Spells (λ y a k. k) x m.from m.spelled))

  -- the same, with the places of the commas
  record Placed (x : List Token) (list : List Argument) : Type 0 where
    from : Option Given
    spelled : Parenthesized (literal_arguments l).Spells x from
    same : list ≡ optional_items from

  placed : (x : List Token) (list : List Argument) (o : Option (List Argument)) → Parenthesized (Arguments l.Spells) x o → list ≡ all_of o → Placed x list
  placed x list o (empty at h n) e = record { from = None; spelled = empty at h refl; same = e ∙ ap all_of n }
  placed x list o (filled a h n) e =
      let k = h.second in
      let m : Mapped (literal_arguments l).Spells all_given k.front k.one = mapped-out (literal_arguments l) all_given k.front k.one (literals-into l k.front k.one k.first) in
      record {
        from = Some m.from;
        spelled = filled m.from (record {
          front = h.front;
          back = h.back;
          one = h.one;
          two = m.from;
          split = h.split;
          first = h.first;
          second = record { front = k.front; back = k.back; one = m.from; two = k.two; split = k.split; first = m.spelled; second = k.second; value = refl };
          value = refl;
        }) refl;
        same = e ∙ ap all_of n ∙ h.value ∙ k.value ∙ m.value;
      }

  part-into : (x : List Token) (list : List Argument) → ArgumentPart l.Spells x list → Part.Spells x list
  part-into x list h =
      let p = placed x list h.inside h.spelled h.all in
      subst (λ w. Part.Spells x w) (sym p.same) (mapped-in Listing optional_items x p.from (parenthesized-into (literal_argument_first false) (literal_arguments l) (literal_arguments l).Spells (λ y a k. k) x p.from p.spelled))

  abbrev Head : Phrase Token (Dotted × Option (List Argument))
  Head = sequence decorator_name (λ n. optional (code kinds.LeftParen ∷ []) Part) both

  pub whole-out : (x : List Token) (d : Decorator) → (decorator l).Spells x d → IsDecorator l.Spells x d
  unfolding decorator
  whole-out x d h =
      let k = ended-out (code kinds.Newline) Head h.back h.two h.second in
      let f = k.first in
      record {
        front = h.front;
        back = h.back;
        one = h.one;
        two = h.two;
        split = h.split;
        first = h.first;
        second = record {
          front = k.front;
          back = k.back;
          one = k.one;
          two = k.two;
          split = k.split;
          first = record {
            front = f.front;
            back = f.back;
            one = f.one;
            two = f.two;
            split = f.split;
            first = decorator-out f.front f.one f.first;
            second = maybe-map Part.Spells (ArgumentPart l.Spells) part-out f.back f.two (optional-out (code kinds.LeftParen ∷ []) Part f.back f.two f.second);
            value = f.value;
          };
          second = k.second;
          value = k.value;
        };
        value = h.value;
      }

  pub whole-into : (x : List Token) (d : Decorator) → IsDecorator l.Spells x d → (decorator l).Spells x d
  unfolding decorator
  whole-into x d h =
      let k = h.second in
      let f = k.first in
      record {
        front = h.front;
        back = h.back;
        one = h.one;
        two = h.two;
        split = h.split;
        first = h.first;
        second = ended-into (code kinds.Newline) Head h.back h.two (record {
          front = k.front;
          back = k.back;
          one = k.one;
          two = k.two;
          split = k.split;
          first = record {
            front = f.front;
            back = f.back;
            one = f.one;
            two = f.two;
            split = f.split;
            first = decorator-into f.front f.one f.first;
            second = optional-in (code kinds.LeftParen ∷ []) Part f.back f.two (maybe-map (ArgumentPart l.Spells) Part.Spells part-into f.back f.two f.second);
            value = f.value;
          };
          second = k.second;
          value = k.value;
        });
        value = h.value;
      }
