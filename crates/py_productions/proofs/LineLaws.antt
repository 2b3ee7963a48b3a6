-- Lines of simple statements are those of the production.
use Rattle.std.proofs.Common.{ℕ, List, [], ◌∷◌, ◌++◌, Option, refl, sym, ap, subst, ◌∙◌}
use Rattle.phrases.specs.Phrases.{Phrase, sequence}
use Rattle.phrases.specs.Series.{series}
use Rattle.py_literals.specs.declared.place.Pos.{Pos}
use Rattle.py_lexer.specs.declared.token.Kind.TheVariants as kinds
use Rattle.py_lexer.specs.declared.token.Token.{Token}
use Rattle.py_ast.specs.Kinds.{class, code}
use Rattle.py_ast.specs.Trees.{all_given}
use Rattle.py_ast.specs.Grammar.{both, mapped, ended, goes_past}
use Rattle.py_ast.specs.Statements.{optional, further, line}
use Rattle.py_ast.specs.declared.statement.Stmt.{Stmt}
use Rattle.py_productions.specs.Rules.{Listed}
use Rattle.py_productions.specs.Lines.{Line}
use Rattle.py_productions.proofs.Parts.{mapped-out, mapped-in, ended-out, ended-into}
use Rattle.py_productions.proofs.Commas.{commas, commas-given, given-is, Free, free-stand, list-out, run-into}

module _ (first : List ℕ) (g : Phrase Token Stmt) where
  abbrev Statements : Phrase Token (Stmt × List (Pos × Option Stmt))
  Statements = sequence g (λ s. series class (λ t. code kinds.Semicolon ∷ []) (λ t. further first g) (λ t i. goes_past (λ s. tt {0}) i) (tt {0})) both

  pub line-out : (x : List Token) (ss : List Stmt) → (line first g).Spells x ss → Line g.Spells x ss
  unfolding line further optional
  line-out x ss h =
      let m = mapped-out (ended Statements (code kinds.Newline)) all_given x ss h in
      let k = ended-out (code kinds.Newline) Statements x m.from m.spelled in
      let t = k.first in
      let l = list-out kinds.Semicolon (λ (s : Unit {0}). first) (λ s. g) g.Spells Free (λ b. tt) (λ s y b w. (w, tt)) (λ s y b w o. w) t.front t.back t.one t.two t.first t.second in
      record {
        front = k.front;
        back = k.back;
        one = ss;
        two = k.two;
        split = k.split;
        first = record {
          first = t.one;
          others = l.others;
          end = l.end;
          listed = subst (λ (w : List Token). Listed kinds.Semicolon g.Spells w t.one l.others l.end) (sym t.split) l.listed;
          all = m.value ∙ ap all_given (k.value ∙ t.value) ∙ given-is t.one t.two l.others l.end l.same;
        };
        second = k.second;
        value = refl;
      }

  pub line-into : (x : List Token) (ss : List Stmt) → Line g.Spells x ss → (line first g).Spells x ss
  unfolding line further optional
  line-into x ss h =
      let i = h.first in
      let l = i.listed in
      let a = i.first in
      let spelled : Statements.Spells h.front (a, commas i.others i.end) = record {
        front = l.front;
        back = l.middle ++ l.back;
        one = a;
        two = commas i.others i.end;
        split = l.split;
        first = l.item;
        second = run-into kinds.Semicolon (λ (s : Unit {0}). first) (λ s. g) g.Spells Free (λ b. tt) (λ s y b w. (w, tt)) (λ s y b w o. w) tt l.middle l.back i.others i.end l.further l.trailing (free-stand _);
        value = refl;
      } in
      let whole : (ended Statements (code kinds.Newline)).Spells x (a, commas i.others i.end) = ended-into (code kinds.Newline) Statements x (a, commas i.others i.end)
      (record { front = h.front; back = h.back; one = (a, commas i.others i.end); two = h.two; split = h.split; first = spelled; second = h.second; value = refl }) in
      subst (λ w. (mapped (ended Statements (code kinds.Newline)) all_given).Spells x w) (ap (λ w. a ∷ w) (commas-given i.others i.end) ∙ sym i.all ∙ sym h.value)
      (mapped-in (ended Statements (code kinds.Newline)) all_given x (a, commas i.others i.end) whole)
