-- Where the reading of a file stops.
use Rattle.std.proofs.Common.{◌≡◌, ℕ, suc, ◌+◌, ◌-◌, ◌<◌, ◌≤◌, true, false, List, [], ◌∷◌, ◌++◌, length, take, refl, sym, ap, subst, ◌∙◌, append_assoc, length-append, arith}
use Rattle.std.specs.Prelude.{min, ◌==◌}
use Rattle.std.proofs.lemmas.Bool.{eqb-true}
use Rattle.py_lexer.specs.declared.token.Token.{Token}
use Rattle.phrases.specs.Phrases.{Phrase}
use Rattle.phrases.specs.Reading.{Outcome, Read, Stuck}
use Rattle.phrases.specs.Verdict.{Means, EndsAt}
use Rattle.phrases.specs.declared.fault.Fault.{Fault}
use Rattle.phrases.specs.declared.fault.Fault.TheVariants.{Syntax, TooDeep}
use Rattle.phrases.proofs.Outcomes.{verdict, one_tree}
use Rattle.phrases.proofs.Sets.{append_none}
use Rattle.pysa_syntax.specs.declared.decl.Decl.{Decl}
use Rattle.pysa_syntax.specs.Symbols.{class, model_first}
use Rattle.pysa_syntax.specs.Grammar.{file}
use Rattle.pysa_syntax.specs.Faults.{Spells, Viable, Longest, StopsAt}
use Rattle.pysa_syntax.proofs.Grammar.{empty_sets, file-is}

-- the same grammar, whatever the room
abbrev files : ℕ → Phrase Token (List Decl)
files room = file

means : (ts : List Token) → Means files 0 ts (file.read ts)
means ts = verdict class files (empty_sets model_first model_first) 0 (λ n. file-is.laws) ts

front : {A : Type 0} (x y : List A) → take (length x) (x ++ y) ≡ x
front [] y = refl
front (t ∷ x) y = ap (λ v. t ∷ v) (front x y)

front_more : {A : Type 0} (x : List A) (t : A) (y : List A) → take (suc (length x)) (x ++ t ∷ y) ≡ x ++ t ∷ []
front_more [] t y = refl
front_more (u ∷ x) t y = ap (λ v. u ∷ v) (front_more x t y)

-- what a longest part makes of the whole
module _ (ts run y : List Token) (split : ts ≡ run ++ y) where
  sizes : length ts ≡ length run + length y
  sizes = ap length split ∙ length-append run y

  is-front : take (length run) ts ≡ run
  is-front = ap (λ (v : List Token). take (length run) v) split ∙ front run y

  viable-front : Viable run → Viable (take (length run) ts)
  viable-front h = subst Viable (sym is-front) h

ended : (ts run y : List Token) → ts ≡ run ++ y → EndsAt files run y → length run < length ts → Viable (take (suc (length run)) ts) → ⊥
ended ts run [] split ends less h = omega (arith, sizes ts run [] split, less)
ended ts run (t ∷ y) split ends less h =
    let e : take (suc (length run)) ts ≡ run ++ t ∷ [] = ap (λ (v : List Token). take (suc (length run)) v) split ∙ front_more run t y in
    let (z, a, k) = subst Viable e h in
    ends (z, a, (0, k))

longest : (ts run y : List Token) → ts ≡ run ++ y → Viable run → EndsAt files run y → Longest ts (length run)
longest ts run y split viable ends = record {
  within = omega (arith, sizes ts run y split);
  viable = viable-front ts run y split viable;
  ends = ended ts run y split ends;
}

-- where the reading of ts stopped before y
pub record Stopped (ts y : List Token) : Type 0 where
  pub some : 0 < length ts
  pub left : length y ≤ length ts
  pub stops : StopsAt ts (min (length ts - length y) (length ts - 1))

nothing-spelled : Spells [] []
unfolding file
nothing-spelled = refl

some-token : (ts : List Token) → ((decls : List Decl) → Spells ts decls → ⊥) → 0 < length ts
some-token [] none = absurd (none [] nothing-spelled)
some-token (t ∷ ts) none = omega arith

stopped : (ts run y : List Token) → ts ≡ run ++ y → Viable run → EndsAt files run y → ((decls : List Decl) → Spells ts decls → ⊥) → Stopped ts y
stopped ts run y split viable ends none =
    let e : length ts - length y ≡ length run = omega (arith, sizes ts run y split) in
    record {
      some = some-token ts none;
      left = omega (arith, sizes ts run y split);
      stops = record { unspelled = none; count = length run; longest = longest ts run y split viable ends; is = ap (λ v. min v (length ts - 1)) e };
    }

-- a list that goes on behind its longest part is not spelled
goes-on : (ts run : List Token) (t : Token) (y : List Token) → ts ≡ run ++ t ∷ y → EndsAt files run (t ∷ y) → (decls : List Decl) → Spells ts decls → ⊥
goes-on ts run t y split ends decls h =
    let S : List Token → Type 0 = λ v. Spells v decls in
    ends (y, decls, (0, subst S (split ∙ sym (append_assoc run (t ∷ []) y)) h))

pub spelled : (ts : List Token) (decls : List Decl) (y : List Token) → file.read ts ≡ Read decls y → y ≡ [] → Spells ts decls
spelled ts decls y e none =
    let M : Outcome Token (List Decl) → Type 0 = λ o. Means files 0 ts o in
    let m = subst M e (means ts) in
    let whole : m.run ≡ ts = sym (m.split ∙ ap (λ (v : List Token). m.run ++ v) none ∙ append_none m.run) in
    let S : List Token → Type 0 = λ v. Spells v decls in
    subst S whole m.spelled

read-on : (ts : List Token) (decls : List Decl) (y : List Token) → Means files 0 ts (Read decls y) → 0 < length y → Stopped ts y
read-on ts decls [] m h = absurd (omega arith)
read-on ts decls (t ∷ y) m h =
    let viable : Viable m.run = ([], decls, (let S : List Token → Type 0 = λ v. Spells v decls in subst S (sym (append_none m.run)) m.spelled)) in
    stopped ts m.run (t ∷ y) m.split viable m.ends (goes-on ts m.run t y m.split m.ends)

pub stopped_behind : (ts : List Token) (decls : List Decl) (y : List Token) → file.read ts ≡ Read decls y → 0 < length y → Stopped ts y
stopped_behind ts decls y e h = let M : Outcome Token (List Decl) → Type 0 = λ o. Means files 0 ts o in read-on ts decls y (subst M e (means ts)) h

stuck : (ts : List Token) (f : Fault) (y : List Token) → Means files 0 ts (Stuck f y) → Stopped ts y
stuck ts TooDeep y m = absurd (file-is.flat (m.run ++ m.opener ∷ []) m.opens)
stuck ts Syntax [] m =
    let (z, a, (n, k)) = m.viable in
    let whole : ts ≡ m.run = m.split ∙ append_none m.run in
    stopped ts m.run [] m.split (z, a, k) m.ends (λ decls h. let S : List Token → Type 0 = λ v. Spells v decls in m.unspelled decls (0, subst S whole h))
stuck ts Syntax (t ∷ y) m = let (z, a, (n, k)) = m.viable in stopped ts m.run (t ∷ y) m.split (z, a, k) m.ends (goes-on ts m.run t y m.split m.ends)

pub stopped_at : (ts : List Token) (f : Fault) (y : List Token) → file.read ts ≡ Stuck f y → Stopped ts y
stopped_at ts f y e = let M : Outcome Token (List Decl) → Type 0 = λ o. Means files 0 ts o in stuck ts f y (subst M e (means ts))

-- no list spells two lists of models
pub one_reading : (ts : List Token) (a b : List Decl) → Spells ts a → Spells ts b → a ≡ b
one_reading ts a b h k = one_tree class files (empty_sets model_first model_first) (λ room n. file-is.laws) ts a b (0, h) (0, k)

pub not_empty : (y : List Token) → (length y == 0) ≡ false → 0 < length y
not_empty [] e = absurd cc
not_empty (t ∷ y) e = omega arith

pub empty : (y : List Token) → (length y == 0) ≡ true → y ≡ []
empty [] e = refl
empty (t ∷ y) e = absurd (omega (arith, eqb-true (suc (length y)) 0 e))
