-- What is read of the front of a list of tokens is judged.
use Rattle.std.proofs.Common.{◌≡◌, ℕ, ◌+◌, ◌-◌, List, [], ◌∷◌, ◌++◌, length, take, get_or, ◌<◌, Result, Ok, Err, sym, ap, subst, ◌∙◌, arith}
use Rattle.std.proofs.lemmas.List.{take_at, length-append}
use Rattle.std.specs.Borrow.{Bor}
use Rattle.phrases.specs.Loops.{Gives}
use Rattle.phrases.specs.Reading.{Read, Stuck}
use Rattle.phrases.specs.Verdict.{Longest, StopsAt, TooDeepAt, Means}
use Rattle.phrases.specs.declared.fault.Fault.TheVariants.{Syntax, TooDeep}
use Rattle.phrases.specs.declared.fault.Stop.{Stop}
use Rattle.phrases.specs.declared.fault.Stop.TheVariants.{Memory, Fault}
use Rattle.py_literals.specs.declared.place.Pos.{Pos}
use Rattle.py_lexer.specs.declared.form.Form.{Form}
use Rattle.py_lexer.specs.declared.token.Token.{Token}
use Rattle.py_ast.specs.declared.tree.Expr.{Expr}
use Rattle.py_ast.specs.Grammar.{expr}
use Rattle.py_ast.proofs.Expressions.{expr-means}
use Rattle.py_expr.specs.Judged.{deepest, Meant, whole, unfinished, IsStop, IsPlain, IsTold, StandsAt, IsExpression, IsUnsupported, IsSyntax, IsTooDeep}

pub longest_read : (ts : List Token) (e : Expr) (y : List Token) → (expr deepest).read ts ≡ Read e y → Longest expr deepest ts e y
longest_read ts e y h = subst (Means expr deepest ts) h (expr-means deepest ts)

pub stops_read : (ts y : List Token) → (expr deepest).read ts ≡ Stuck Syntax y → StopsAt expr deepest ts y
stops_read ts y h = subst (Means expr deepest ts) h (expr-means deepest ts)

pub deep_read : (ts y : List Token) → (expr deepest).read ts ≡ Stuck TooDeep y → TooDeepAt expr deepest ts y
deep_read ts y h = subst (Means expr deepest ts) h (expr-means deepest ts)

pub meant : (ts : List Token) (r : Result (Expr × Bor (List Token)) (Stop Token)) → Gives (λ x. Read x.0 x.1.now) r ((expr deepest).read ts) → Meant ts r
meant ts (Ok x) h = longest_read ts x.0 x.1.now h
meant ts (Err Memory) h = tt
meant ts (Err (Fault Syntax y)) h = stops_read ts y.now h
meant ts (Err (Fault TooDeep y)) h = deep_read ts y.now h

take-front : (run rest : List Token) → take (length (run ++ rest) - length rest) (run ++ rest) ≡ run
take-front run rest =
    let e : length (run ++ rest) - length rest ≡ length run = omega (arith, length-append run rest) in
    take_at run rest _ (sym e)

pub run_is : (ts run rest : List Token) → ts ≡ run ++ rest → take (length ts - length rest) ts ≡ run
run_is ts run rest e = rw e (take-front run rest)

pub run_split : (ts run rest front : List Token) → ts ≡ front ++ rest → run ≡ take (length ts - length rest) ts → ts ≡ run ++ rest
run_split ts run rest front e r = e ∙ ap (λ (x : List Token). x ++ rest) (sym (r ∙ run_is ts front rest e))

pub whole_is : (at : ℕ) (ts run rest : List Token) (e : Expr) (end : ℕ) → Longest expr deepest ts e rest → run ≡ take (length ts - length rest) ts → IsPlain run rest → end ≡ at + length run → IsExpression at ts e end
whole_is at ts run rest e end l r p h =
    let same : run ≡ l.run = r ∙ run_is ts l.run rest l.split in
    record { rest = rest; longest = l; plain = subst (λ (x : List Token). IsPlain x rest) same p; ends = h ∙ ap (λ (x : List Token). at + length x) same }

pub whole_told : (ts run rest : List Token) (e : Expr) (form : Form) (place : Pos) → Longest expr deepest ts e rest → run ≡ take (length ts - length rest) ts → IsTold run rest form place → IsUnsupported ts form place
whole_told ts run rest e form place l r t =
    let same : l.run ≡ run = sym (run_is ts l.run rest l.split) ∙ sym r in
    record { run = run; rest = rest; front = whole e l same; is_told = t }

pub unfinished_is : (ts run rest : List Token) (place : Pos) → StopsAt expr deepest ts rest → run ≡ take (length ts - length rest) ts → IsPlain run rest → IsStop ts rest place → IsSyntax ts place
unfinished_is ts run rest place s r p stop =
    let same : run ≡ s.run = r ∙ run_is ts s.run rest s.split in
    record { rest = rest; stops = s; plain = subst (λ (x : List Token). IsPlain x rest) same p; stands = stop }

pub unfinished_told : (ts run rest : List Token) (form : Form) (place : Pos) → StopsAt expr deepest ts rest → run ≡ take (length ts - length rest) ts → IsTold run rest form place → IsUnsupported ts form place
unfinished_told ts run rest form place s r t =
    let same : s.run ≡ run = sym (run_is ts s.run rest s.split) ∙ sym r in
    record { run = run; rest = rest; front = unfinished s same; is_told = t }

pub deep_is : (ts rest : List Token) (place : Pos) → TooDeepAt expr deepest ts rest → StandsAt rest 0 place → IsTooDeep ts place
deep_is ts rest place d (t, after, e, h) =
    let same : d.opener ≡ t = cc (d.first, e) in
    record { rest = rest; deep = d; stands = ap (λ (k : Token). k.at) same ∙ h }

-- what is left is no longer, and the run and it are all
pub split_length : (ts run rest : List Token) → ts ≡ run ++ rest → length ts ≡ length run + length rest
split_length ts run rest e = rw e (length-append run rest)

pub some_left : (ts rest : List Token) → TooDeepAt expr deepest ts rest → 0 < length rest
some_left ts rest d = rw d.first (omega arith)

pub stop_here : (ts rest : List Token) (t : Token) → 0 < length rest → get_or rest 0 t ≡ t → IsStop ts rest t.at
stop_here ts [] t h e = absurd (omega arith)
stop_here ts (u ∷ rest) t h e = ap (λ (k : Token). k.at) e

pub stop_last : (ts rest : List Token) (place : Pos) → length rest ≡ 0 → StandsAt ts (length ts - 1) place → IsStop ts rest place
stop_last ts [] place e h = h
stop_last ts (u ∷ rest) place e h = absurd (omega arith)
