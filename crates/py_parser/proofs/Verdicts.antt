-- What the outcome of reading a file says of its tokens.
use Rattle.std.specs.Prelude.{IfSome}
use Rattle.std.proofs.Common.{◌≡◌, ℕ, inl, inr, Option, ◌+◌, ◌-◌, ◌<◌, ◌≤◌, List, [], ◌∷◌, ◌++◌, length, get_or, Some, None, refl, sym, subst, ◌∙◌, ap, arith, length-append}
use Rattle.std.specs.List.{flat_map}
use Rattle.std.proofs.lemmas.Option.{slice_get-get_or}
use Rattle.phrases.specs.Reading.{Outcome, Read, Stuck}
use Rattle.phrases.specs.Verdict.{Longest, StopsAt, TooDeepAt, Means}
use Rattle.phrases.specs.declared.fault.Fault.TheVariants.{Syntax, TooDeep}
use Rattle.phrases.proofs.Sets.{append_none}
use Rattle.py_literals.specs.declared.place.Pos.{Pos}
use Rattle.py_lexer.specs.declared.token.Token.{Token}
use Rattle.py_forms.specs.declared.telling.ToldForm.{ToldForm}
use Rattle.later_forms.specs.Later.{told_on_line, told_before}
use Rattle.py_ast.specs.Files.{file, module_of}
use Rattle.py_ast.specs.declared.statement.Stmt.{Stmt}
use Rattle.py_ast.proofs.FileLaws.{file-means}
use Rattle.py_parser.specs.Lists.{with_all}
use Rattle.py_parser.proofs.Added.{all_read, all_stuck}
use Rattle.py_parser.specs.Faults.{IsModule, Ends, SyntaxStop, StopPlace, IsSyntax, IsUnsupported, IsTooDeep, StandsAt, Tells}

means : (ts : List Token) (o : Outcome Token (List (List Stmt))) → o ≡ (file 100).read ts → Means file 100 ts o
means ts o e = rw e (file-means 100 ts)

whole : (ts : List Token) (lines : List (List Stmt)) → Longest file 100 ts lines [] → (file 100).Spells ts lines
whole ts lines l = rw (l.split ∙ append_none l.run) l.spelled

is_module : (ts : List Token) (lines : List (List Stmt)) → (file 100).read ts ≡ Read lines [] → IsModule ts (module_of lines)
is_module ts lines e = (lines, whole ts lines (means ts (Read lines []) (sym e)), refl)

stops_behind : (ts : List Token) (lines : List (List Stmt)) (t : Token) (rest : List Token) → (file 100).read ts ≡ Read lines (t ∷ rest) → SyntaxStop ts (t ∷ rest)
stops_behind ts lines t rest e =
    let l = means ts (Read lines (t ∷ rest)) (sym e) in
    record {
      run = l.run;
      split = l.split;
      viable = ([], lines, (100, rw (append_none l.run) l.spelled));
      ends = l.ends;
      shallow = l.shallow;
    }

ends-of : (ts rest : List Token) (s : StopsAt file 100 ts rest) → Ends s.run rest
ends-of ts [] s = s.unspelled
ends-of ts (t ∷ rest) s = s.ends

pub stops_inside : (ts rest : List Token) → with_all [] ((file 100).read ts) ≡ Stuck Syntax rest → SyntaxStop ts rest
stops_inside ts rest e =
    let s : StopsAt file 100 ts rest = means ts (Stuck Syntax rest) (sym (all_stuck ((file 100).read ts) Syntax rest e)) in
    record { run = s.run; split = s.split; viable = s.viable; ends = ends-of ts rest s; shallow = s.shallow }

pub too_deep : (ts rest : List Token) → with_all [] ((file 100).read ts) ≡ Stuck TooDeep rest → TooDeepAt file 100 ts rest
too_deep ts rest e = means ts (Stuck TooDeep rest) (sym (all_stuck ((file 100).read ts) TooDeep rest e))

-- ---- the run before the stop

pub count_is : (ts run rest : List Token) → ts ≡ run ++ rest → length ts - length rest ≡ length run
count_is ts run rest e = let n : length ts ≡ length run + length rest = ap length e ∙ length-append run rest in omega arith

pub rest_fits : (ts run rest : List Token) → ts ≡ run ++ rest → length rest ≤ length ts
rest_fits ts run rest e = rw e (omega (arith, length-append run rest))

-- ---- what was read

module_ends : (ts : List Token) (lines : List (List Stmt)) (rest : List Token) (body : List Stmt) → (file 100).read ts ≡ Read lines rest → length rest < 1 → body ≡ flat_map (λ line. line) lines → IsModule ts (record { body = body })
module_ends ts lines [] body e n b = rw b (is_module ts lines e)
module_ends ts lines (t ∷ rest) body e n b = absurd (omega arith)

pub module_read : (ts rest : List Token) (body : List Stmt) → with_all [] ((file 100).read ts) ≡ Read body rest → length rest < 1 → IsModule ts (record { body = body })
module_read ts rest body e n = let (lines, read, b) = all_read ((file 100).read ts) body rest e in module_ends ts lines rest body read n b

empty-read : (file 100).read [] ≡ Read [] []
unfolding file
empty-read = refl

pub empty_is : (ts : List Token) (body : List Stmt) → length ts ≡ 0 → body ≡ [] → IsModule ts (record { body = body })
empty_is [] body n b = rw b (is_module [] [] empty-read)
empty_is (t ∷ ts) body n b = absurd (omega arith)

goes_on : (ts : List Token) (lines : List (List Stmt)) (rest : List Token) → (file 100).read ts ≡ Read lines rest → 0 < length rest → SyntaxStop ts rest
goes_on ts lines [] e n = absurd (omega arith)
goes_on ts lines (t ∷ rest) e n = stops_behind ts lines t rest e

pub stops_left : (ts rest : List Token) (body : List Stmt) → with_all [] ((file 100).read ts) ≡ Read body rest → 0 < length rest → SyntaxStop ts rest
stops_left ts rest body e n = let (lines, read, b) = all_read ((file 100).read ts) body rest e in goes_on ts lines rest read n

-- ---- places and forms

moved : (told : List Token → ℕ → Option ToldForm) (ts : List Token) (i j : ℕ) (o p : Option ToldForm) → i ≡ j → o ≡ p → o ≡ told ts i → told ts j ≡ p
moved told ts i j o p e same h = ap (told ts) (sym e) ∙ sym h ∙ same

pub syntax_is : (ts rest : List Token) (place : Pos) (o : Option ToldForm) → SyntaxStop ts rest → o ≡ None → o ≡ told_on_line ts (length ts - length rest) → StopPlace ts rest place → IsSyntax ts place
syntax_is ts rest place o s none told stop =
    (rest, s, moved told_on_line ts (length ts - length rest) (length s.run) o None (count_is ts s.run rest s.split) none told, stop)

pub deep_is : (ts rest : List Token) (place : Pos) (o : Option ToldForm) → TooDeepAt file 100 ts rest → o ≡ None → o ≡ told_before ts (length ts - length rest) → StopPlace ts rest place → IsTooDeep ts place
deep_is ts rest place o d none told stop =
    (rest, d, moved told_before ts (length ts - length rest) (length d.run) o None (count_is ts d.run rest d.split) none told, stop)

stands : (ts : List Token) (i : ℕ) (t : Token) → i < length ts → StandsAt ts i (get_or ts i t).at
stands ts i t inside = (get_or ts i t, slice_get-get_or ts i t inside, refl)

within : (ts : List Token) (o : Option ToldForm) (found : ToldForm) → o ≡ Some found → IfSome o (λ f. f.place < length ts) → found.place < length ts
within ts None found some inside = absurd (cc some)
within ts (Some f) found some inside = let same : f ≡ found = cc some in subst (λ (x : ToldForm). x.place < length ts) same inside

pub told_at_stop : (ts rest : List Token) (o : Option ToldForm) (found : ToldForm) (t : Token) → SyntaxStop ts rest → o ≡ Some found → o ≡ told_on_line ts (length ts - length rest) → IfSome o (λ f. f.place < length ts) → IsUnsupported ts found.form (get_or ts found.place t).at
told_at_stop ts rest o found t s some told inside =
    let h = moved told_on_line ts (length ts - length rest) (length s.run) o (Some found) (count_is ts s.run rest s.split) some told in
    inl (rest, s, (found, h, refl, stands ts found.place t (within ts o found some inside)))

pub told_behind_deep : (ts rest : List Token) (o : Option ToldForm) (found : ToldForm) (t : Token) → TooDeepAt file 100 ts rest → o ≡ Some found → o ≡ told_before ts (length ts - length rest) → IfSome o (λ f. f.place < length ts) → IsUnsupported ts found.form (get_or ts found.place t).at
told_behind_deep ts rest o found t d some told inside =
    let h = moved told_before ts (length ts - length rest) (length d.run) o (Some found) (count_is ts d.run rest d.split) some told in
    inr (rest, d, (found, h, refl, stands ts found.place t (within ts o found some inside)))
