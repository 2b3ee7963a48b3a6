-- How long the line of a command can be.
use Rattle.std.proofs.Common.{◌≡◌, ℕ, ◌+◌, ◌≤◌, List, [], ◌∷◌, ◌++◌, length, get_or, refl, sym, ap, subst, ◌∙◌, append_assoc, arith, inl, inr}
use Rattle.std.specs.Prelude.{codes, decimal}
use Rattle.std.proofs.lemmas.Bool.{cases_lt}
use Rattle.std.proofs.lemmas.Bool.Decides.{nat_tests}
use Rattle.std.proofs.lemmas.List.{length-append, get_or_append_left}
use Rattle.std.proofs.Math.Seq.{get_or-append_seam}
use Rattle.std.proofs.lemmas.Fmt.{length-decimal-le}
use Rattle.script.specs.declared.command.Command.{Command}
use Rattle.script.specs.declared.command.Command.TheVariants as commands
use Rattle.script.specs.declared.command.Query.{Query}
use Rattle.script.specs.declared.command.Query.TheVariants as queries
use Rattle.script.specs.Grammar.{line_end, space, SpellsQuery, Spells}
use Rattle.script.specs.Stream.{IsOpenName, IsOpenJson, IsUnfinished, longest, longest_from}
use Rattle.script.proofs.Laws.{IsInline}

-- bytes without a line end lie within the line that they begin
line_front : (bytes more line rest : List ℕ) → IsInline bytes → bytes ++ more ≡ line ++ line_end ∷ rest → length bytes ≤ length line
line_front bytes more line rest inline e =
    elim (cases_lt (length line) (length bytes)) [
      | inl lt ↦ absurd (inline (length line) 0 lt (sym (get_or_append_left bytes more 0 (length line) lt) ∙ ap (λ (x : List ℕ). get_or x (length line) 0) e ∙ get_or-append_seam line line_end rest 0))
      | inr le ↦ le
    ]

-- a line that begins with this byte and is no longer than it may be
bounded : (bytes more tail line rest : List ℕ) (head : ℕ) → IsInline bytes → bytes ++ more ≡ line ++ line_end ∷ rest → line ++ line_end ∷ rest ≡ head ∷ tail → length line ≤ longest_from head → length bytes ≤ longest bytes
bounded [] more tail line rest head inline e begins le = omega arith
bounded (b ∷ bytes) more tail line rest head inline e begins le =
    let same : b ≡ head = cc (e ∙ begins) in
    let short : length (b ∷ bytes) ≤ length line = line_front (b ∷ bytes) more line rest inline e in
    subst (λ x. length (b ∷ bytes) ≤ longest_from x) (sym same) (omega (arith, short, le))

question_length : (question : List ℕ) (query : Query) → SpellsQuery question query → length question ≤ 4102
question_length question queries.Issues h = omega (arith, ap length h)
question_length question (queries.IssuesOf path) h = omega (arith, ap length h.1, length-append (codes "issues ") path, h.0.len.1)
question_length question (queries.Model name) h = omega (arith, ap length h.1, length-append (codes "model ") name, h.0.len.1)
question_length question (queries.Trace number) h = omega (arith, ap length h.1, length-append (codes "trace ") (decimal number), length-decimal-le 10 number (omega arith) (omega (arith, h.0.1)) (omega (arith, h.0.1)))
question_length question queries.Notes h = omega (arith, ap length h)
question_length question queries.Version h = omega (arith, ap length h)

front_length : (at : ℕ) (bytes more : List ℕ) (c : Command) → IsInline bytes → Spells at (bytes ++ more) c → length bytes ≤ longest bytes
front_length at bytes more (commands.Put path from len) inline h =
    let line = codes "put " ++ path ++ space ∷ decimal len in
    let digits = length-decimal-le 10 len (omega arith) (omega (arith, h.1)) (omega (arith, h.1)) in
    bounded bytes more (codes "ut " ++ (path ++ space ∷ decimal len) ++ line_end ∷ (h.3 ++ line_end ∷ [])) line (h.3 ++ line_end ∷ []) 112 inline (h.5 ∙ simp append_assoc) (simp append_assoc)
    (omega (arith, length-append (codes "put " ++ path) (space ∷ decimal len), length-append (codes "put ") path, h.0.len.1, digits))
front_length at bytes more (commands.Drop path) inline h =
    let line = codes "drop " ++ path in
    bounded bytes more (codes "rop " ++ path ++ line_end ∷ []) line [] 100 inline h.1 refl (omega (arith, length-append (codes "drop ") path, h.0.len.1))
front_length at bytes more (commands.Ask session query) inline h =
    let question = h.1 in
    let line = codes "ask " ++ decimal session ++ space ∷ question in
    let digits = length-decimal-le 2 session (omega arith) (omega (arith, h.0.1)) (omega (arith, h.0.1)) in
    bounded bytes more (codes "sk " ++ (decimal session ++ space ∷ question) ++ line_end ∷ []) line [] 97 inline h.3 (simp append_assoc)
    (omega (arith, length-append (codes "ask " ++ decimal session) (space ∷ question), length-append (codes "ask ") (decimal session), digits, question_length question query h.2))
front_length at bytes more commands.Sync inline h = bounded bytes more (codes "ync\n") (codes "sync") [] 115 inline h refl (omega arith)
front_length at bytes more (commands.Run fuel calls draws) inline h =
    let json = h.1 in
    let line = codes "run " ++ decimal fuel ++ space ∷ json in
    let digits = length-decimal-le 7 fuel (omega arith) (omega (arith, h.0.1)) (omega (arith, h.0.1)) in
    bounded bytes more (codes "un " ++ (decimal fuel ++ space ∷ json) ++ line_end ∷ []) line [] 114 inline h.4 (simp append_assoc)
    (omega (arith, length-append (codes "run " ++ decimal fuel) (space ∷ json), length-append (codes "run ") (decimal fuel), digits, h.2.len))
front_length at bytes more commands.End inline h = bounded bytes more (codes "nd\n") (codes "end") [] 101 inline h refl (omega arith)

name_length : (bytes : List ℕ) → IsOpenName bytes → length bytes ≤ longest bytes
name_length bytes o =
    let digits = length-decimal-le 2 o.session (omega arith) (omega (arith, o.within.1)) (omega (arith, o.within.1)) in
    let text = codes "ask " ++ decimal o.session ++ codes " model " ++ o.name in
    let len : length text ≤ 4109 = omega (arith, length-append (codes "ask " ++ decimal o.session ++ codes " model ") o.name, length-append (codes "ask " ++ decimal o.session) (codes " model "), length-append (codes "ask ") (decimal o.session), digits, o.line.len) in
    subst (λ b. length b ≤ longest b) (sym o.parts) len

json_length : (bytes : List ℕ) → IsOpenJson bytes → length bytes ≤ longest bytes
json_length bytes o =
    let digits = length-decimal-le 7 o.fuel (omega arith) (omega (arith, o.within.1)) (omega (arith, o.within.1)) in
    let text = codes "run " ++ decimal o.fuel ++ space ∷ o.json in
    let len : length text ≤ 1048588 = omega (arith, length-append (codes "run " ++ decimal o.fuel) (space ∷ o.json), length-append (codes "run ") (decimal o.fuel), digits, o.line.len) in
    subst (λ b. length b ≤ longest b) (sym o.parts) len

unfinished_length : (at : ℕ) (bytes : List ℕ) → IsInline bytes → IsUnfinished at bytes → length bytes ≤ longest bytes
unfinished_length at bytes inline (inl f) = front_length at bytes f.more f.command inline f.spells
unfinished_length at bytes inline (inr (inl o)) = name_length bytes o
unfinished_length at bytes inline (inr (inr o)) = json_length bytes o

longest_any : (b : ℕ) → longest_from b ≤ 1048588
longest_any b = grind (arith, nat_tests)

longest_more : (bytes more : List ℕ) → longest (bytes ++ more) ≤ longest bytes
longest_more [] [] = omega arith
longest_more [] (b ∷ more) = longest_any b
longest_more (b ∷ bytes) more = omega arith

-- so many bytes without the end of a line are no command's, whatever follows
pub too_long : (at : ℕ) (bytes more : List ℕ) → IsInline (bytes ++ more) → at + longest bytes + 1 ≤ at + length (bytes ++ more) → IsUnfinished at (bytes ++ more) → ⊥
too_long at bytes more inline long u = absurd (omega (arith, unfinished_length at (bytes ++ more) inline u, longest_more bytes more, long))
