-- The fronts of bytes, and the commands with which they begin.
use Rattle.std.proofs.Common.{◌≡◌, ◌≢◌, ◌≤◌, ℕ, List, [], ◌∷◌, ◌++◌, length, take, drop, refl, sym, ap, subst, ◌∙◌, lit<, take-append-drop}
use Rattle.std.specs.Prelude.{All, codes, decimal}
use Rattle.std.specs.List.{Contains}
use Rattle.std.proofs.lemmas.List.{take_at, take-append-le}
use Rattle.std.proofs.lemmas.List.Elements.{All-contains, Contains-append_left, Contains-append_right}
use Rattle.script.specs.declared.command.Command.{Command}
use Rattle.script.specs.declared.command.Command.TheVariants as commands
use Rattle.script.specs.Grammar.{Spells, put_line, line_end, space}
use Rattle.script.specs.Stream.{BeginsNone}

-- of two ways to cut the same bytes, the shorter front is a front of the longer
pub front_of : (a b x y : List ℕ) → a ++ x ≡ b ++ y → length a ≤ length b → b ≡ a ++ drop (length a) b
front_of a b x y same le =
    sym (take-append-drop (length a) b)
    ∙ ap (λ (z : List ℕ). z ++ drop (length a) b) (sym (take-append-le (length a) b y le) ∙ ap (take (length a)) (sym same) ∙ take_at a x (length a) refl)

-- the text of a command ends with the end of a line
pub ends_line : (at : ℕ) (text : List ℕ) (c : Command) → Spells at text c → (front : List ℕ) × (text ≡ front ++ line_end ∷ [])
ends_line at text (commands.Put path from len) s = (put_line path len ++ s.3, s.5)
ends_line at text (commands.Drop path) s = (codes "drop " ++ path, s.1)
ends_line at text (commands.Ask session query) s = (codes "ask " ++ decimal session ++ space ∷ s.1, s.3)
ends_line at text commands.Sync s = (codes "sync", s)
ends_line at text (commands.Run fuel calls draws) s = (codes "run " ++ decimal fuel ++ space ∷ s.1, s.4)
ends_line at text commands.End s = (codes "end", s)

-- without the end of a line there is no command
pub inline_none : (bytes : List ℕ) → All (λ b. b ≢ line_end) bytes → BeginsNone 0 bytes
inline_none bytes all = λ command rest b.
    let e = ends_line 0 b.text command b.spells in
    let last : Contains (line_end ∷ []) line_end = (0, lit< tt, refl) in
    let within : Contains ((e.0 ++ line_end ∷ []) ++ rest) line_end = Contains-append_left (e.0 ++ line_end ∷ []) rest line_end (Contains-append_right e.0 (line_end ∷ []) line_end last) in
    let has : Contains bytes line_end = subst (λ (x : List ℕ). Contains x line_end) (sym (b.parts ∙ ap (λ (t : List ℕ). t ++ rest) e.1)) within in
    All-contains (λ b. b ≢ line_end) bytes line_end all has refl
