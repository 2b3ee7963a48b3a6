-- Where a string literal begins and where its body ends (Python Language Reference, 2.4.1).
use Rattle.std.specs.Prelude.{◌≡◌, ◌+◌, ◌-◌, ◌≤◌, ◌≢◌, ◌==◌, ◌||◌, ◌&&◌, ℕ, zero, suc, Bool, true, false, not, nat_le, List, [], ◌∷◌, length, take, drop, IsTrue, Option, Some, None, if◌then◌else◌}
use Rattle.std.specs.Option.{option_map, option_and_then}
use Rattle.py_literals.specs.declared.text.Prefix.{Prefix}
use Rattle.py_literals.specs.declared.text.StringKind.{StringKind}
use Rattle.py_literals.specs.declared.text.Opening.{Opening}

abbrev pub is_quote : ℕ → Bool
is_quote c = (c == 34) || (c == 39)

-- an ASCII letter in lower case
abbrev pub lower : ℕ → ℕ
lower c = if nat_le 65 c && nat_le c 90 then c + 32 else c

abbrev pub prefix : Bool → Bool → Bool → Option Prefix
prefix raw bytes formatted = Some (record { raw = raw; bytes = bytes; formatted = formatted })

-- "r" | "u" | "f" | "b", in lower case
abbrev pub one_letter : ℕ → Option Prefix
one_letter c =
    if c == 114 then prefix true false false else (
    if c == 117 then prefix false false false else (
    if c == 102 then prefix false false true else (
    if c == 98 then prefix false true false else None)))

-- an "r" with this letter before or behind it
abbrev pub beside_raw : ℕ → Option Prefix
beside_raw c = if c == 98 then prefix true true false else (if c == 102 then prefix true false true else None)

-- "rb" | "br" | "rf" | "fr", in lower case
abbrev pub two_letters : ℕ → ℕ → Option Prefix
two_letters c d = if c == 114 then beside_raw d else (if d == 114 then beside_raw c else None)

-- two of these quotes are next
abbrev pub two_quotes : ℕ → List ℕ → Bool
two_quotes q [] = false
two_quotes q (c ∷ []) = false
two_quotes q (c ∷ d ∷ ds) = (c == q) && (d == q)

abbrev pub kind_of : Prefix → ℕ → Bool → StringKind
kind_of p q triple = record { quote = q; triple = triple; raw = p.raw; bytes = p.bytes; formatted = p.formatted }

-- behind a prefix of n letters and the quote q: the opening has one quote or three
abbrev pub opened : Option Prefix → ℕ → ℕ → List ℕ → Option Opening
opened None n q cs = None
opened (Some p) n q cs = Some (record { kind = kind_of p q (two_quotes q cs); len = n + (if two_quotes q cs then 3 else 1) })

-- the prefix and the opening quotes of a string literal that begins here
abbrev pub opening : List ℕ → Option Opening
opening [] = None
opening (a ∷ []) = if is_quote a then opened (prefix false false false) 0 a [] else None
opening (a ∷ b ∷ []) =
    if is_quote a then opened (prefix false false false) 0 a (b ∷ []) else (
    if is_quote b then opened (one_letter (lower a)) 1 b [] else None)
opening (a ∷ b ∷ c ∷ cs) =
    if is_quote a then opened (prefix false false false) 0 a (b ∷ c ∷ cs) else (
    if is_quote b then opened (one_letter (lower a)) 1 b (c ∷ cs) else (
    if is_quote c then opened (two_letters (lower a) (lower b)) 2 c cs else None))

-- the closing quote or quotes are next
abbrev pub closes : StringKind → List ℕ → Bool
closes k [] = false
closes k (c ∷ cs) = (c == k.quote) && (not k.triple || two_quotes k.quote cs)

-- how many characters belong together in a body: a backslash takes the next one with it, and only a
-- triple-quoted string goes on behind a line end
abbrev pub item_len : StringKind → ℕ → List ℕ → Option ℕ
item_len k c [] = if c == 92 then None else (if (c == 10) && not k.triple then None else Some 1)
item_len k c (d ∷ ds) = if c == 92 then Some 2 else (if (c == 10) && not k.triple then None else Some 1)

-- the character may close the string, or take another one with it, or end the line of a string that has no other
abbrev pub is_mark : StringKind → ℕ → Bool
is_mark k c = (c == k.quote) || ((c == 92) || ((c == 10) && not k.triple))

-- how many characters the body has, of which the first n belong to the item before:
-- up to the first closing quotes that no backslash escapes
abbrev pub body_len_past : StringKind → List ℕ → ℕ → Option ℕ
body_len_past k [] n = None
body_len_past k (c ∷ cs) (suc n) = option_map (λ m. 1 + m) (body_len_past k cs n)
body_len_past k (c ∷ cs) zero =
    if closes k (c ∷ cs) then Some 0
    else option_and_then (λ n. option_map (λ m. 1 + m) (body_len_past k cs (n - 1))) (item_len k c cs)

-- how many characters the body has
abbrev pub body_len : StringKind → List ℕ → Option ℕ
body_len k cs = body_len_past k cs 0

-- shortstringitem* or longstringitem*: characters, and pairs of a backslash and any character
pub data IsBody (k : StringKind) : List ℕ → Type 0 where
  over : IsBody k []
  char : {c : ℕ} {cs : List ℕ} → c ≢ 92 → (c ≡ 10 → IsTrue k.triple) → IsBody k cs → IsBody k (c ∷ cs)
  escaped : {c : ℕ} {cs : List ℕ} → IsBody k cs → IsBody k (92 ∷ c ∷ cs)

-- behind the first n characters the string may end: they are items, and the closing quotes are next
pub record IsEnd (k : StringKind) (cs : List ℕ) (n : ℕ) : Type 0 where
  pub within : n ≤ length cs
  pub items : IsBody k (take n cs)
  pub closed : IsTrue (closes k (drop n cs))

-- the body ends at the first place where the string may end
pub record EndsFirst (k : StringKind) (cs : List ℕ) : Type 0 where
  pub some : (n : ℕ) → body_len k cs ≡ Some n → IsEnd k cs n
  pub first : (n m : ℕ) → body_len k cs ≡ Some n → IsEnd k cs m → n ≤ m
  pub none : body_len k cs ≡ None → (m : ℕ) → IsEnd k cs m → ⊥
