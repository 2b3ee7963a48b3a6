-- Strings: where they begin and end in a text, and in the fronts of it.
use Rattle.std.proofs.Common.{◌≡◌, ℕ, zero, suc, ◌+◌, ◌-◌, ◌<◌, ◌≤◌, Bool, true, false, not, cond, eqb, ◌||◌, List, [], ◌∷◌, ◌++◌, length, take, drop, Option, Some, None, refl, sym, ap, subst, ◌∙◌, length-append, length-take, length-drop, length-take-le, take-take, take-add, arith}
use Rattle.std.proofs.lemmas.List.{drop-take}
use Rattle.std.proofs.lemmas.Bool.{and_parts, and_from, eqb-true, false≢true}
use Rattle.py_literals.specs.declared.text.StringKind.{StringKind}
use Rattle.py_literals.specs.declared.text.Prefix.{Prefix}
use Rattle.py_literals.specs.declared.text.Opening.{Opening}
use Rattle.py_literals.specs.Text.{is_quote, lower, prefix, one_letter, two_letters, two_quotes, kind_of, opened, opening, closes, body_len, IsBody, IsEnd}
use Rattle.py_literals.proofs.Bodies.{first_end}
use Rattle.py_lexer.specs.Strings.{quotes_len}
use Rattle.py_lexer.specs.Layout.{quotes_of, IsStringOf, IsString}

-- openings

two_quotes_front : (q : ℕ) (xs : List ℕ) (i : ℕ) (t : Bool) → two_quotes q xs ≡ t → (t ≡ true → 2 ≤ i) → two_quotes q (take i xs) ≡ t
two_quotes_front q [] zero t e h = e
two_quotes_front q [] (suc i) t e h = e
two_quotes_front q (c ∷ []) zero t e h = e
two_quotes_front q (c ∷ []) (suc zero) t e h = e
two_quotes_front q (c ∷ []) (suc (suc i)) t e h = e
two_quotes_front q (c ∷ d ∷ ds) zero true e h = let l = h refl in absurd (omega arith)
two_quotes_front q (c ∷ d ∷ ds) zero false e h = refl
two_quotes_front q (c ∷ d ∷ ds) (suc zero) true e h = let l = h refl in absurd (omega arith)
two_quotes_front q (c ∷ d ∷ ds) (suc zero) false e h = refl
two_quotes_front q (c ∷ d ∷ ds) (suc (suc i)) t e h = e

two_quotes_long : (q : ℕ) (xs : List ℕ) → two_quotes q xs ≡ true → 2 ≤ length xs
two_quotes_long q [] e = absurd (false≢true e)
two_quotes_long q (c ∷ []) e = absurd (false≢true e)
two_quotes_long q (c ∷ d ∷ ds) e = omega arith

-- behind n characters of a prefix, a quote and xs: this opening, and in each front of xs that holds it
record Opened (p : Option Prefix) (n q : ℕ) (xs : List ℕ) (o : Opening) : Type 0 where
  long : n + 1 ≤ o.len
  short : o.len ≤ n + (1 + length xs)
  fronts : (i : ℕ) → o.len ≤ n + (1 + i) → opened p n q (take i xs) ≡ Some o

opened_by : (p : Prefix) (n q : ℕ) (xs : List ℕ) (o : Opening) (t : Bool) → two_quotes q xs ≡ t → Some (record { kind = kind_of p q t; len = n + (cond t 3 1) }) ≡ Some o → Opened (Some p) n q xs o
opened_by p n q xs o true e f =
    let made : Opening = record { kind = kind_of p q true; len = n + 3 } in
    let same : made ≡ o = cc in
    let len : n + 3 ≡ o.len = ap (λ (x : Opening). x.len) same in
    record {
      long = omega arith;
      short = omega (arith, two_quotes_long q xs e);
      fronts = λ i h.
          let w : two_quotes q (take i xs) ≡ true = two_quotes_front q xs i true e (λ _. omega arith) in
          rw w f;
    }
opened_by p n q xs o false e f =
    let made : Opening = record { kind = kind_of p q false; len = n + 1 } in
    let same : made ≡ o = cc in
    let len : n + 1 ≡ o.len = ap (λ (x : Opening). x.len) same in
    record {
      long = omega arith;
      short = omega arith;
      fronts = λ i h.
          let w : two_quotes q (take i xs) ≡ false = two_quotes_front q xs i false e (λ t. absurd (false≢true t)) in
          rw w f;
    }

opened_in : (p : Option Prefix) (n q : ℕ) (xs : List ℕ) (o : Opening) → opened p n q xs ≡ Some o → Opened p n q xs o
opened_in None n q xs o e = absurd (cc)
opened_in (Some p) n q xs o e = opened_by p n q xs o (two_quotes q xs) refl e

pub open_at_once : (a : ℕ) (xs : List ℕ) → is_quote a ≡ true → opening (a ∷ xs) ≡ opened (prefix false false false) 0 a xs
open_at_once a [] t = rw t refl
open_at_once a (b ∷ []) t = rw t refl
open_at_once a (b ∷ c ∷ cs) t = rw t refl

pub open_behind_one : (a b : ℕ) (xs : List ℕ) → is_quote a ≡ false → is_quote b ≡ true → opening (a ∷ b ∷ xs) ≡ opened (one_letter (lower a)) 1 b xs
open_behind_one a b [] t u = rw (t, u) refl
open_behind_one a b (c ∷ cs) t u = rw (t, u) refl

pub open_behind_two : (a b c : ℕ) (xs : List ℕ) → is_quote a ≡ false → is_quote b ≡ false → is_quote c ≡ true → opening (a ∷ b ∷ c ∷ xs) ≡ opened (two_letters (lower a) (lower b)) 2 c xs
open_behind_two a b c xs t u w = rw (t, u, w) refl

pub no_opening_three : (a b c : ℕ) (xs : List ℕ) → is_quote a ≡ false → is_quote b ≡ false → is_quote c ≡ false → opening (a ∷ b ∷ c ∷ xs) ≡ None
no_opening_three a b c xs t u w = rw (t, u, w) refl

pub no_opening_two : (a b : ℕ) → is_quote a ≡ false → is_quote b ≡ false → opening (a ∷ b ∷ []) ≡ None
no_opening_two a b t u = rw (t, u) refl

pub no_opening_one : (a : ℕ) → is_quote a ≡ false → opening (a ∷ []) ≡ None
no_opening_one a t = rw t refl

-- the opening at the front of cs, and of each front of cs that holds it
pub record OpensIn (cs : List ℕ) (o : Opening) : Type 0 where
  pub long : 1 ≤ o.len
  pub short : o.len ≤ length cs
  pub fronts : (m : ℕ) → o.len ≤ m → opening (take m cs) ≡ Some o

at_once_fronts : (a : ℕ) (xs : List ℕ) (o : Opening) → is_quote a ≡ true → Opened (prefix false false false) 0 a xs o → (m : ℕ) → o.len ≤ m → opening (take m (a ∷ xs)) ≡ Some o
at_once_fronts a xs o t h zero l = absurd (omega (arith, h.long))
at_once_fronts a xs o t h (suc i) l = open_at_once a (take i xs) t ∙ h.fronts i (omega arith)

behind_one_fronts : (a b : ℕ) (xs : List ℕ) (o : Opening) → is_quote a ≡ false → is_quote b ≡ true → Opened (one_letter (lower a)) 1 b xs o → (m : ℕ) → o.len ≤ m → opening (take m (a ∷ b ∷ xs)) ≡ Some o
behind_one_fronts a b xs o t u h zero l = absurd (omega (arith, h.long))
behind_one_fronts a b xs o t u h (suc zero) l = absurd (omega (arith, h.long))
behind_one_fronts a b xs o t u h (suc (suc i)) l = open_behind_one a b (take i xs) t u ∙ h.fronts i (omega arith)

behind_two_fronts : (a b c : ℕ) (xs : List ℕ) (o : Opening) → is_quote a ≡ false → is_quote b ≡ false → is_quote c ≡ true → Opened (two_letters (lower a) (lower b)) 2 c xs o
    → (m : ℕ) → o.len ≤ m → opening (take m (a ∷ b ∷ c ∷ xs)) ≡ Some o
behind_two_fronts a b c xs o t u w h zero l = absurd (omega (arith, h.long))
behind_two_fronts a b c xs o t u w h (suc zero) l = absurd (omega (arith, h.long))
behind_two_fronts a b c xs o t u w h (suc (suc zero)) l = absurd (omega (arith, h.long))
behind_two_fronts a b c xs o t u w h (suc (suc (suc i))) l = open_behind_two a b c (take i xs) t u w ∙ h.fronts i (omega arith)

opens_third : (a b c : ℕ) (xs : List ℕ) (o : Opening) (q : Bool) → is_quote a ≡ false → is_quote b ≡ false → is_quote c ≡ q → opening (a ∷ b ∷ c ∷ xs) ≡ Some o → OpensIn (a ∷ b ∷ c ∷ xs) o
opens_third a b c xs o true t u w e =
    let h = opened_in (two_letters (lower a) (lower b)) 2 c xs o (sym (open_behind_two a b c xs t u w) ∙ e) in
    record { long = omega (arith, h.long); short = omega (arith, h.short); fronts = behind_two_fronts a b c xs o t u w h }
opens_third a b c xs o false t u w e = let z = no_opening_three a b c xs t u w in absurd (cc)

opens_second : (a b : ℕ) (xs : List ℕ) (o : Opening) (q : Bool) → is_quote a ≡ false → is_quote b ≡ q → opening (a ∷ b ∷ xs) ≡ Some o → OpensIn (a ∷ b ∷ xs) o
opens_second a b xs o true t u e =
    let h = opened_in (one_letter (lower a)) 1 b xs o (sym (open_behind_one a b xs t u) ∙ e) in
    record { long = omega (arith, h.long); short = omega (arith, h.short); fronts = behind_one_fronts a b xs o t u h }
opens_second a b [] o false t u e = let z = no_opening_two a b t u in absurd (cc)
opens_second a b (c ∷ xs) o false t u e = opens_third a b c xs o (is_quote c) t u refl e

opens_first : (a : ℕ) (xs : List ℕ) (o : Opening) (q : Bool) → is_quote a ≡ q → opening (a ∷ xs) ≡ Some o → OpensIn (a ∷ xs) o
opens_first a xs o true t e =
    let h = opened_in (prefix false false false) 0 a xs o (sym (open_at_once a xs t) ∙ e) in
    record { long = omega (arith, h.long); short = omega (arith, h.short); fronts = at_once_fronts a xs o t h }
opens_first a [] o false t e = let z = no_opening_one a t in absurd (cc)
opens_first a (b ∷ xs) o false t e = opens_second a b xs o (is_quote b) t refl e

pub opens_in : (cs : List ℕ) (o : Opening) → opening cs ≡ Some o → OpensIn cs o
opens_in [] o e = absurd (cc)
opens_in (a ∷ xs) o e = opens_first a xs o (is_quote a) refl e

-- closing quotes

two_quotes_more : (q : ℕ) (xs : List ℕ) (i : ℕ) → two_quotes q (take i xs) ≡ true → two_quotes q xs ≡ true
two_quotes_more q [] zero h = h
two_quotes_more q [] (suc i) h = h
two_quotes_more q (c ∷ []) zero h = h
two_quotes_more q (c ∷ []) (suc zero) h = h
two_quotes_more q (c ∷ []) (suc (suc i)) h = h
two_quotes_more q (c ∷ d ∷ ds) zero h = absurd (false≢true h)
two_quotes_more q (c ∷ d ∷ ds) (suc zero) h = absurd (false≢true h)
two_quotes_more q (c ∷ d ∷ ds) (suc (suc i)) h = h

rest_more : (t : Bool) (q : ℕ) (xs : List ℕ) (i : ℕ) → (not t || two_quotes q (take i xs)) ≡ true → (not t || two_quotes q xs) ≡ true
rest_more true q xs i h = two_quotes_more q xs i h
rest_more false q xs i h = refl

closes_more : (k : StringKind) (xs : List ℕ) (i : ℕ) → closes k (take i xs) ≡ true → closes k xs ≡ true
closes_more k [] zero h = h
closes_more k [] (suc i) h = h
closes_more k (c ∷ cs) zero h = absurd (false≢true h)
closes_more k (c ∷ cs) (suc i) h =
    let p = and_parts (eqb c k.quote) (not k.triple || two_quotes k.quote (take i cs)) h in
    and_from (eqb c k.quote) (not k.triple || two_quotes k.quote cs) p.0 (rest_more k.triple k.quote cs i p.1)

rest_front : (t : Bool) (q : ℕ) (xs : List ℕ) (i : ℕ) → (not t || two_quotes q xs) ≡ true → (cond t 3 1) ≤ suc i → (not t || two_quotes q (take i xs)) ≡ true
rest_front true q xs i h l = two_quotes_front q xs i true h (λ _. omega arith)
rest_front false q xs i h l = refl

no_quotes : (t : Bool) → (cond t 3 1) ≤ zero → ⊥
no_quotes true l = omega arith
no_quotes false l = omega arith

closes_front : (k : StringKind) (xs : List ℕ) (i : ℕ) → closes k xs ≡ true → quotes_len k ≤ i → closes k (take i xs) ≡ true
closes_front k [] i h l = absurd (false≢true h)
closes_front k (c ∷ cs) zero h l = absurd (no_quotes k.triple l)
closes_front k (c ∷ cs) (suc i) h l =
    let p = and_parts (eqb c k.quote) (not k.triple || two_quotes k.quote cs) h in
    and_from (eqb c k.quote) (not k.triple || two_quotes k.quote (take i cs)) p.0 (rest_front k.triple k.quote cs i p.1 l)

three_quotes : (q c : ℕ) (cs : List ℕ) → c ≡ q → two_quotes q cs ≡ true → take 3 (c ∷ cs) ≡ q ∷ q ∷ q ∷ []
three_quotes q c [] e h = absurd (false≢true h)
three_quotes q c (d ∷ []) e h = absurd (false≢true h)
three_quotes q c (d ∷ f ∷ ds) e h =
    let p = and_parts (eqb d q) (eqb f q) h in
    let a : d ≡ q = eqb-true d q p.0 in
    let b : f ≡ q = eqb-true f q p.1 in
    cc

quotes_by : (t : Bool) (q c : ℕ) (cs : List ℕ) → c ≡ q → (not t || two_quotes q cs) ≡ true → take (cond t 3 1) (c ∷ cs) ≡ cond t (q ∷ q ∷ q ∷ []) (q ∷ [])
quotes_by true q c cs e h = three_quotes q c cs e h
quotes_by false q c cs e h = cc

-- the closing quotes stand there
pub closing_quotes : (k : StringKind) (xs : List ℕ) → closes k xs ≡ true → take (quotes_len k) xs ≡ quotes_of k
closing_quotes k [] h = absurd (false≢true h)
closing_quotes k (c ∷ cs) h =
    let p = and_parts (eqb c k.quote) (not k.triple || two_quotes k.quote cs) h in
    quotes_by k.triple k.quote c cs (eqb-true c k.quote p.0) p.1

len_by : (t : Bool) (q : ℕ) → length (cond t (q ∷ q ∷ q ∷ []) (q ∷ [])) ≡ cond t 3 1
len_by true q = refl
len_by false q = refl

pub length_quotes : (k : StringKind) → length (quotes_of k) ≡ quotes_len k
length_quotes k = len_by k.triple k.quote

pub closing_long : (k : StringKind) (xs : List ℕ) → closes k xs ≡ true → quotes_len k ≤ length xs
closing_long k xs h =
    let e : length (take (quotes_len k) xs) ≡ quotes_len k = ap length (closing_quotes k xs h) ∙ length_quotes k in
    omega (arith, e, length-take (quotes_len k) xs)

-- ends of bodies

end_front : (k : StringKind) (cs : List ℕ) (m i : ℕ) → IsEnd k cs m → quotes_len k ≤ i → IsEnd k (take (m + i) cs) m
end_front k cs m i h l =
    let le : m ≤ m + i = omega arith in
    let n = length-take (m + i) cs in
    record {
      within = omega (arith, n, h.within);
      items = subst (IsBody k) (sym (take-take m (m + i) cs le)) h.items;
      closed = ap (λ (v : List ℕ). closes k v) (drop-take m i cs) ∙ closes_front k (drop m cs) i h.closed l;
    }

end_back : (k : StringKind) (cs : List ℕ) (m j : ℕ) → IsEnd k (take j cs) m → IsEnd k cs m
end_back k cs m j h =
    let n = length-take j cs in
    let le : m ≤ j = omega (arith, n, h.within) in
    let split : j ≡ m + (j - m) = omega arith in
    let back : drop m (take j cs) ≡ take (j - m) (drop m cs) = ap (λ (v : ℕ). drop m (take v cs)) split ∙ drop-take m (j - m) cs in
    record {
      within = omega (arith, n, h.within);
      items = subst (IsBody k) (take-take m j cs le) h.items;
      closed = closes_more k (drop m cs) (j - m) (ap (λ (v : List ℕ). closes k v) (sym back) ∙ h.closed);
    }

front_ends : (k : StringKind) (cs : List ℕ) (m i : ℕ) (r : Option ℕ) → body_len k (take (m + i) cs) ≡ r → body_len k cs ≡ Some m → quotes_len k ≤ i → r ≡ Some m
front_ends k cs m i None f e l =
    let h = end_front k cs m i ((first_end k cs).some m e) l in
    absurd ((first_end k (take (m + i) cs)).none f m h)
front_ends k cs m i (Some n) f e l =
    let h = end_front k cs m i ((first_end k cs).some m e) l in
    let g = (first_end k (take (m + i) cs)).some n f in
    let a : n ≤ m = (first_end k (take (m + i) cs)).first n m f h in
    let b : m ≤ n = (first_end k cs).first m n e (end_back k cs n (m + i) g) in
    let same : n ≡ m = omega arith in
    ap Some same

-- the body ends in a front of the text where it ends in the text, if the closing quotes stand in it
pub body_front : (k : StringKind) (cs : List ℕ) (m i : ℕ) → body_len k cs ≡ Some m → quotes_len k ≤ i → body_len k (take (m + i) cs) ≡ Some m
body_front k cs m i e l = front_ends k cs m i (body_len k (take (m + i) cs)) refl e l

pub body_within : (k : StringKind) (cs : List ℕ) (m : ℕ) → body_len k cs ≡ Some m → m + quotes_len k ≤ length cs
body_within k cs m e =
    let h = (first_end k cs).some m e in
    omega (arith, h.within, closing_long k (drop m cs) h.closed, length-drop m cs)

-- the string of this opening at the front of a text, and that no longer front is a string
pub string_front : (cs : List ℕ) (o : Opening) (m : ℕ) → opening cs ≡ Some o → body_len o.kind (drop o.len cs) ≡ Some m
    → IsStringOf o (take m (drop o.len cs)) (take (o.len + (m + quotes_len o.kind)) cs)
string_front cs o m e f =
    let q = quotes_len o.kind in
    let rest = drop o.len cs in
    let h = (first_end o.kind rest).some m f in
    let le : o.len ≤ o.len + (m + q) = omega arith in
    let back : drop o.len (take (o.len + (m + q)) cs) ≡ take (m + q) rest = drop-take o.len (m + q) cs in
    let len : length (take m rest) ≡ m = length-take-le m rest h.within in
    record {
      begins = (opens_in cs o e).fronts (o.len + (m + q)) le;
      parts = back ∙ take-add m q rest ∙ ap (λ (v : List ℕ). take m rest ++ v) (closing_quotes o.kind (drop m rest) h.closed);
      first = ap (λ (v : List ℕ). body_len o.kind v) back ∙ body_front o.kind rest m q f (omega arith) ∙ ap Some (sym len);
    }

pub string_short : (cs : List ℕ) (o : Opening) (m : ℕ) → opening cs ≡ Some o → body_len o.kind (drop o.len cs) ≡ Some m → o.len + (m + quotes_len o.kind) ≤ length cs
string_short cs o m e f = omega (arith, (opens_in cs o e).short, body_within o.kind (drop o.len cs) m f, length-drop o.len cs)

string_ends : (cs : List ℕ) (o : Opening) (m i : ℕ) (p : Opening) (body : List ℕ) → opening cs ≡ Some o → body_len o.kind (drop o.len cs) ≡ Some m → quotes_len o.kind ≤ i → o.len + (m + i) ≤ length cs
    → p ≡ o → IsStringOf p body (take (o.len + (m + i)) cs) → i ≡ quotes_len o.kind
string_ends cs o m i p body e f l w same h =
    let rest = drop o.len cs in
    let back : drop o.len (take (o.len + (m + i)) cs) ≡ take (m + i) rest = drop-take o.len (m + i) cs in
    let P : Opening → Type 0 = λ v. IsStringOf v body (take (o.len + (m + i)) cs) in
    let g : IsStringOf o body (take (o.len + (m + i)) cs) = subst P same h in
    let ends : body_len o.kind (take (m + i) rest) ≡ Some (length body) = ap (λ (v : List ℕ). body_len o.kind v) (sym back) ∙ g.first in
    let found : body_len o.kind (take (m + i) rest) ≡ Some m = body_front o.kind rest m i f l in
    let len : length body ≡ m = cc in
    let parts : take (m + i) rest ≡ body ++ quotes_of o.kind = sym back ∙ g.parts in
    let count : length (take (m + i) rest) ≡ length body + quotes_len o.kind = ap length parts ∙ length-append body (quotes_of o.kind) ∙ ap (λ (v : ℕ). length body + v) (length_quotes o.kind) in
    let room : m + i ≤ length rest = omega (arith, length-drop o.len cs) in
    let all : length (take (m + i) rest) ≡ m + i = length-take-le (m + i) rest room in
    omega arith

pub string_longest : (cs : List ℕ) (o : Opening) (m : ℕ) → opening cs ≡ Some o → body_len o.kind (drop o.len cs) ≡ Some m
    → (n : ℕ) → o.len + (m + quotes_len o.kind) < n → n ≤ length cs → IsString (take n cs) → ⊥
string_longest cs o m e f n a b h =
    let i : ℕ = n - (o.len + m) in
    let split : n ≡ o.len + (m + i) = omega arith in
    let found : opening (take n cs) ≡ Some o = (opens_in cs o e).fronts n (omega arith) in
    let same : h.opening_of ≡ o = cc (found, h.is.begins) in
    let P : ℕ → Type 0 = λ v. IsStringOf h.opening_of h.body (take v cs) in
    let j : i ≡ quotes_len o.kind = string_ends cs o m i h.opening_of h.body e f (omega arith) (omega arith) same (subst P split h.is) in
    omega arith
