-- A loop that reads phrases one by one gives what the reader of many gives, and one in states what that of a series does.
-- Its invariant says what is left to read, and holds of any reader: the loop sees to it that each turn takes a token.
use Rattle.std.proofs.Common.{◌≡◌, ℕ, zero, suc, ◌<◌, ◌≤◌, Bool, true, false, cond, get_or, subst, List, [], ◌∷◌, ◌++◌, length, Option, Some, None, refl, sym, ap, ◌∙◌, append_assoc, arith}
use Rattle.phrases.specs.Loops.{with_front, opening, Fails}
use Rattle.phrases.specs.declared.fault.Stop.{Stop}
use Rattle.phrases.specs.declared.fault.Stop.TheVariants as stops
use Rattle.phrases.specs.Reading.{Outcome, Read, Stuck, after, read_at_most, read_many}
use Rattle.phrases.specs.Series.{goes_on, read_run_at_most, read_run}
use Rattle.phrases.specs.Sets.{has, starts}
use Rattle.phrases.specs.declared.fault.Fault.{Fault}
use Rattle.phrases.proofs.Sets.{append_none}

with_none : {T A : Type 0} (o : Outcome T (List A)) → with_front [] o ≡ o
with_none (Read vs y) = refl
with_none (Stuck f y) = refl

with_more : {T A : Type 0} (vs : List A) (a : A) (o : Outcome T (List A)) → with_front vs (after o (λ us z. Read (a ∷ us) z)) ≡ with_front (vs ++ a ∷ []) o
with_more vs a (Read us y) = rw (append_assoc vs (a ∷ []) us) refl
with_more vs a (Stuck f y) = refl

-- values were read of the tokens, and rest is what is left: with so many turns more, reading it gives what reading all does
pub record Left {T A : Type 0} (class : T → ℕ) (first : List ℕ) (r : List T → Outcome T A) (tokens : List T) (values : List A) (rest : List T) : Type 0 where
  pub turns : ℕ
  pub enough : length rest ≤ turns
  pub same : with_front values (read_at_most class first r turns rest) ≡ read_many class first r tokens

pub left_all : {T A : Type 0} (class : T → ℕ) (first : List ℕ) (r : List T → Outcome T A) (tokens : List T) → Left class first r tokens [] tokens
left_all class first r tokens = record { turns = length tokens; enough = omega arith; same = with_none (read_many class first r tokens) }

module _ {T A : Type 0} (class : T → ℕ) (first : List ℕ) (r : List T → Outcome T A) (tokens : List T) (values : List A) where
  turn : (n : ℕ) (rest : List T) (a : A) (y : List T) → length rest ≤ n → with_front values (read_at_most class first r n rest) ≡ read_many class first r tokens
      → starts class first rest ≡ true → r rest ≡ Read a y → length y < length rest → Left class first r tokens (values ++ a ∷ []) y
  turn n [] a y h e b k s = absurd (omega (arith, s))
  turn zero (t ∷ rest) a y h e b k s = absurd (omega arith)
  turn (suc n) (t ∷ rest) a y h e b k s =
      let m : read_at_most class first r (suc n) (t ∷ rest) ≡ after (read_at_most class first r n y) (λ vs z. Read (a ∷ vs) z) = rw (b, k) refl in
      record { turns = n; enough = omega arith; same = sym (with_more values a (read_at_most class first r n y)) ∙ ap (λ (o : Outcome T (List A)). with_front values o) (sym m) ∙ e }

  pub left_turn : (rest : List T) (a : A) (y : List T) → Left class first r tokens values rest → starts class first rest ≡ true → r rest ≡ Read a y → length y < length rest → Left class first r tokens (values ++ a ∷ []) y
  left_turn rest a y l b k s = turn l.turns rest a y l.enough l.same b k s

  stuck : (n : ℕ) (rest : List T) (f : Fault) (y : List T) → length rest ≤ n → with_front values (read_at_most class first r n rest) ≡ read_many class first r tokens
      → starts class first rest ≡ true → r rest ≡ Stuck f y → read_many class first r tokens ≡ Stuck f y
  stuck n [] f y h e b k = absurd cc
  stuck zero (t ∷ rest) f y h e b k = absurd (omega arith)
  stuck (suc n) (t ∷ rest) f y h e b k = let m : read_at_most class first r (suc n) (t ∷ rest) ≡ Stuck f y = rw (b, k) refl in sym e ∙ ap (λ (o : Outcome T (List A)). with_front values o) m

  pub left_stuck : (rest : List T) (f : Fault) (y : List T) → Left class first r tokens values rest → starts class first rest ≡ true → r rest ≡ Stuck f y → read_many class first r tokens ≡ Stuck f y
  left_stuck rest f y l b k = stuck l.turns rest f y l.enough l.same b k

  over : (n : ℕ) (rest : List T) → with_front values (read_at_most class first r n rest) ≡ read_many class first r tokens → starts class first rest ≡ false → read_many class first r tokens ≡ Read values rest
  over zero rest e b = sym e ∙ rw (append_none values) refl
  over (suc n) rest e b = let m : read_at_most class first r (suc n) rest ≡ Read [] rest = rw b refl in sym e ∙ ap (λ (o : Outcome T (List A)). with_front values o) m ∙ rw (append_none values) refl

  pub left_over : (rest : List T) → Left class first r tokens values rest → starts class first rest ≡ false → read_many class first r tokens ≡ Read values rest
  left_over rest l b = over l.turns rest l.same b

-- ---- in states

-- the same of a series, of which the items left begin in a state, or which is over
pub record LeftIn {T A S : Type 0} (class : T → ℕ) (first : S → List ℕ) (r : S → List T → Outcome T A) (next : S → A → Option S) (start : S) (tokens : List T) (values : List A) (state : Option S) (rest : List T) : Type 0 where
  pub turns : ℕ
  pub enough : length rest ≤ turns
  pub same : with_front values (goes_on state (read_run_at_most class first r next turns) rest) ≡ read_run class first r next start tokens

pub left_in_all : {T A S : Type 0} (class : T → ℕ) (first : S → List ℕ) (r : S → List T → Outcome T A) (next : S → A → Option S) (start : S) (tokens : List T) → LeftIn class first r next start tokens [] (Some start) tokens
left_in_all class first r next start tokens = record { turns = length tokens; enough = omega arith; same = with_none (read_run class first r next start tokens) }

module _ {T A S : Type 0} (class : T → ℕ) (first : S → List ℕ) (r : S → List T → Outcome T A) (next : S → A → Option S) (start : S) (tokens : List T) (values : List A) where
  abbrev all : Outcome T (List A)
  all = read_run class first r next start tokens

  abbrev on : ℕ → S → List T → Outcome T (List A)
  on n s rest = read_run_at_most class first r next n s rest

  turn_in : (n : ℕ) (s : S) (rest : List T) (a : A) (y : List T) → length rest ≤ n → with_front values (on n s rest) ≡ all
      → starts class (first s) rest ≡ true → r s rest ≡ Read a y → length y < length rest → LeftIn class first r next start tokens (values ++ a ∷ []) (next s a) y
  turn_in n s [] a y h e b k q = absurd (omega (arith, q))
  turn_in zero s (t ∷ rest) a y h e b k q = absurd (omega arith)
  turn_in (suc n) s (t ∷ rest) a y h e b k q =
      let m : on (suc n) s (t ∷ rest) ≡ after (goes_on (next s a) (on n) y) (λ vs z. Read (a ∷ vs) z) = rw (b, k) refl in
      record { turns = n; enough = omega arith; same = sym (with_more values a (goes_on (next s a) (on n) y)) ∙ ap (λ (o : Outcome T (List A)). with_front values o) (sym m) ∙ e }

  pub left_in_turn : (s : S) (rest : List T) (a : A) (y : List T) → LeftIn class first r next start tokens values (Some s) rest
      → starts class (first s) rest ≡ true → r s rest ≡ Read a y → length y < length rest → LeftIn class first r next start tokens (values ++ a ∷ []) (next s a) y
  left_in_turn s rest a y l b k q = turn_in l.turns s rest a y l.enough l.same b k q

  stuck_in : (n : ℕ) (s : S) (rest : List T) (f : Fault) (y : List T) → length rest ≤ n → with_front values (on n s rest) ≡ all → starts class (first s) rest ≡ true → r s rest ≡ Stuck f y → all ≡ Stuck f y
  stuck_in n s [] f y h e b k = absurd cc
  stuck_in zero s (t ∷ rest) f y h e b k = absurd (omega arith)
  stuck_in (suc n) s (t ∷ rest) f y h e b k = let m : on (suc n) s (t ∷ rest) ≡ Stuck f y = rw (b, k) refl in sym e ∙ ap (λ (o : Outcome T (List A)). with_front values o) m

  pub left_in_stuck : (s : S) (rest : List T) (f : Fault) (y : List T) → LeftIn class first r next start tokens values (Some s) rest → starts class (first s) rest ≡ true → r s rest ≡ Stuck f y → all ≡ Stuck f y
  left_in_stuck s rest f y l b k = stuck_in l.turns s rest f y l.enough l.same b k

  over_in : (n : ℕ) (s : S) (rest : List T) → with_front values (on n s rest) ≡ all → starts class (first s) rest ≡ false → all ≡ Read values rest
  over_in zero s rest e b = sym e ∙ rw (append_none values) refl
  over_in (suc n) s rest e b = let m : on (suc n) s rest ≡ Read [] rest = rw b refl in sym e ∙ ap (λ (o : Outcome T (List A)). with_front values o) m ∙ rw (append_none values) refl

  -- no item of its state begins at what is left
  pub left_in_over : (s : S) (rest : List T) → LeftIn class first r next start tokens values (Some s) rest → starts class (first s) rest ≡ false → all ≡ Read values rest
  left_in_over s rest l b = over_in l.turns s rest l.same b

  -- the item before was the last
  pub left_in_last : (rest : List T) → LeftIn class first r next start tokens values None rest → all ≡ Read values rest
  left_in_last rest l = sym l.same ∙ rw (append_none values) refl

-- ---- of answers

-- where an item stops, all of them do
pub stopped : {T A : Type 0} (class : T → ℕ) (first : List ℕ) (r : List T → Outcome T A) (tokens : List T) (values : List A) (rest : List T) (e : Stop T)
    → Left class first r tokens values rest → starts class first rest ≡ true → Fails e (r rest) → Fails e (read_many class first r tokens)
stopped class first r tokens values rest stops.Memory l b h = tt
stopped class first r tokens values rest (stops.Fault f y) l b h = left_stuck class first r tokens values rest f y.now l b h

pub starts_head : {T : Type 0} (class : T → ℕ) (first : List ℕ) (ts : List T) (t : T) → 1 ≤ length ts → t ≡ get_or ts 0 t → starts class first ts ≡ has first (class t)
starts_head class first [] t h e = absurd (omega (arith, h))
starts_head class first (u ∷ ts) t h e = ap (λ v. has first (class v)) (sym e)

open_in : {T S : Type 0} (class : T → ℕ) (first : S → List ℕ) (state : Option S) (ts : List T) (s : S) → opening class first state ts ≡ Some s → (starts class (first s) ts ≡ true) × (state ≡ Some s)
open_in class first None ts s e = absurd cc
open_in class first (Some t) ts s e = by (starts class (first t) ts) refl e
  where
    by : (b : Bool) → starts class (first t) ts ≡ b → cond b (Some t) None ≡ Some s → (starts class (first s) ts ≡ true) × (Some t ≡ Some s)
    by true h e = let same : t ≡ s = cc in (rw (sym same) h, e)
    by false h e = absurd cc

closed : {S : Type 0} (b : Bool) (s : S) → cond b (Some s) None ≡ None → b ≡ false
closed true s e = absurd cc
closed false s e = refl

module _ {T A S : Type 0} (class : T → ℕ) (first : S → List ℕ) (r : S → List T → Outcome T A) (next : S → A → Option S) (start : S) (tokens : List T) (values : List A) (state : Option S) (rest : List T) (l : LeftIn class first r next start tokens values state rest) where
  abbrev In : Option S → Type 0
  In o = LeftIn class first r next start tokens values o rest

  pub next_in : (s : S) (a : A) (y : List T) (n : Option S) → opening class first state rest ≡ Some s → r s rest ≡ Read a y → length y < length rest → n ≡ next s a → LeftIn class first r next start tokens (values ++ a ∷ []) n y
  next_in s a y n h k q e = let (b, m) = open_in class first state rest s h in rw e (left_in_turn class first r next start tokens values s rest a y (subst In m l) b k q)

  pub stopped_in : (s : S) (e : Stop T) → opening class first state rest ≡ Some s → Fails e (r s rest) → Fails e (read_run class first r next start tokens)
  stopped_in s stops.Memory h k = tt
  stopped_in s (stops.Fault f y) h k = let (b, m) = open_in class first state rest s h in left_in_stuck class first r next start tokens values s rest f y.now (subst In m l) b k

  pub closed_in : opening class first state rest ≡ None → read_run class first r next start tokens ≡ Read values rest
  closed_in h = by state l h
    where
      by : (o : Option S) → In o → opening class first o rest ≡ None → read_run class first r next start tokens ≡ Read values rest
      by None l h = left_in_last class first r next start tokens values rest l
      by (Some s) l h = left_in_over class first r next start tokens values s rest l (closed (starts class (first s) rest) s h)
