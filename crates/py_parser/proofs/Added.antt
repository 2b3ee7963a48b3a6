-- Lists to which what is read is added: a loop that adds the items of each list to one list gives what the reader of the lists does.
use Rattle.std.proofs.Common.{◌≡◌, ℕ, ◌<◌, true, false, List, [], ◌∷◌, ◌++◌, length, sym, ap, ◌∙◌}
use Rattle.std.specs.List.{flat_map}
use Rattle.std.proofs.lemmas.List.{flat_map_more}
use Rattle.phrases.specs.Sets.{starts}
use Rattle.phrases.specs.Reading.{Outcome, Read, Stuck, read_many}
use Rattle.phrases.specs.Loops.{with_front, Fails}
use Rattle.phrases.specs.declared.fault.Fault.{Fault}
use Rattle.phrases.specs.declared.fault.Stop.{Stop}
use Rattle.phrases.specs.declared.fault.Stop.TheVariants as stops
use Rattle.phrases.proofs.Sets.{append_none}
use Rattle.phrases.proofs.Loops.{Left, left_all, left_turn, left_over, left_stuck}
use Rattle.py_parser.specs.Lists.{with_all}

-- ---- what is behind other items

front_read : {T A : Type 0} (o : Outcome T (List A)) (all more : List A) (y : List T) → with_front all o ≡ Read more y → (us : List A) × (o ≡ Read us y) × (all ++ us ≡ more)
front_read (Read us z) all more y e = (us, cc, cc)
front_read (Stuck f z) all more y e = absurd cc

front_stuck : {T A : Type 0} (o : Outcome T (List A)) (all : List A) (f : Fault) (y : List T) → with_front all o ≡ Stuck f y → o ≡ Stuck f y
front_stuck (Read us z) all f y e = absurd cc
front_stuck (Stuck g z) all f y e = cc

-- ---- in a loop

-- lists were read of the tokens, rest is what is left, and all has the items that stood before and those of the lists
pub record Added {T A : Type 0} (class : T → ℕ) (first : List ℕ) (r : List T → Outcome T (List A)) (tokens : List T) (before all : List A) (rest : List T) : Type 0 where
  pub lists : List (List A)
  pub left : Left class first r tokens lists rest
  pub items : all ≡ before ++ flat_map (λ l. l) lists

module _ {T A : Type 0} (class : T → ℕ) (first : List ℕ) (r : List T → Outcome T (List A)) (tokens : List T) (before : List A) where
  pub added_none : Added class first r tokens before before tokens
  added_none = record { lists = []; left = left_all class first r tokens; items = sym (append_none before) }

  pub added_turn : (all : List A) (rest : List T) (more : List A) (y : List T) → Added class first r tokens before all rest
      → starts class first rest ≡ true → with_front all (r rest) ≡ Read more y → length y < length rest → Added class first r tokens before more y
  added_turn all rest more y d b k s =
      let (us, e, m) = front_read (r rest) all more y k in
      record {
        lists = d.lists ++ us ∷ [];
        left = left_turn class first r tokens d.lists rest us y d.left b e s;
        items = sym m ∙ ap (λ v. v ++ us) d.items ∙ flat_map_more (λ l. l) before d.lists us;
      }

  pub added_over : (all : List A) (rest : List T) → Added class first r tokens before all rest → starts class first rest ≡ false → with_all before (read_many class first r tokens) ≡ Read all rest
  added_over all rest d b = ap (λ (o : Outcome T (List (List A))). with_all before o) (left_over class first r tokens d.lists rest d.left b) ∙ ap (λ v. Read v rest) (sym d.items)

  pub added_stopped : (all : List A) (rest : List T) (e : Stop T) → Added class first r tokens before all rest
      → starts class first rest ≡ true → Fails e (with_front all (r rest)) → Fails e (with_all before (read_many class first r tokens))
  added_stopped all rest stops.Memory d b h = tt
  added_stopped all rest (stops.Fault f y) d b h =
      ap (λ (o : Outcome T (List (List A))). with_all before o) (left_stuck class first r tokens d.lists rest f y.now d.left b (front_stuck (r rest) all f y.now h))

-- ---- with nothing before

pub all_read : {T A : Type 0} (o : Outcome T (List (List A))) (body : List A) (rest : List T) → with_all [] o ≡ Read body rest → (lines : List (List A)) × (o ≡ Read lines rest) × (body ≡ flat_map (λ l. l) lines)
all_read (Read lines z) body rest e = (lines, cc, cc)
all_read (Stuck f z) body rest e = absurd cc

pub all_stuck : {T A : Type 0} (o : Outcome T (List (List A))) (f : Fault) (rest : List T) → with_all [] o ≡ Stuck f rest → o ≡ Stuck f rest
all_stuck (Read lines z) f rest e = absurd cc
all_stuck (Stuck g z) f rest e = cc
