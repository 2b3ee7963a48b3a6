-- The bytes that a stream holds, cut into the last command and the rest.
use Rattle.std.proofs.Common.{◌≡◌, ◌+◌, ◌-◌, ℕ, List, ◌++◌, length, take, drop, Option, None, Some, Err, refl, sym, ap, subst, ◌∙◌, arith, take-append-drop}
use Rattle.std.specs.Prelude.{slice_range, IfSome}
use Rattle.std.specs.Io.KnownBytes.{Consumes}
use Rattle.std.proofs.lemmas.List.{drop-drop, drop_at}
use Rattle.rv_io.specs.Moves.{Moves}
use Rattle.stream.specs.declared.fault.StreamFault.{StreamFault}
use Rattle.stream.specs.declared.fault.StreamFault.TheVariants.{Malformed, ReadFault, TooLong, Memory}
use Rattle.stream.specs.State.{GainsAll, MovesOneMore}
use Rattle.stream.proofs.Reached.{fault_is, len_fault_is}

-- the last command, of so many bytes
pub last_is : (items : List ℕ) (start len : ℕ) → slice_range items start (start + len) ≡ take len (drop start items)
last_is items start len = let size : start + len - start ≡ len = omega arith in ap (λ n. take n (drop start items)) size

pub held_given : (items : List ℕ) (start len : ℕ) → slice_range items start (start + len) ++ drop (start + len) items ≡ drop start items
held_given items start len =
    ap (λ (x : List ℕ). x ++ drop (start + len) items) (last_is items start len)
    ∙ ap (λ (x : List ℕ). take len (drop start items) ++ x) (sym (drop-drop len start items)) ∙ take-append-drop len (drop start items)

pub held_none : (items : List ℕ) (start : ℕ) → slice_range items start start ++ drop start items ≡ drop start items
held_none items start = let size : start - start ≡ 0 = omega arith in ap (λ n. take n (drop start items) ++ drop start items) size

-- ---- what was taken, where `was` is pending before, and `held` is held after

pub taken_is : (was old now held more : List ℕ) → was ≡ old → held ≡ now → now ≡ old ++ more → drop (length was) held ≡ more
taken_is was old now held more same held_now parts =
    ap (λ (x : List ℕ). drop (length x) held) same ∙ ap (drop (length old)) (held_now ∙ parts) ∙ drop_at old more (length old) refl

pub kept_by : (was old now held more : List ℕ) → was ≡ old → held ≡ now → now ≡ old ++ more → held ≡ was ++ drop (length was) held
kept_by was old now held more same held_now parts =
    held_now ∙ parts ∙ ap (λ (x : List ℕ). x ++ more) (sym same) ∙ ap (λ (x : List ℕ). was ++ x) (sym (taken_is was old now held more same held_now parts))

pub took_by : (a b : Option (List ℕ)) (was old now held : List ℕ) → was ≡ old → held ≡ now → Moves a b old now → Consumes a b (drop (length was) held)
took_by a b was old now held same held_now moved = subst (λ (x : List ℕ). Consumes a b x) (sym (taken_is was old now held moved.0 same held_now moved.1)) moved.2

pub all_taken : (a : Option (List ℕ)) (was old now held : List ℕ) → was ≡ old → held ≡ now → GainsAll a old now → IfSome a (λ left. drop (length was) held ≡ left)
all_taken None was old now held same held_now all = tt
all_taken (Some x) was old now held same held_now all = taken_is was old now held x same held_now all

-- ---- what an error gained

not_long : (fault : StreamFault) → (fault ≡ TooLong → ⊥) → len_fault_is fault ≡ Err TooLong → ⊥
not_long fault other e = other cc

pub parts_of : (fault : StreamFault) (a b : Option (List ℕ)) (old now : List ℕ) → ((len_fault_is fault ≡ Err TooLong → ⊥) → Moves a b old now)
    → (len_fault_is fault ≡ Err TooLong → MovesOneMore a b old now) → (more : List ℕ) × (now ≡ old ++ more)
parts_of (Malformed at) a b old now moved one_more = let m = moved (not_long (Malformed at) (λ e. cc)) in (m.0, m.1)
parts_of ReadFault a b old now moved one_more = let m = moved (not_long ReadFault (λ e. cc)) in (m.0, m.1)
parts_of TooLong a b old now moved one_more = let m = one_more refl in (m.0, m.1)
parts_of Memory a b old now moved one_more = let m = moved (not_long Memory (λ e. cc)) in (m.0, m.1)

-- an error that is handed on
pub same_fault : (fault other : StreamFault) → len_fault_is fault ≡ Err other → fault_is fault ≡ Err other
same_fault fault other e = let is : fault ≡ other = cc in ap fault_is is
