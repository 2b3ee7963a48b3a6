-- How far the reading of one command has come.
use Rattle.std.proofs.Common.{◌≡◌, ◌⊎◌, ◌+◌, ◌≤◌, ℕ, Bool, true, false, List, [], ◌∷◌, ◌++◌, length, Option, None, Some, Result, Err, refl, sym, ap, subst, ◌∙◌, arith, inl, inr, append_assoc, length-append}
use Rattle.std.proofs.KnownBytes.{Consumes-trans}
use Rattle.rv_io.specs.Counts.{Rises}
use Rattle.rv_io.specs.Answers.{count_of, IsPiece}
use Rattle.rv_io.specs.declared.transfer.More.{More}
use Rattle.rv_io.specs.declared.transfer.More.TheVariants.{Bytes, End}
use Rattle.rv_io.specs.Moves.{Moves, LosesOne}
use Rattle.rv_io.proofs.Steps.{Moves-trans}
use Rattle.script.specs.declared.command.Command.{Command}
use Rattle.script.specs.Grammar.{Spells}
use Rattle.script.specs.Stream.{BeginsNone}
use Rattle.stream.specs.declared.fault.StreamFault.{StreamFault}
use Rattle.stream.specs.State.{IsNeeded, IsWaiting, GainsAll, MovesOneMore}
use Rattle.stream.specs.Steps.{Starts, Ends, Waits, Lacks}
use Rattle.stream.specs.declared.reading.Heard.{Heard}
use Rattle.stream.specs.declared.reading.Heard.TheVariants as heard
use Rattle.script.specs.declared.command.Next.{Next}
use Rattle.script.specs.declared.command.Next.TheVariants as next
use Rattle.script.specs.declared.command.Wait.{Wait}
use Rattle.stream.proofs.Waits.{need_waits, needed_after, needed_none, needed_piece, none_still}

-- the bytes of now, over those at the start; `Same` says that the source is as it was
pub record Reached (Same : Type 0) (left_old left_new : Option (List ℕ)) (faults_old faults_new : ℕ) (old new : List ℕ) (over_old over_new failed : Bool) : Type 0 where
  pub needed : IsNeeded old new
  pub moved : Moves left_old left_new old new
  pub ended : over_old ≡ false → over_new ≡ true → GainsAll left_old old new × BeginsNone 0 new
  pub over : over_old ≡ true → Same × (over_new ≡ true)
  pub rose : failed ≡ true → Rises faults_old faults_new
  pub never_falls : faults_old ≤ faults_new

true_false : (b : Bool) → b ≡ true → b ≡ false → ⊥
true_false b t f = absurd cc

-- what a buffer gained is no less than nothing
pub moved_length : (left_old left_new : Option (List ℕ)) (old new : List ℕ) → Moves left_old left_new old new → length old ≤ length new
moved_length left_old left_new old new moved = omega (arith, ap length moved.1, length-append old moved.0)

-- all that was left before a reading on, after what was gained before
gains_more : (a b : Option (List ℕ)) (old mid new : List ℕ) → Moves a b old mid → GainsAll b mid new → GainsAll a old new
gains_more None b old mid new moved all = tt
gains_more (Some x) None old mid new moved all = absurd moved.2
gains_more (Some x) (Some y) old mid new moved all = all ∙ ap (λ (l : List ℕ). l ++ y) moved.1 ∙ append_assoc old moved.0 y ∙ ap (λ (l : List ℕ). old ++ l) (sym moved.2)

-- ---- a reading on, piece by piece

pub none_now : (a b : Option (List ℕ)) (old now : List ℕ) (w : Wait) → Waits old w → Moves a b old now → Lacks w now → BeginsNone 0 now
none_now a b old now w waits moved lacks = none_still old moved.0 now w waits moved.1 lacks

pub needed_still : (a b : Option (List ℕ)) (old now : List ℕ) (w : Wait) → Waits old w → Moves a b old now → Lacks w now → IsNeeded old now
needed_still a b old now w waits moved lacks = needed_none old now (moved_length a b old now moved) (none_now a b old now w waits moved lacks)

pub needed_more : (a b c : Option (List ℕ)) (old now new : List ℕ) (w : Wait) → Waits old w → Moves a b old now → Lacks w now → Moves b c now new → length new ≤ length now + 65536 → IsNeeded old new
needed_more a b c old now new w waits moved lacks piece small =
    needed_piece old now piece.0 new piece.1 (moved_length a b old now moved) (omega (arith, small, ap length piece.1, length-append now piece.0)) (none_now a b old now w waits moved lacks)

-- a piece is no longer than the longest
pub piece_small : (more : More) → IsPiece more → count_of more ≤ 65536
piece_small (Bytes n) piece = piece.1
piece_small End piece = omega arith

-- ---- the reading of a command, one reading on after another
pub reached_more : (Same Then : Type 0) (a b c : Option (List ℕ)) (f g h : ℕ) (old mid new : List ℕ) (over_old over_mid over_new failed_mid failed_new : Bool)
    → Reached Same a b f g old mid over_old over_mid failed_mid → IsWaiting mid over_mid → IsNeeded mid new → Moves b c mid new → g ≤ h
    → (over_new ≡ true → GainsAll b mid new × BeginsNone 0 new) → (failed_new ≡ true → Rises g h) → Reached Then a c f h old new over_old over_new failed_new
reached_more Same Then a b c f g h old mid new over_old over_mid over_new failed_mid failed_new reached waits needed moved falls ended rose = record {
  needed = needed_after old mid new (moved_length a b old mid reached.moved) waits.none needed;
  moved = Moves-trans a b c old mid new reached.moved moved;
  ended = λ goes_on ends. (let all = ended ends in (gains_more a b old mid new reached.moved all.0, all.1));
  over = λ ends. absurd (true_false over_mid (reached.over ends).1 waits.goes_on);
  rose = λ r. (let before = reached.never_falls in omega (arith, before, rose r));
  never_falls = (let before = reached.never_falls in omega (arith, before, falls));
}

-- the same, of what one asked before it: a reading on comes only where a command is unfinished, and no read has failed
pub reached_on : (Same Then : Type 0) (a b c : Option (List ℕ)) (f g h : ℕ) (old mid seen forgotten new : List ℕ) (over_old over_mid over_new failed_mid failed_new : Bool) (n : Next) (len : ℕ) (w : Wait) (how : Heard)
    → Reached Same a b f g old mid over_old over_mid failed_mid → seen ≡ mid → forgotten ≡ mid → n ≡ next.Need w → Starts seen over_mid n len → failed_mid ≡ false
    → IsNeeded forgotten new → Moves b c forgotten new → g ≤ h → Ends (Rises g h) b forgotten new how
    → (over_new ≡ true → (over_mid ≡ true) ⊎ (how ≡ heard.End)) → (failed_new ≡ true → (failed_mid ≡ true) ⊎ (how ≡ heard.Fault)) → Reached Then a c f h old new over_old over_new failed_new
reached_on Same Then a b c f g h old mid seen forgotten new over_old over_mid over_new failed_mid failed_new n len w how reached seen_is forgotten_is need starts not_failed needed moved falls ends over_by failed_by =
    let waits : IsWaiting mid over_mid = subst (λ (x : List ℕ). IsWaiting x over_mid) seen_is (need_waits seen over_mid n len w need starts).0 in
    reached_more Same Then a b c f g h old mid new over_old over_mid over_new failed_mid failed_new reached waits
    (subst (λ (x : List ℕ). IsNeeded x new) forgotten_is needed) (subst (λ (x : List ℕ). Moves b c x new) forgotten_is moved) falls
    (λ o. elim (over_by o) [
      | inl before ↦ absurd (true_false over_mid before waits.goes_on)
      | inr is ↦ (
          let all = subst (λ (x : Heard). Ends (Rises g h) b forgotten new x) is ends in
          (subst (λ (x : List ℕ). GainsAll b x new) forgotten_is all.0, all.1))
    ])
    (λ r. elim (failed_by r) [
      | inl before ↦ absurd (true_false failed_mid before not_failed)
      | inr is ↦ (let all = subst (λ (x : Heard). Ends (Rises g h) b forgotten new x) is ends in all.0)
    ])

-- one byte beyond the limit
pub moved_one_more : (a b c : Option (List ℕ)) (old mid new : List ℕ) → Moves a b old mid → new ≡ mid → LosesOne b c → MovesOneMore a c old new
moved_one_more a b c old mid new moved same lost = (moved.0, same ∙ moved.1, (lost.0, Consumes-trans a b c moved.0 (lost.0 ∷ []) moved.2 lost.1))

-- ---- causes

abbrev pub fault_is : StreamFault → Result Command StreamFault
fault_is fault = Err fault

abbrev pub len_fault_is : StreamFault → Result (Command × ℕ) StreamFault
len_fault_is fault = Err fault

abbrev pub heard_fault_is : StreamFault → Result Heard StreamFault
heard_fault_is fault = Err fault

-- one fault, whatever the answer would have been
pub other_fault : (fault other : StreamFault) → (len_fault_is fault ≡ Err other → ⊥) → heard_fault_is fault ≡ Err other → ⊥
other_fault fault other not_so e = let is : fault ≡ other = cc in not_so (ap len_fault_is is)

pub that_fault : (fault other : StreamFault) → len_fault_is fault ≡ Err other → heard_fault_is fault ≡ Err other
that_fault fault other e = let is : fault ≡ other = cc in ap heard_fault_is is

-- bytes that a command begins are not malformed
pub not_refused : (last pending : List ℕ) (command : Command) → Spells 0 last command → BeginsNone 0 (last ++ pending) → ⊥
not_refused last pending command spells none = none command pending (record { text = last; spells = spells; parts = refl })

-- 1 for what can still come, and 0 for what has come
abbrev pub left_of : Bool → ℕ
left_of true = 0
left_of false = 1
