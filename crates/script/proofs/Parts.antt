-- What is spelled is read, whatever follows it: names, texts and runs.
use Rattle.std.proofs.Common.{◌≡◌, ℕ, true, false, List, ◌∷◌, ◌++◌, length, get_or, Option, Some, None, Result, Ok, refl, arith, ltb, leb, eqb}
use Rattle.std.specs.Prelude.{option_map, option_and_then}
use Rattle.std.proofs.lemmas.Bool.{lt-ltb, lt-leb, eq-eqb, ne_eqb}
use Rattle.std.proofs.lemmas.List.{length-append}
use Rattle.std.proofs.lemmas.List.Sums.{list_all-from_AllPass}
use Rattle.std.proofs.Math.Seq.{get_or-append_seam}
use Rattle.serde_json.specs.Data.{Data}
use Rattle.script.specs.declared.faults.Fault.{Fault}
use Rattle.script.specs.declared.values.Entry.{Entry}
use Rattle.script.specs.declared.values.Plain.{Plain}
use Rattle.script.specs.Grammar.{IsName, line_end, space}
use Rattle.script.specs.Runs.{pair_of, calls_of, values_of, run_of}
use Rattle.script.specs.Reading.{◌>>=◌, or_malformed, is_visible, text_at, run_parts}
use Rattle.script.proofs.Again.{seam_drop}

abbrev both_of : Option (List Entry) → Option (List Plain) → Result (List Entry × List Plain) Fault
both_of cs vs = do
  calls ← or_malformed cs
  draws ← or_malformed vs
  Ok (calls, draws)

both_by : (cs : Option (List Entry)) (vs : Option (List Plain)) → both_of cs vs ≡ or_malformed (option_and_then (λ es. option_map (λ ps. (es, ps)) vs) cs)
both_by None vs = refl
both_by (Some cs) None = refl
both_by (Some cs) (Some vs) = refl

abbrev parts_of : Option (Data × Data) → Result (List Entry × List Plain) Fault
parts_of p = or_malformed p >>= λ pair. both_of (calls_of pair.0) (values_of pair.1)

parts_by : (p : Option (Data × Data)) → parts_of p ≡ or_malformed (option_and_then (λ p. option_and_then (λ es. option_map (λ ps. (es, ps)) (values_of p.1)) (calls_of p.0)) p)
parts_by None = refl
parts_by (Some p) = both_by (calls_of p.0) (values_of p.1)

-- reading part by part is the definition
pub parts_are : (d : Data) → run_parts d ≡ or_malformed (run_of d)
unfolding run_parts
parts_are d = parts_by (pair_of d)

pub name_visible : (name : List ℕ) → IsName name → is_visible name ≡ true
name_visible name is =
    let some : eqb (length name) 0 ≡ false = ne_eqb _ _ (λ e. absurd (omega (arith, is.len.0, e))) in
    let all = list_all-from_AllPass (λ b. ltb space b) name (λ k d lt. lt-ltb _ _ (is.bytes k d lt)) in
    rw (some, all) refl

pub text_again : (body rest : List ℕ) (from : ℕ) → text_at (length body) from (body ++ line_end ∷ rest) ≡ Ok rest
unfolding text_at
text_again body rest from =
    let long : leb (length (body ++ line_end ∷ rest)) (length body) ≡ false = lt-leb (length (body ++ line_end ∷ rest)) (length body) (omega (arith, length-append body (line_end ∷ rest))) in
    let seam : eqb (get_or (body ++ line_end ∷ rest) (length body) 0) line_end ≡ true = eq-eqb _ _ (get_or-append_seam body line_end rest 0) in
    rw (long, seam, seam_drop body rest line_end) refl
