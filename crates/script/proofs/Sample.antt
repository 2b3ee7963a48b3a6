-- A JSON text that spells a run, so that each front of a command's line before it can become one.
use Rattle.std.proofs.Common.{◌≡◌, ℕ, ltb, length, get_or, inl, inr, true, List, [], Some, refl, arith}
use Rattle.std.specs.Prelude.{codes}
use Rattle.std.specs.List.{list_all}
use Rattle.std.specs.Str.{IsAscii, is_utf8}
use Rattle.std.proofs.lemmas.Bool.{cases_lt, ltb-true}
use Rattle.std.proofs.lemmas.List.{get_or_past}
use Rattle.std.proofs.lemmas.List.Sums.{AllPass-from_list_all}
use Rattle.std.proofs.lemmas.Str.{is_utf8-from_IsUtf8, IsUtf8-from_ascii}
use Rattle.json.specs.Lex.{lex, punctuate}
use Rattle.json.specs.Json.{items, members, value}
use Rattle.serde_json.specs.Data.{array, no_items, item}
use Rattle.serde_json.specs.Read.{read}
use Rattle.script.specs.Runs.{value_in, run_in}

abbrev pub sample : List ℕ
sample = codes "[[],[]]"

sample_read : read sample ≡ Some (array (item (array no_items) (item (array no_items) no_items)))
unfolding lex punctuate items members value
sample_read = refl

pub ascii_by : (bytes : List ℕ) → list_all (λ b. ltb b 128) bytes ≡ true → IsAscii bytes
ascii_by bytes h i =
    elim (cases_lt i (length bytes)) [
      | inl lt ↦ ltb-true (get_or bytes i 0) 128 (AllPass-from_list_all (λ b. ltb b 128) bytes h i 0 lt)
      | inr le ↦ rw (get_or_past bytes i 0 le) (omega arith)
    ]

sample_text : is_utf8 sample ≡ true
sample_text = is_utf8-from_IsUtf8 sample (IsUtf8-from_ascii sample (ascii_by sample refl))

sample_value : value_in sample ≡ Some (array (item (array no_items) (item (array no_items) no_items)))
unfolding value_in
sample_value = rw sample_text sample_read

pub sample_run : run_in sample ≡ Some ([], [])
sample_run = rw sample_value refl
