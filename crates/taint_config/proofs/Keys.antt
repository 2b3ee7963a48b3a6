-- Keys that are ignored, one after the other.
use Rattle.std.proofs.Common.{◌≡◌, Bool, true, false, cond, List, [], ◌∷◌, ◌++◌, Option, None, String, Global, string_bytes, refl, sym, ap, ◌∙◌, append_assoc, not}
use Rattle.std.specs.Prelude.{unwrap_or, option_map}
use Rattle.std.specs.List.{list_any}
use Rattle.std.proofs.lemmas.List.{append-nil}
use Rattle.serde_json.specs.Data.{Data, Members}
use Rattle.serde_json.specs.Find.{as_object}
use Rattle.serde_json.specs.View.{members_view}
use Rattle.serde_json.specs.declared.value.Value.{Value}
use Rattle.rv_names.specs.Keys.{Bytes, bytes_equal}
use Rattle.taint_config.specs.Values.{member_keys}
use Rattle.taint_config.specs.Config.{ignored_of, ignored}

abbrev Entry : Type 0
Entry = String Global × Value

ignored_first : (known : List Bytes) (key : Bytes) (keys : List Bytes) (b : Bool) → list_any (bytes_equal key) known ≡ b
    → ignored_of known (key ∷ keys) ≡ cond (not b) (key ∷ ignored_of known keys) (ignored_of known keys)
unfolding ignored_of
ignored_first known key keys b is = rw is refl

pub noted : (known notes : List Bytes) (key : Bytes) (entries : List Entry) (entry : Entry) (rest : List Entry) (total : List Bytes)
    → entries ≡ entry ∷ rest → key ≡ string_bytes entry.0 → list_any (bytes_equal key) known ≡ false
    → notes ++ ignored_of known (member_keys (members_view entries)) ≡ total → (notes ++ key ∷ []) ++ ignored_of known (member_keys (members_view rest)) ≡ total
noted known notes key entries entry rest total split named unknown so_far =
    let first = ignored_first known key (member_keys (members_view rest)) false unknown in
    append_assoc notes (key ∷ []) (ignored_of known (member_keys (members_view rest)))
    ∙ ap (λ (ks : List Bytes). notes ++ ks) (sym first)
    ∙ ap (λ (k : Bytes). notes ++ ignored_of known (k ∷ member_keys (members_view rest))) named
    ∙ ap (λ (es : List Entry). notes ++ ignored_of known (member_keys (members_view es))) (sym split)
    ∙ so_far

pub passed : (known notes : List Bytes) (key : Bytes) (entries : List Entry) (entry : Entry) (rest : List Entry) (total : List Bytes)
    → entries ≡ entry ∷ rest → key ≡ string_bytes entry.0 → list_any (bytes_equal key) known ≡ true
    → notes ++ ignored_of known (member_keys (members_view entries)) ≡ total → notes ++ ignored_of known (member_keys (members_view rest)) ≡ total
passed known notes key entries entry rest total split named is so_far =
    let first = ignored_first known key (member_keys (members_view rest)) true is in
    ap (λ (ks : List Bytes). notes ++ ks) (sym first)
    ∙ ap (λ (k : Bytes). notes ++ ignored_of known (k ∷ member_keys (members_view rest))) named
    ∙ ap (λ (es : List Entry). notes ++ ignored_of known (member_keys (members_view es))) (sym split)
    ∙ so_far

pub all_noted : (known notes : List Bytes) (entries : List Entry) (total : List Bytes)
    → entries ≡ [] → notes ++ ignored_of known (member_keys (members_view entries)) ≡ total → notes ≡ total
unfolding ignored_of
all_noted known notes entries total ended so_far =
    sym (append-nil notes) ∙ ap (λ (es : List Entry). notes ++ ignored_of known (member_keys (members_view es))) (sym ended) ∙ so_far

pub no_keys : (known notes : List Bytes) (d : Data) → None ≡ as_object d → notes ≡ notes ++ ignored known d
unfolding ignored_of
no_keys known notes d none =
    sym (append-nil notes) ∙ ap (λ (o : Option Members). notes ++ ignored_of known (unwrap_or (option_map member_keys o) [])) none
