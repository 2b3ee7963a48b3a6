-- JSON values as the code holds them.
use Rattle.std.proofs.Common.{◌≡◌, List, [], ◌∷◌, map, Option, Some, Ok, refl, sym, ap, ◌∙◌}
use Rattle.std.specs.Prelude.{is_some, option_map, unwrap_or}
use Rattle.std.specs.List.{list_all}
use Rattle.std.specs.Option.{ok_or}
use Rattle.std.proofs.lemmas.List.Folds.{list_all-map}
use Rattle.serde_json.specs.Data.{Data, Items}
use Rattle.serde_json.specs.Find.{as_str, as_array}
use Rattle.serde_json.specs.View.{view, items_of, items_view}
use Rattle.serde_json.specs.declared.value.Value.{Value}
use Rattle.taint_config.specs.declared.faults.ConfigError.TheVariants.{WrongType}
use Rattle.taint_config.specs.Values.{values, values_in}
use Rattle.taint_config.specs.Reading.{list_read, is_text}

values-items_of : (ds : List Data) → values (items_of ds) ≡ ds
values-items_of [] = refl
values-items_of (d ∷ ds) = ap (λ es. d ∷ es) (values-items_of ds)

-- the values of an array are those of its list
pub list_given : (v : Value) (vs : List Value) → Some (items_view vs) ≡ as_array (view v) → list_read (view v) ≡ Ok (map view vs)
list_given v vs is = ap (λ (o : Option Items). ok_or (option_map values o) WrongType) (sym is) ∙ ap Ok (values-items_of (map view vs))

pub values_given : (v : Value) (vs : List Value) → Some (items_view vs) ≡ as_array (view v) → values_in (view v) ≡ map view vs
values_given v vs is = ap (λ (o : Option Items). unwrap_or (option_map values o) []) (sym is) ∙ values-items_of (map view vs)

pub all_texts : (vs : List Value) → list_all is_text (map view vs) ≡ list_all (λ v. is_some (as_str (view v))) vs
all_texts vs = list_all-map is_text view vs
