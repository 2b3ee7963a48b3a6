-- Models that are joined one by one are what is declared of each name.
use Rattle.std.proofs.Common.{◌≡◌, ℕ, Bool, true, false, cond, not, List, [], ◌∷◌, ◌++◌, ◌+◌, ◌<◌, ◌≤◌, length, get_or, drop, map, filter, Option, Some, None, unwrap_or, refl, sym, ap, ◌∙◌, append_assoc}
use Rattle.std.specs.List.{flat_map}
use Rattle.std.proofs.lemmas.List.{append-nil, at_drop_more, at_drop_all}
use Rattle.rv_names.specs.Keys.{Parts, parts_equal}
use Rattle.rv_names.proofs.KeyLemmas.{parts_equal-decides}
use Rattle.taint_config.specs.Config.{ConfigParts}
use Rattle.pysa_models.specs.declared.declaration.Declaration.{Declaration}
use Rattle.pysa_models.specs.Marks.{marks_of}
use Rattle.pysa_models.specs.Models.{ModelAt, models_of, leaf_number, signature_of, together, declared_by, declaration}
use Rattle.pysa_models.specs.Steps.{nothing, with_model, joined_at}
use Rattle.pysa_models.specs.Views.{model_at}
use Rattle.pysa_models.specs.declared.models.Placed.{Placed}

-- what a name has after models, of which some may be of other names
abbrev pub joined_all : ConfigParts → List Parts → Parts → Option Declaration → List ModelAt → Option Declaration
joined_all c leaves q old [] = old
joined_all c leaves q old (m ∷ ms) = joined_all c leaves q (joined_at c leaves m q old) ms

-- and after models of its own
abbrev with_models : ConfigParts → ℕ → Option Declaration → List ModelAt → Option Declaration
with_models c leaf old [] = old
with_models c leaf old (m ∷ ms) = with_models c leaf (Some (with_model c leaf (unwrap_or old nothing) m)) ms

-- only those of its own count
own_models : (c : ConfigParts) (leaves : List Parts) (q : Parts) (ms : List ModelAt) (old : Option Declaration) → joined_all c leaves q old ms ≡ with_models c (leaf_number leaves q) old (models_of q ms)
own_models c leaves q [] old = refl
own_models c leaves q (m ∷ ms) old = by (own_models c leaves q ms) (parts_equal m.decl.name q) refl
  where
    by : ((o : Option Declaration) → joined_all c leaves q o ms ≡ with_models c (leaf_number leaves q) o (models_of q ms))
        → (b : Bool) → parts_equal m.decl.name q ≡ b
        → joined_all c leaves q (cond b (Some (with_model c (leaf_number leaves m.decl.name) (unwrap_or old nothing) m)) old) ms ≡ with_models c (leaf_number leaves q) old (cond b (m ∷ models_of q ms) (models_of q ms))
    by later true e =
        ap (λ n. joined_all c leaves q (Some (with_model c (leaf_number leaves n) (unwrap_or old nothing) m)) ms) ((parts_equal-decides m.decl.name q).0 e)
        ∙ later (Some (with_model c (leaf_number leaves q) (unwrap_or old nothing) m))
    by later false e = later old

-- what models of one name declare comes behind what is there
abbrev behind : ConfigParts → ℕ → Declaration → List ModelAt → Declaration
behind c leaf d ms = record {
  signatures = d.signatures ++ (together c leaf ms).signatures;
  uses = d.uses ++ (together c leaf ms).uses;
}

all_behind : (c : ConfigParts) (leaf : ℕ) (ms : List ModelAt) (d : Declaration) → with_models c leaf (Some d) ms ≡ Some (behind c leaf d ms)
all_behind c leaf [] d = λ i. Some (record { signatures = sym (append-nil d.signatures) i; uses = sym (append-nil d.uses) i })
all_behind c leaf (m ∷ ms) d = all_behind c leaf ms (with_model c leaf d m) ∙ ap Some (by m.decl.callable)
  where
    by : (b : Bool)
        → behind c leaf (cond b (record { signatures = d.signatures ++ signature_of c leaf m ∷ []; uses = d.uses }) (record { signatures = d.signatures; uses = d.uses ++ marks_of c leaf m.decl.marks })) ms
        ≡ record {
          signatures = d.signatures ++ map (signature_of c leaf) (cond b (m ∷ filter (λ m. m.decl.callable) ms) (filter (λ m. m.decl.callable) ms));
          uses = d.uses ++ flat_map (λ m. marks_of c leaf m.decl.marks) (cond (not b) (m ∷ filter (λ m. not m.decl.callable) ms) (filter (λ m. not m.decl.callable) ms));
        }
    by true = λ i. record { signatures = append_assoc d.signatures (signature_of c leaf m ∷ []) (map (signature_of c leaf) (filter (λ m. m.decl.callable) ms)) i; uses = d.uses ++ (together c leaf ms).uses }
    by false = λ i. record { signatures = d.signatures ++ (together c leaf ms).signatures; uses = append_assoc d.uses (marks_of c leaf m.decl.marks) (together c leaf ms).uses i }

from_nothing : (c : ConfigParts) (leaf : ℕ) (ms : List ModelAt) → with_models c leaf None ms ≡ declared_by c leaf ms
from_nothing c leaf [] = refl
from_nothing c leaf (m ∷ ms) = all_behind c leaf (m ∷ ms) nothing

pub joined_all-none : (c : ConfigParts) (leaves : List Parts) (q : Parts) (ms : List ModelAt) → joined_all c leaves q None ms ≡ declaration c leaves ms q
joined_all-none c leaves q ms = own_models c leaves q ms None ∙ from_nothing c (leaf_number leaves q) (models_of q ms)

-- a loop joins one more model
pub joined_more : (c : ConfigParts) (leaves : List Parts) (q : Parts) (ms : List Placed) (i : ℕ) (m : Placed) (old new all : Option Declaration) → i < length ms → m ≡ get_or ms i m
    → new ≡ joined_at c leaves (model_at m) q old → joined_all c leaves q old (map model_at (drop i ms)) ≡ all → joined_all c leaves q new (map model_at (drop (i + 1) ms)) ≡ all
joined_more c leaves q ms i m old new all lt is grown before =
    let F : List Placed → Option Declaration = λ z. joined_all c leaves q old (map model_at z) in
    ap (λ o. joined_all c leaves q o (map model_at (drop (i + 1) ms))) grown
    ∙ ap (λ z. F (z ∷ drop (i + 1) ms)) is
    ∙ sym (at_drop_more F ms i m lt)
    ∙ before

-- and at its end all are joined
pub joined_all_there : (c : ConfigParts) (leaves : List Parts) (q : Parts) (ms : List Placed) (i : ℕ) (found : Option Declaration) → length ms ≤ i
    → joined_all c leaves q found (map model_at (drop i ms)) ≡ joined_all c leaves q None (map model_at ms) → found ≡ declaration c leaves (map model_at ms) q
joined_all_there c leaves q ms i found le there =
    sym (at_drop_all (λ z. joined_all c leaves q found (map model_at z)) ms i le) ∙ there ∙ joined_all-none c leaves q (map model_at ms)
