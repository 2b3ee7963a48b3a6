-- The modules of a project, entry by entry.
use Rattle.std.proofs.Common.{◌≡◌, Bool, true, false, cond, List, [], ◌∷◌, ◌++◌, Some, None, refl, sym, ap, ◌∙◌, subst, append_assoc}
use Rattle.std.specs.Prelude.{T}
use Rattle.std.specs.List.{cons_option, filter_map}
use Rattle.std.specs.Ordering.{eq_by_cmp}
use Rattle.std.specs.FinMap.{entries, entries_sorted, find, get-entries, is_sorted}
use Rattle.std.specs.Prelude.{◌&&◌}
use Rattle.rv_names.specs.Keys.{Bytes, bytes_order}
use Rattle.project.specs.Files.{AreFiles, FileMap}
use Rattle.project.specs.Items.{FileParts}
use Rattle.project.specs.Modules.{Placed, module_in, modules}
use Rattle.project.proofs.Totals.{below_none, tied, tied_same}

-- each file stands at its path
abbrev pub StandAll : List (Bytes × FileParts) → Type 0
StandAll [] = Unit {0}
StandAll (e ∷ es) = (e.0 ≡ e.1.path) × StandAll es

second : (a b : Bool) → T (a && b) → T b
second true b h = h
second false b h = absurd h

first : (a b : Bool) → T (a && b) → T a
first true b h = tt
first false b h = absurd h

stand_in : (es : List (Bytes × FileParts)) → T (is_sorted bytes_order es) → ((q : Bytes) (x : FileParts) → find bytes_order q es ≡ Some x → q ≡ x.path) → StandAll es
stand_in [] h at = tt
stand_in (e ∷ es) h at = (
  at e.0 e.1 (ap (λ b. cond b (Some e.1) (find bytes_order e.0 es)) (tied_same e.0)),
  stand_in es (second _ _ h) (λ q x f. at q x (later q x f (eq_by_cmp bytes_order q e.0) refl)),
)
  where
    later : (q : Bytes) (x : FileParts) → find bytes_order q es ≡ Some x → (b : Bool) → eq_by_cmp bytes_order q e.0 ≡ b → find bytes_order q (e ∷ es) ≡ Some x
    later q x f true p =
        let none : find bytes_order q es ≡ None = ap (λ z. find bytes_order z es) (tied q e.0 p) ∙ below_none e.0 es (first _ _ h) in
        absurd (cc)
    later q x f false p = ap (λ b. cond b (Some e.1) (find bytes_order q es)) p ∙ f

pub stand_all : (m : FileMap) → AreFiles m → StandAll (entries m)
stand_all m are = stand_in (entries m) (entries_sorted m) (λ q x f. are.stand q x (get-entries m q ∙ f))

-- what was handed out, with the entries that are left
pub record Listing (m : FileMap) (so_far : List Placed) (rest : List (Bytes × FileParts)) : Type 0 where
  pub all : so_far ++ filter_map (module_in m) rest ≡ modules m
  pub stand : StandAll rest

pub listing_none : (m : FileMap) (so_far : List Placed) (e : Bytes × FileParts) (rest : List (Bytes × FileParts)) → Listing m so_far (e ∷ rest) → module_in m e ≡ None → Listing m so_far rest
listing_none m so_far e rest l n = record {
  all = ap (λ o. so_far ++ cons_option o (filter_map (module_in m) rest)) (sym n) ∙ l.all;
  stand = l.stand.1;
}

pub listing_some : (m : FileMap) (so_far : List Placed) (e : Bytes × FileParts) (rest : List (Bytes × FileParts)) (x : Placed) → Listing m so_far (e ∷ rest) → module_in m e ≡ Some x → Listing m (so_far ++ x ∷ []) rest
listing_some m so_far e rest x l n = record {
  all = append_assoc so_far (x ∷ []) (filter_map (module_in m) rest) ∙ ap (λ o. so_far ++ cons_option o (filter_map (module_in m) rest)) (sym n) ∙ l.all;
  stand = l.stand.1;
}

pub listing_start : (m : FileMap) (so_far : List Placed) (rest : List (Bytes × FileParts)) → AreFiles m → so_far ≡ [] → rest ≡ entries m → Listing m so_far rest
listing_start m so_far rest are none at = record {
  all = ap (λ z. z ++ filter_map (module_in m) rest) none ∙ ap (filter_map (module_in m)) at;
  stand = subst StandAll (sym at) (stand_all m are);
}
