-- Lists that are put together, and what a loop makes of them.
use Rattle.std.proofs.Common.{◌≡◌, ℕ, ◌+◌, ◌<◌, Bool, true, false, cond, ◌||◌, ◌&&◌, List, [], ◌∷◌, ◌++◌, length, get_or, drop, Option, Some, refl, sym, ap, ◌∙◌, append_assoc}
use Rattle.std.specs.List.{list_any, flat_map}
use Rattle.std.proofs.lemmas.List.{at_drop_more}
use Rattle.std.proofs.lemmas.List.Elements.{filter_map-append}
use Rattle.std.proofs.lemmas.List.Folds.{list_any-append}
use Rattle.rv_names.specs.Keys.{Bytes}
use Rattle.py_ast.specs.declared.remark.Remark.{Remark}
use Rattle.pysa_syntax.specs.declared.decl.Decl.{Decl}
use Rattle.pysa_syntax.specs.declared.decl.DeclMark.{DeclMark}
use Rattle.pysa_syntax.specs.declared.decl.DeclParam.{DeclParam}
use Rattle.taint_config.specs.Config.{ConfigParts}
use Rattle.pysa_models.specs.Marks.{is_known}
use Rattle.pysa_models.specs.Models.{marks_in}
use Rattle.pysa_models.specs.Notes.{note_of, notes_in}

pub list_any-flat_map : {P X : Type 0} (t : X → Bool) (f : P → List X) (ps : List P) → list_any t (flat_map f ps) ≡ list_any (λ p. list_any t (f p)) ps
list_any-flat_map t f [] = refl
list_any-flat_map t f (p ∷ ps) = list_any-append t (f p) (flat_map f ps) ∙ ap (λ b. list_any t (f p) || b) (list_any-flat_map t f ps)

-- one more name of a set, where e tells whether it is the name that is asked for
pub found_more : (before after e rest all : Bool) → after ≡ cond e true before → (before || ((true && e) || rest)) ≡ all → (after || rest) ≡ all
found_more true after true rest all h k = ap (λ b. b || rest) h ∙ k
found_more false after true rest all h k = ap (λ b. b || rest) h ∙ k
found_more true after false rest all h k = ap (λ b. b || rest) h ∙ k
found_more false after false rest all h k = ap (λ b. b || rest) h ∙ k

-- what a map has where e tells whether the key that was written is the one that is asked for
pub written_at : {D : Type 0} (e : Bool) (after between before : Option D) (d wanted : D) → after ≡ cond e (Some d) between → (e ≡ true → d ≡ wanted) → (e ≡ false → between ≡ before) → after ≡ cond e (Some wanted) before
written_at true after between before d wanted h same other = h ∙ ap Some (same refl)
written_at false after between before d wanted h same other = h ∙ other refl

-- a mark of a known kind stands on a parameter or elsewhere
pub known_in : (c : ConfigParts) (d : Decl) → list_any (is_known c) (marks_in d) ≡ (list_any (λ p. list_any (is_known c) p.marks) d.params || list_any (is_known c) d.marks)
known_in c d =
    list_any-append (is_known c) (flat_map (λ p. p.marks) d.params) d.marks
    ∙ ap (λ b. b || list_any (is_known c) d.marks) (list_any-flat_map (is_known c) (λ (p : DeclParam). p.marks) d.params)

-- the notes on marks that are put together
pub notes_joined : (c : ConfigParts) (path : Bytes) (xs ys : List DeclMark) → notes_in c path (xs ++ ys) ≡ notes_in c path xs ++ notes_in c path ys
notes_joined c path xs ys = filter_map-append (note_of c path) xs ys

-- one more item of a list that a loop goes through: what was made of those before it, and of it, and what is still to be made
pub stepped : {P X : Type 0} (F : List P → List X) (ps : List P) (i : ℕ) (p : P) (old new one all : List X) → i < length ps → p ≡ get_or ps i p
    → F (p ∷ drop (i + 1) ps) ≡ one ++ F (drop (i + 1) ps) → new ≡ old ++ one → old ++ F (drop i ps) ≡ all → new ++ F (drop (i + 1) ps) ≡ all
stepped F ps i p old new one all lt is splits grown before =
    ap (λ z. z ++ F (drop (i + 1) ps)) grown
    ∙ append_assoc old one (F (drop (i + 1) ps))
    ∙ ap (λ z. old ++ z) (sym splits)
    ∙ ap (λ z. old ++ F (z ∷ drop (i + 1) ps)) is
    ∙ ap (λ z. old ++ z) (sym (at_drop_more F ps i p lt))
    ∙ before

-- the notes on the parameters of a model, and then those on its other marks
pub noted_model : (c : ConfigParts) (path : Bytes) (d : Decl) (params : List DeclParam) (marks : List DeclMark) (before between after : List Remark) → params ≡ d.params → marks ≡ d.marks
    → between ≡ before ++ notes_in c path (flat_map (λ (p : DeclParam). p.marks) params) → after ≡ between ++ notes_in c path marks → after ≡ before ++ notes_in c path (marks_in d)
noted_model c path d params marks before between after ps ms first then_marks =
    then_marks
    ∙ ap (λ z. z ++ notes_in c path marks) first
    ∙ append_assoc before (notes_in c path (flat_map (λ (p : DeclParam). p.marks) params)) (notes_in c path marks)
    ∙ ap (λ z. before ++ z) (sym (notes_joined c path (flat_map (λ (p : DeclParam). p.marks) params) marks))
    ∙ (λ i. before ++ notes_in c path (flat_map (λ (p : DeclParam). p.marks) (ps i) ++ ms i))
