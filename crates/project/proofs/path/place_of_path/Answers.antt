use Rattle.std.proofs.Common.{◌≡◌, true, false, cond, Option, Some, None, sym, ap, ◌∙◌}
use Rattle.std.specs.Prelude.{codes, eqb, option_and_then, option_map}
use Rattle.std.specs.Option.{option_copied}
use Rattle.std.specs.List.{ends_with, list_all}
use Rattle.std.proofs.lemmas.Str.Pattern.{ends_text}
use Rattle.rv_names.specs.Keys.{Bytes, bytes_equal}
use Rattle.taint_config.specs.Kinds.{is_ascii_identifier}
use Rattle.project.specs.Paths.{before, kind_of_path, models_end, module_at, module_name, names_in, place_of, python_end, segments}
use Rattle.project.specs.declared.path.PathKind.TheVariants as kinds
use Rattle.project.specs.declared.path.Place.{Place}
use Rattle.project.specs.declared.path.Place.TheVariants as places
use Rattle.project.proofs.path.place_of_path.Goals as goal

-- the kind of files at a path that is no configuration's and none of models, by what stands before the ending of Python files
abbrev place_at : Option Bytes → Option Place
place_at o = option_map place_of (option_map kinds.Module (option_map module_name (option_and_then names_in o)))

by_stem : (path : Bytes) (o : Option Bytes) → bytes_equal path (codes "taint.config") ≡ false → ends_with eqb path models_end ≡ false → o ≡ before python_end path → place_at o ≡ option_map place_of (kind_of_path path)
by_stem path o a b e =
    ap place_at e
    ∙ ap (λ t. option_map place_of (cond t (Some kinds.Models) (option_map kinds.Module (module_at path)))) (sym b)
    ∙ ap (λ t. option_map place_of (cond t (Some kinds.Config) (cond (ends_with eqb path models_end) (Some kinds.Models) (option_map kinds.Module (module_at path))))) (sym a)

named : (stem : Bytes) → true ≡ list_all is_ascii_identifier (segments stem) → Some places.Module ≡ place_at (Some stem)
named stem e = ap (λ t. option_map place_of (option_map kinds.Module (option_map module_name (cond t (Some (segments stem)) None)))) e

unnamed : (stem : Bytes) → false ≡ list_all is_ascii_identifier (segments stem) → None ≡ place_at (Some stem)
unnamed stem e = ap (λ t. option_map place_of (option_map kinds.Module (option_map module_name (cond t (Some (segments stem)) None)))) e

pub returns-in-None : goal.returns-in-None
returns-in-None c =
    by_stem c.args.path.now None (sym c.eq.ensures ∙ c.if-eq.false) (sym (ends_text c.ends_with.result models_end c.args.path.now c.ends_with.ensures.cases) ∙ c.if-ends_with.false)
    (ap option_copied (sym c.in-None.is) ∙ c.before-2.ensures)

pub returns-then-are_names : goal.returns-then-are_names
returns-then-are_names c =
    named c.in-Some.stem.now (sym c.if-are_names.true ∙ c.are_names.ensures)
    ∙ by_stem c.args.path.now (Some c.in-Some.stem.now) (sym c.eq.ensures ∙ c.if-eq.false) (sym (ends_text c.ends_with.result models_end c.args.path.now c.ends_with.ensures.cases) ∙ c.if-ends_with.false)
    (ap option_copied (sym c.in-Some.is) ∙ c.before-2.ensures)

pub returns-else-are_names : goal.returns-else-are_names
returns-else-are_names c =
    unnamed c.in-Some.stem.now (sym c.if-are_names.false ∙ c.are_names.ensures)
    ∙ by_stem c.args.path.now (Some c.in-Some.stem.now) (sym c.eq.ensures ∙ c.if-eq.false) (sym (ends_text c.ends_with.result models_end c.args.path.now c.ends_with.ensures.cases) ∙ c.if-ends_with.false)
    (ap option_copied (sym c.in-Some.is) ∙ c.before-2.ensures)
