use Rattle.std.proofs.Common.{◌≡◌, ◌+◌, ◌-◌, sym, ap, ◌∙◌, subst, arith}
use Rattle.std.specs.Prelude.{◌||◌}
use Rattle.std.specs.Map.{lookup}
use Rattle.std.specs.BTreeMap.{is_at}
use Rattle.rv_names.specs.Keys.{bytes_order}
use Rattle.std.specs.FinMap.{insert}
use Rattle.project.specs.Files.{IsFlatUnless, IsProject, given_by_all, text_of}
use Rattle.project.specs.Sums.{replaced, text_at}
use Rattle.project.proofs.Flat.{list_put}
use Rattle.project.proofs.Maps.{files_in, files_insert, rises}
use Rattle.project.proofs.Projects.{put_project}
use Rattle.project.proofs.Steps.{small_given, small_text, text_with, with_put}
use Rattle.project.proofs.files.Files.put_file.Goals as goal

pub overflow_add-text : goal.overflow_add-text
overflow_add-text c = omega (arith, small_text c.self.inside.live.entries c.self.inside.text c.self.inside.given c.args.self.now c.self.invariant.0 c.self.view_is)

pub overflow_add-given : goal.overflow_add-given
overflow_add-given c = omega (arith, small_given c.self.inside.live.entries c.self.inside.text c.self.inside.given c.args.self.now c.self.invariant.0 c.self.view_is, c.shown.ensures.small)

pub overflow_sub-self : goal.overflow_sub-self
overflow_sub-self c =
    let a = text_with c.self.inside.live.entries c.self.inside.text c.self.inside.given c.args.self.now c.args.path c.args.file c.in_ok-old.old c.self.invariant.0 c.self.view_is c.in_ok-old.ensures.old in
    let b : c.gone-old_text.result.0 ≡ text_at c.in_ok-old.old = c.gone-old_text.ensures.text in
    let d : c.len.result ≡ c.args.file.len = c.len.ensures in
    omega arith

pub overflow_sub-self-2 : goal.overflow_sub-self-2
overflow_sub-self-2 c =
    let es = c.self.inside.live.entries in
    let at_path = c.in_ok-old.ensures.old ∙ ap (λ q. lookup (is_at (bytes_order q)) es) c.requires.path in
    let a = with_put es c.self.inside.text c.self.inside.given c.args.self.now c.args.file.path c.args.file c.in_ok-old.old c.is_hidden-hidden.result c.beneath-beneath.result c.self.invariant.0 c.self.view_is at_path c.is_hidden-hidden.ensures c.beneath-beneath.ensures.value in
    let b = c.shown.ensures.value in
    let d : c.gone-old_text.result.1 ≡ replaced c.is_hidden-hidden.result c.beneath-beneath.result c.in_ok-old.old = c.gone-old_text.ensures.given in
    omega arith

pub invariant_of-self-2 : goal.invariant_of-self-2
invariant_of-self-2 c =
    let es = c.self.inside.live.entries in
    let text = c.self.inside.text + c.len.result - c.gone-old_text.result.0 in
    let given = c.self.inside.given + c.shown.result - c.gone-old_text.result.1 in
    let at_path = c.in_ok-old.ensures.old ∙ ap (λ q. lookup (is_at (bytes_order q)) es) c.requires.path in
    let text_is : text ≡ text_of (insert c.args.self.now c.args.path c.args.file) =
    let a = text_with es c.self.inside.text c.self.inside.given c.args.self.now c.args.path c.args.file c.in_ok-old.old c.self.invariant.0 c.self.view_is c.in_ok-old.ensures.old in
    let b : c.gone-old_text.result.0 ≡ text_at c.in_ok-old.old = c.gone-old_text.ensures.text in
    let d : c.len.result ≡ c.args.file.len = c.len.ensures in
    omega arith in
    let given_is : given ≡ given_by_all (insert c.args.self.now c.args.file.path c.args.file) =
    let a = with_put es c.self.inside.text c.self.inside.given c.args.self.now c.args.file.path c.args.file c.in_ok-old.old c.is_hidden-hidden.result c.beneath-beneath.result c.self.invariant.0 c.self.view_is at_path c.is_hidden-hidden.ensures c.beneath-beneath.ensures.value in
    let b = c.shown.ensures.value in
    let d : c.gone-old_text.result.1 ≡ replaced c.is_hidden-hidden.result c.beneath-beneath.result c.in_ok-old.old = c.gone-old_text.ensures.given in
    omega arith in (
      subst (λ es. IsProject es text given) (sym c.in_ok-old.ensures.entries)
          (put_project es c.self.inside.text c.self.inside.given c.args.self.now c.args.path c.args.file text given
          c.self.invariant.0 c.self.view_is c.requires.path c.requires.fits c.requires.within text_is given_is),
      subst (λ es. IsFlatUnless (c.self.inside.packages || c.hides.result) (files_in es)) (sym c.in_ok-old.ensures.entries)
          (list_put es c.args.path c.args.file c.self.inside.packages c.hides.result c.self.invariant.0.rising c.self.invariant.1 c.hides.ensures
          (sym c.requires.path)),
    )

pub returns-clause-files : goal.returns-clause-files
returns-clause-files c =
    let es = c.self.inside.live.entries in
    ap files_in c.in_ok-old.ensures.entries
    ∙ files_insert es c.args.path c.args.file (rises es c.self.invariant.0.rising)
    ∙ ap (λ z. insert z c.args.path c.args.file) c.self.view_is
