use Rattle.std.proofs.Common.{◌≡◌, true, ap, ◌∙◌, sym}
use Rattle.phrases.specs.Sets.{has}
use Rattle.pysa_syntax.specs.Symbols.{class, names}
use Rattle.pysa_syntax.proofs.Names.{is_text, name_values}
use Rattle.pysa_syntax.proofs.words.name_in.Goals as goal

pub returns-in-Nothing : goal.returns-in-Nothing
returns-in-Nothing c =
    let h : has names (class c.args.token.now) ≡ true = cc in
    let e = sym (name_values c.args.token.now h) ∙ ap is_text c.in-Nothing.is in
    absurd cc

pub returns-in-Text : goal.returns-in-Text
returns-in-Text c =
    let h : has names (class c.args.token.now) ≡ true = cc in
    let e = sym (name_values c.args.token.now h) ∙ ap is_text c.in-Text.is in
    absurd cc

pub returns-in-Whole : goal.returns-in-Whole
returns-in-Whole c =
    let h : has names (class c.args.token.now) ≡ true = cc in
    let e = sym (name_values c.args.token.now h) ∙ ap is_text c.in-Whole.is in
    absurd cc
