use Rattle.std.proofs.Common.{sym, ◌∙◌, refl}
use Rattle.std.proofs.lemmas.Str.{chars_past_char}
use Rattle.rv_names.proofs.identifiers.is_spelled_as_identifier.Goals as goal

pub returns-in-Some : goal.returns-in-Some
returns-in-Some c =
    let e = chars_past_char c.args.text.now c.next.new.self.rest.now c.in-Some.first c.utf8.text (sym c.chars-rest.ensures.rest ∙ c.in-Some.ensures.steps.0) in
    rw (e, c.is_identifier_start.ensures, c.continues.ensures, c.as_str.ensures) refl
