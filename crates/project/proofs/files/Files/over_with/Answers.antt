use Rattle.std.proofs.Common.{◌≡◌, ◌+◌, ◌-◌, Some, None, sym, ap, ◌∙◌, arith}
use Rattle.std.specs.Prelude.{is_some}
use Rattle.std.specs.FinMap.{insert, len}
use Rattle.project.specs.Files.{file_at, first_past, text_of}
use Rattle.project.proofs.Maps.{length_in, rises}
use Rattle.project.proofs.Steps.{found, len_with_known, len_with_new, over_room, text_with}
use Rattle.project.proofs.files.Files.over_with.Goals as goal

pub returns-then-has_room : goal.returns-then-has_room
returns-then-has_room c item = over_room c.args.self.now c.args.path.now (file_at c.args.path.now item c.args.len) (sym c.has_room.ensures ∙ c.if-has_room.true)

pub overflow_sub-self-inside : goal.overflow_sub-self-inside
overflow_sub-self-inside c =
    let v = file_at c.args.path.now c.in-Some.old.now.item c.args.len in
    let a = text_with c.self.inside.live.entries c.self.inside.text c.self.inside.given c.args.self.now c.args.path.now v (Some c.in-Some.old.now) c.self.invariant.0 c.self.view_is c.in-Some.ensures.value in
    let b = c.len-in-Some-2.ensures in
    omega arith

pub returns-in-None : goal.returns-in-None
returns-in-None c item =
    let es = c.self.inside.live.entries in
    let v = file_at c.args.path.now item c.args.len in
    let count = c.len.ensures.len ∙ length_in es (rises es c.self.invariant.0.rising) ∙ ap len c.self.view_is in
    let absent = found es c.self.inside.text c.self.inside.given c.args.self.now c.args.path.now None c.self.invariant.0 c.self.view_is c.in-None.ensures.value in
    let files = ap (λ n. n + 1) count ∙ sym (len_with_new c.args.self.now c.args.path.now v (ap is_some absent)) in
    let a = text_with es c.self.inside.text c.self.inside.given c.args.self.now c.args.path.now v None c.self.invariant.0 c.self.view_is c.in-None.ensures.value in
    let text : c.self.inside.text + c.args.len ≡ text_of (insert c.args.self.now c.args.path.now v) = omega arith in
    c.first_past.ensures ∙ ap (λ n. first_past n (c.self.inside.text + c.args.len)) files ∙ ap (first_past (len (insert c.args.self.now c.args.path.now v))) text

pub returns-in-Some : goal.returns-in-Some
returns-in-Some c item =
    let es = c.self.inside.live.entries in
    let v = file_at c.args.path.now item c.args.len in
    let count = c.len-in-Some.ensures.len ∙ length_in es (rises es c.self.invariant.0.rising) ∙ ap len c.self.view_is in
    let known = found es c.self.inside.text c.self.inside.given c.args.self.now c.args.path.now (Some c.in-Some.old.now) c.self.invariant.0 c.self.view_is c.in-Some.ensures.value in
    let files = count ∙ sym (len_with_known c.args.self.now c.args.path.now v (ap is_some known)) in
    let a = text_with es c.self.inside.text c.self.inside.given c.args.self.now c.args.path.now v (Some c.in-Some.old.now) c.self.invariant.0 c.self.view_is c.in-Some.ensures.value in
    let b = c.len-in-Some-2.ensures in
    let text : c.self.inside.text + c.args.len - c.len-in-Some-2.result ≡ text_of (insert c.args.self.now c.args.path.now v) = omega arith in
    c.first_past-in-Some.ensures ∙ ap (λ n. first_past n (c.self.inside.text + c.args.len - c.len-in-Some-2.result)) files ∙ ap (first_past (len (insert c.args.self.now c.args.path.now v))) text
