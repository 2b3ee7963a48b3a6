use Rattle.std.proofs.Common.{◌≡◌, [], ◌∷◌, ◌++◌, length, sym, ◌∙◌, ap, arith, length-append}
use Rattle.rv_names.specs.Numbering.{with_name}
use Rattle.rv_names.proofs.NumberingLemmas.{IsOneToOne-from_distinct, IsNumberOf-last, Contains-from_number, has_number-from_number, has_number-from_absent, with_name-known, with_name-new}
use Rattle.rv_names.proofs.numbering.Names.number.Goals as goal
use Rattle.rv_names.proofs.numbering.Names.number.Goals.{In_ok-insert-in-None}

pub returns-in-Some-clause-names : goal.returns-in-Some-clause-names
returns-in-Some-clause-names c =
    sym (with_name-known _ _ (has_number-from_number c.args.self.now c.args.name.now c.in-Some.k c.in-Some.ensures.number))

pub returns-in-Some-clause-next : goal.returns-in-Some-clause-next
returns-in-Some-clause-next c =
    λ absent. absurd (absent (Contains-from_number c.args.self.now c.args.name.now c.in-Some.k c.in-Some.ensures.number))

inserted : (c : In_ok-insert-in-None) → c.insert.new.self.keys ≡ with_name c.args.self.now c.args.name.now
inserted c =
    let copied = c.in_ok-copy-in-None.ensures in
    rw (← c.self.view_is, ← copied) c.in_ok-insert-in-None.ensures.keys

grown : (c : In_ok-insert-in-None) → c.insert.new.self.keys ≡ c.args.self.now ++ c.args.name.now ∷ []
grown c = inserted c ∙ with_name-new _ _ (has_number-from_absent _ _ c.in-None.ensures.absent)

pub returns-in_ok-insert-in-None-clause-number : goal.returns-in_ok-insert-in-None-clause-number
returns-in_ok-insert-in-None-clause-number c =
    let count : c.len-k.result ≡ length c.args.self.now = c.len-k.ensures.len ∙ ap length c.self.view_is in
    rw (grown c, count) (IsNumberOf-last c.args.self.now c.args.name.now)

pub returns-in_ok-insert-in-None-clause-kept : goal.returns-in_ok-insert-in-None-clause-kept
returns-in_ok-insert-in-None-clause-kept c = λ j at. absurd (c.in-None.ensures.absent (Contains-from_number _ _ j at))

pub returns-in_ok-insert-in-None-clause-names : goal.returns-in_ok-insert-in-None-clause-names
returns-in_ok-insert-in-None-clause-names c = inserted c

pub returns-in_ok-insert-in-None-clause-one_to_one : goal.returns-in_ok-insert-in-None-clause-one_to_one
returns-in_ok-insert-in-None-clause-one_to_one c = IsOneToOne-from_distinct _ c.in_ok-insert-in-None.ensures.unique

pub invariant_of-self-in-None : goal.invariant_of-self-in-None
invariant_of-self-in-None c = record {
  small = rw (grown c, length-append) (omega arith);
  one_to_one = IsOneToOne-from_distinct _ c.in_ok-insert-in-None.ensures.unique;
}
