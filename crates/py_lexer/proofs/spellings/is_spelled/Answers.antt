use Rattle.std.proofs.Common.{◌∙◌, sym, ap, length, arith}
use Rattle.std.proofs.lemmas.List.{get_or_read}
use Rattle.std.proofs.lemmas.Bool.Decides.{nat_tests}
use Rattle.py_lexer.specs.Spellings.{is_spelled}
use Rattle.py_lexer.proofs.SpellingLemmas.{other_len, spelled_end, spelled_more, spelled_no_more}
use Rattle.py_lexer.proofs.spellings.is_spelled.Goals as goal

pub returns-then-text-bytes : goal.returns-then-text-bytes
returns-then-text-bytes c = sym (other_len c.args.text.now c.args.word.now (λ e. c.if-text-bytes.true (e ∙ ap length (sym c.as_bytes-bytes.ensures.value))))

pub returns-then-bytes-i-ge128 : goal.returns-then-bytes-i-ge128
returns-then-bytes-i-ge128 c =
    sym (spelled_no_more c.args.text.now c.as_bytes-bytes.result.now c.loop-i.i (grind arith) (grind arith) (grind (arith, nat_tests)))
    ∙ c.loop-i.invariant ∙ ap (is_spelled c.args.text.now) c.as_bytes-bytes.ensures.value

pub returns-then-text-i : goal.returns-then-text-i
returns-then-text-i c =
    let read = get_or_read c.args.text.now c.loop-i.i c.index-text-i.result (grind arith) c.index-text-i.is 0 in
    sym (spelled_no_more c.args.text.now c.as_bytes-bytes.result.now c.loop-i.i (grind arith) (grind arith) (grind (arith, nat_tests)))
    ∙ c.loop-i.invariant ∙ ap (is_spelled c.args.text.now) c.as_bytes-bytes.ensures.value

pub loop-i-preserved : goal.loop-i-preserved
loop-i-preserved c =
    let read = get_or_read c.args.text.now c.loop-i.i c.index-text-i.result (grind arith) c.index-text-i.is 0 in
    spelled_more c.args.text.now c.as_bytes-bytes.result.now c.loop-i.i (grind arith) (grind arith) (grind arith) (grind arith) ∙ c.loop-i.invariant

pub returns : goal.returns
returns c =
    sym (spelled_end c.args.text.now c.as_bytes-bytes.result.now c.loop-i.i (grind arith) (grind arith)) ∙ c.loop-i.invariant ∙ ap (is_spelled c.args.text.now) c.as_bytes-bytes.ensures.value
