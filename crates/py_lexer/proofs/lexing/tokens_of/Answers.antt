use Rattle.std.proofs.Common.{refl, arith}
use Rattle.py_lexer.proofs.Runs.{leads_found, leads_passed, leads_over, leads_bad, leads_unclosed, found_shrinks, passed_shrinks, moved_line, moved_col}
use Rattle.py_lexer.proofs.QuickLemmas.{still_twice, still_thrice, leads_ended, ended_shrinks, ended_line, ended_col, leads_still, size_still, leads_pushed, pushed_shrinks, pushed_line, pushed_col}
use Rattle.py_lexer.proofs.Spaces.{gap_leads, gap_shrinks, gap_line, gap_col}
use Rattle.py_lexer.proofs.lexing.tokens_of.Goals as goal

pub pieces-smaller-in-Some : goal.pieces-smaller-in-Some
pieces-smaller-in-Some c =
    gap_shrinks c.pieces.at c.pieces.state c.behind_gap.new.state c.pieces.rest.now c.in-Some.behind.now c.in-Some.ensures.rest

pub pieces-preserved-in-Some : goal.pieces-preserved-in-Some
pieces-preserved-in-Some c =
    let gap = c.in-Some.ensures.rest in
    let here = c.pieces.invariant in
    record {
      leads = gap_leads c.args.text.now c.pieces.tokens.items c.pieces.at c.pieces.state c.behind_gap.new.state c.pieces.rest.now c.in-Some.behind.now here.leads gap;
      line = gap_line c.pieces.at c.pieces.state c.behind_gap.new.state c.pieces.rest.now c.in-Some.behind.now _ gap here.line;
      col = gap_col c.pieces.at c.pieces.state c.behind_gap.new.state c.pieces.rest.now c.in-Some.behind.now _ gap here.col;
    }

pub pieces-smaller-in-Found : goal.pieces-smaller-in-Found
pieces-smaller-in-Found c =
    let quick = c.in_ok-quick.ensures.none (omega arith) in
    let line_end = c.in_ok-ended.ensures.none c.if-ended.false in
    let still = still_thrice c.pieces.tokens.items c.push_quick.new.tokens.items c.pass_line_end.new.tokens.items c.pieces.state c.behind_gap.new.state c.push_quick.new.state c.pass_line_end.new.state c.in_default.ensures.rest quick line_end in
    let e = rw c.in-Found.is at c.in_ok-len.ensures in
    size_still _ c.pieces.state c.pass_line_end.new.state c.pieces.rest.now still.1 (rw c.parted-in-Found.ensures.rest (found_shrinks c.pieces.at c.pass_line_end.new.state c.piece.new.state c.pieces.rest.now c.in-Found.len c.in-Found.kind c.in-Found.value e))

pub pieces-preserved-in-Found : goal.pieces-preserved-in-Found
pieces-preserved-in-Found c =
    let quick = c.in_ok-quick.ensures.none (omega arith) in
    let line_end = c.in_ok-ended.ensures.none c.if-ended.false in
    let still = still_thrice c.pieces.tokens.items c.push_quick.new.tokens.items c.pass_line_end.new.tokens.items c.pieces.state c.behind_gap.new.state c.push_quick.new.state c.pass_line_end.new.state c.in_default.ensures.rest quick line_end in
    let e = rw c.in-Found.is at c.in_ok-len.ensures in
    record {
      leads = rw (c.in_ok-push-in-Found.ensures.items, c.moved-at.ensures, c.parted-in-Found.ensures.front, c.parted-in-Found.ensures.rest) (leads_found c.args.text.now c.pass_line_end.new.tokens.items c.pieces.at c.pass_line_end.new.state c.piece.new.state c.pieces.rest.now c.in-Found.len c.in-Found.kind c.in-Found.value (leads_still c.args.text.now c.pieces.tokens.items c.pass_line_end.new.tokens.items c.pieces.at c.pieces.state c.pass_line_end.new.state c.pieces.rest.now c.pieces.invariant.leads still) e);
      line = rw (c.moved-at.ensures, c.parted-in-Found.ensures.front, c.parted-in-Found.ensures.rest) (moved_line c.pieces.at c.pieces.rest.now c.in-Found.len _ c.pieces.invariant.line);
      col = rw (c.moved-at.ensures, c.parted-in-Found.ensures.front, c.parted-in-Found.ensures.rest) (moved_col c.pieces.at c.pieces.rest.now c.in-Found.len _ c.pieces.invariant.col);
    }

pub pieces-smaller : goal.pieces-smaller
pieces-smaller c =
    let quick = c.in_ok-quick.ensures.none (omega arith) in
    let line_end = c.in_ok-ended.ensures.none c.if-ended.false in
    let still = still_thrice c.pieces.tokens.items c.push_quick.new.tokens.items c.pass_line_end.new.tokens.items c.pieces.state c.behind_gap.new.state c.push_quick.new.state c.pass_line_end.new.state c.in_default.ensures.rest quick line_end in
    let e = rw c.in-Passed.is at c.in_ok-len.ensures in
    size_still _ c.pieces.state c.pass_line_end.new.state c.pieces.rest.now still.1 (rw c.parted-in-Passed.ensures.rest (passed_shrinks c.pieces.at c.pass_line_end.new.state c.piece.new.state c.pieces.rest.now c.in-Passed.len e))

pub pieces-preserved : goal.pieces-preserved
pieces-preserved c =
    let quick = c.in_ok-quick.ensures.none (omega arith) in
    let line_end = c.in_ok-ended.ensures.none c.if-ended.false in
    let still = still_thrice c.pieces.tokens.items c.push_quick.new.tokens.items c.pass_line_end.new.tokens.items c.pieces.state c.behind_gap.new.state c.push_quick.new.state c.pass_line_end.new.state c.in_default.ensures.rest quick line_end in
    let e = rw c.in-Passed.is at c.in_ok-len.ensures in
    record {
      leads = rw (c.moved-at-in-Passed.ensures, c.parted-in-Passed.ensures.front, c.parted-in-Passed.ensures.rest) (leads_passed c.args.text.now c.pass_line_end.new.tokens.items c.pieces.at c.pass_line_end.new.state c.piece.new.state c.pieces.rest.now c.in-Passed.len (leads_still c.args.text.now c.pieces.tokens.items c.pass_line_end.new.tokens.items c.pieces.at c.pieces.state c.pass_line_end.new.state c.pieces.rest.now c.pieces.invariant.leads still) e);
      line = rw (c.moved-at-in-Passed.ensures, c.parted-in-Passed.ensures.front, c.parted-in-Passed.ensures.rest) (moved_line c.pieces.at c.pieces.rest.now c.in-Passed.len _ c.pieces.invariant.line);
      col = rw (c.moved-at-in-Passed.ensures, c.parted-in-Passed.ensures.front, c.parted-in-Passed.ensures.rest) (moved_col c.pieces.at c.pieces.rest.now c.in-Passed.len _ c.pieces.invariant.col);
    }

pub returns-in-Bad-clause-fault : goal.returns-in-Bad-clause-fault
returns-in-Bad-clause-fault c =
    let quick = c.in_ok-quick.ensures.none (omega arith) in
    let line_end = c.in_ok-ended.ensures.none c.if-ended.false in
    let still = still_thrice c.pieces.tokens.items c.push_quick.new.tokens.items c.pass_line_end.new.tokens.items c.pieces.state c.behind_gap.new.state c.push_quick.new.state c.pass_line_end.new.state c.in_default.ensures.rest quick line_end in
    let e = rw c.in-Bad.is at c.in_ok-len.ensures in
    rw (c.after-at.ensures, c.parted-in-Bad.ensures.front) (leads_bad c.args.text.now c.pass_line_end.new.tokens.items c.pieces.at c.pass_line_end.new.state c.pieces.rest.now c.in-Bad.kind c.in-Bad.ahead (leads_still c.args.text.now c.pieces.tokens.items c.pass_line_end.new.tokens.items c.pieces.at c.pieces.state c.pass_line_end.new.state c.pieces.rest.now c.pieces.invariant.leads still) e)

pub returns-in-Unclosed-clause-fault : goal.returns-in-Unclosed-clause-fault
returns-in-Unclosed-clause-fault c =
    let quick = c.in_ok-quick.ensures.none (omega arith) in
    let line_end = c.in_ok-ended.ensures.none c.if-ended.false in
    let still = still_thrice c.pieces.tokens.items c.push_quick.new.tokens.items c.pass_line_end.new.tokens.items c.pieces.state c.behind_gap.new.state c.push_quick.new.state c.pass_line_end.new.state c.in_default.ensures.rest quick line_end in
    let e = rw c.in-Unclosed.is at c.in_ok-len.ensures in
    leads_unclosed c.args.text.now c.pass_line_end.new.tokens.items c.pieces.at c.pass_line_end.new.state c.pieces.rest.now c.in-Unclosed.at (leads_still c.args.text.now c.pieces.tokens.items c.pass_line_end.new.tokens.items c.pieces.at c.pieces.state c.pass_line_end.new.state c.pieces.rest.now c.pieces.invariant.leads still) e

pub returns-in-Over-clause-tokens : goal.returns-in-Over-clause-tokens
returns-in-Over-clause-tokens c =
    let quick = c.in_ok-quick.ensures.none (omega arith) in
    let line_end = c.in_ok-ended.ensures.none c.if-ended.false in
    let still = still_thrice c.pieces.tokens.items c.push_quick.new.tokens.items c.pass_line_end.new.tokens.items c.pieces.state c.behind_gap.new.state c.push_quick.new.state c.pass_line_end.new.state c.in_default.ensures.rest quick line_end in
    let e = rw c.in-Over.is at c.in_ok-len.ensures in
    leads_over c.args.text.now c.pass_line_end.new.tokens.items c.pieces.at c.pass_line_end.new.state c.pieces.rest.now (leads_still c.args.text.now c.pieces.tokens.items c.pass_line_end.new.tokens.items c.pieces.at c.pieces.state c.pass_line_end.new.state c.pieces.rest.now c.pieces.invariant.leads still) e

pub pieces-smaller-then-quick-gt0 : goal.pieces-smaller-then-quick-gt0
pieces-smaller-then-quick-gt0 c =
    let told = c.in_ok-quick.ensures in
    rw c.split_at.ensures.back
    (size_still _ c.pieces.state c.behind_gap.new.state c.pieces.rest.now c.in_default.ensures.rest (pushed_shrinks c.pieces.at c.behind_gap.new.state c.push_quick.new.state c.pieces.rest.now c.in_ok-quick.quick _ _ (told.some c.if-quick-gt0.true)))

pub pieces-preserved-then-quick-gt0 : goal.pieces-preserved-then-quick-gt0
pieces-preserved-then-quick-gt0 c =
    let here = c.pieces.invariant in
    let told = c.in_ok-quick.ensures in
    let n = c.in_ok-quick.quick in
    let rest = c.pieces.rest.now in
    let leads = leads_still c.args.text.now c.pieces.tokens.items c.pieces.tokens.items c.pieces.at c.pieces.state c.behind_gap.new.state rest here.leads (refl, c.in_default.ensures.rest) in
    record {
      leads = rw c.split_at.ensures.back (leads_pushed c.args.text.now c.pieces.tokens.items c.push_quick.new.tokens.items c.pieces.at c.behind_gap.new.state c.push_quick.new.state rest n leads (told.some c.if-quick-gt0.true) told.in_line told.within);
      line = rw c.split_at.ensures.back (pushed_line c.pieces.at rest n _ told.in_line told.within here.line);
      col = rw c.split_at.ensures.back (pushed_col c.pieces.at rest n _ told.in_line told.within here.col);
    }

pub pieces-smaller-then-ended : goal.pieces-smaller-then-ended
pieces-smaller-then-ended c =
    let still = still_twice c.pieces.tokens.items c.push_quick.new.tokens.items c.pieces.state c.behind_gap.new.state c.push_quick.new.state c.in_default.ensures.rest (c.in_ok-quick.ensures.none (omega arith)) in
    rw c.parted.ensures.rest
    (size_still _ c.pieces.state c.push_quick.new.state c.pieces.rest.now still.1 (ended_shrinks c.pieces.at c.push_quick.new.state c.pass_line_end.new.state c.pieces.rest.now _ _ (c.in_ok-ended.ensures.some c.if-ended.true)))

pub pieces-preserved-then-ended : goal.pieces-preserved-then-ended
pieces-preserved-then-ended c =
    let here = c.pieces.invariant in
    let told = c.in_ok-ended.ensures in
    let line_end = told.line_end c.if-ended.true in
    let rest = c.pieces.rest.now in
    let still = still_twice c.pieces.tokens.items c.push_quick.new.tokens.items c.pieces.state c.behind_gap.new.state c.push_quick.new.state c.in_default.ensures.rest (c.in_ok-quick.ensures.none (omega arith)) in
    let leads = leads_still c.args.text.now c.pieces.tokens.items c.push_quick.new.tokens.items c.pieces.at c.pieces.state c.push_quick.new.state rest here.leads still in
    record {
      leads = rw (c.next_line-at.ensures, c.parted.ensures.rest) (leads_ended c.args.text.now c.push_quick.new.tokens.items c.pass_line_end.new.tokens.items c.pieces.at c.push_quick.new.state c.pass_line_end.new.state rest leads (told.some c.if-ended.true) line_end);
      line = rw (c.next_line-at.ensures, c.parted.ensures.rest) (ended_line c.pieces.at rest _ line_end here.line);
      col = rw (c.next_line-at.ensures, c.parted.ensures.rest) (ended_col c.pieces.at rest _ line_end here.col);
    }
