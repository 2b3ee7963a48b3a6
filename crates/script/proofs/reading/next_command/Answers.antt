use Rattle.std.proofs.Common.{length, drop, subst, sym}
use Rattle.script.specs.Reading.{command_at}
use Rattle.script.specs.Stream.{WaitsWell}
use Rattle.script.specs.declared.faults.Fault.TheVariants.{Line, Text, Malformed}
use Rattle.script.specs.declared.command.Wait.TheVariants as wait
use Rattle.script.proofs.Pieces.{found, only, begins, none_begins, read_finished, refused_finished, line_unfinished, text_unfinished, waited_need, waited_malformed, malformed_is, line_waits, text_waits_well, stopped}
use Rattle.script.proofs.reading.next_command.Goals as goal

pub returns-in-Ok-clause-found : goal.returns-in-Ok-clause-found
returns-in-Ok-clause-found c = found c.args.at c.args.bytes.now c.in-Ok.command c.in-Ok.after.now c.in-Ok.ensures.value

pub returns-in-Ok-clause-only : goal.returns-in-Ok-clause-only
returns-in-Ok-clause-only c = λ command rest b memory. only c.args.at (drop c.args.at c.args.bytes.now) (length c.args.bytes.now) c.in-Ok.command c.in-Ok.after.now c.in-Ok.ensures.value command rest b

pub returns-in-Ok-clause-more : goal.returns-in-Ok-clause-more
returns-in-Ok-clause-more c = λ unfinished ended memory. absurd (read_finished c.args.at (drop c.args.at c.args.bytes.now) (c.in-Ok.command, c.in-Ok.after.now) c.in-Ok.ensures.value unfinished)

pub returns-in-Ok-clause-refused : goal.returns-in-Ok-clause-refused
returns-in-Ok-clause-refused c = λ none unfinished memory. absurd (none c.in-Ok.command c.in-Ok.after.now (begins c.args.at (drop c.args.at c.args.bytes.now) c.in-Ok.command c.in-Ok.after.now c.in-Ok.ensures.value))

pub returns-in-Err-Fault-Malformed-clause-only : goal.returns-in-Err-Fault-Malformed-clause-only
returns-in-Err-Fault-Malformed-clause-only c = λ command rest b memory. absurd (none_begins c.args.at (drop c.args.at c.args.bytes.now) Malformed (stopped c.in-Err-Fault-Malformed.field-0 c.in-Err-Fault-Malformed.field-0-0 Malformed (command_at c.args.at (drop c.args.at c.args.bytes.now)) c.in-Err-Fault-Malformed.field-0-is c.in-Err-Fault-Malformed.field-0-0-is c.in-Err-Fault-Malformed.ensures.value) command rest b)

pub returns-in-Err-Fault-Malformed-clause-more : goal.returns-in-Err-Fault-Malformed-clause-more
returns-in-Err-Fault-Malformed-clause-more c = λ unfinished ended memory. absurd (refused_finished c.args.at (drop c.args.at c.args.bytes.now) (stopped c.in-Err-Fault-Malformed.field-0 c.in-Err-Fault-Malformed.field-0-0 Malformed (command_at c.args.at (drop c.args.at c.args.bytes.now)) c.in-Err-Fault-Malformed.field-0-is c.in-Err-Fault-Malformed.field-0-0-is c.in-Err-Fault-Malformed.ensures.value) unfinished)

pub returns-in-Err-Fault-Malformed-clause-malformed : goal.returns-in-Err-Fault-Malformed-clause-malformed
returns-in-Err-Fault-Malformed-clause-malformed c = λ place e.
    (sym (malformed_is c.args.at place e), none_begins c.args.at (drop c.args.at c.args.bytes.now) Malformed (stopped c.in-Err-Fault-Malformed.field-0 c.in-Err-Fault-Malformed.field-0-0 Malformed (command_at c.args.at (drop c.args.at c.args.bytes.now)) c.in-Err-Fault-Malformed.field-0-is c.in-Err-Fault-Malformed.field-0-0-is c.in-Err-Fault-Malformed.ensures.value), λ ended. refused_finished c.args.at (drop c.args.at c.args.bytes.now) (stopped c.in-Err-Fault-Malformed.field-0 c.in-Err-Fault-Malformed.field-0-0 Malformed (command_at c.args.at (drop c.args.at c.args.bytes.now)) c.in-Err-Fault-Malformed.field-0-is c.in-Err-Fault-Malformed.field-0-0-is c.in-Err-Fault-Malformed.ensures.value))

pub returns-in-Err-Fault-Line-clause-only : goal.returns-in-Err-Fault-Line-clause-only
returns-in-Err-Fault-Line-clause-only c = λ command rest b memory. absurd (none_begins c.args.at (drop c.args.at c.args.bytes.now) Line (stopped c.in-Err-Fault-Line.field-0 c.in-Err-Fault-Line.field-0-0 Line (command_at c.args.at (drop c.args.at c.args.bytes.now)) c.in-Err-Fault-Line.field-0-is c.in-Err-Fault-Line.field-0-0-is c.in-Err-Fault-Line.ensures.value) command rest b)

pub returns-in-Err-Fault-Line-clause-need : goal.returns-in-Err-Fault-Line-clause-need
returns-in-Err-Fault-Line-clause-need c =
    waited_need c.args.at (drop c.args.at c.args.bytes.now) c.args.ended c.open_line.result c.wait.result (record { more = c.wait.ensures.more; over = c.wait.ensures.over })
    (line_unfinished c.args.at (drop c.args.at c.args.bytes.now) (stopped c.in-Err-Fault-Line.field-0 c.in-Err-Fault-Line.field-0-0 Line (command_at c.args.at (drop c.args.at c.args.bytes.now)) c.in-Err-Fault-Line.field-0-is c.in-Err-Fault-Line.field-0-0-is c.in-Err-Fault-Line.ensures.value)) (subst (WaitsWell c.args.at (drop c.args.at c.args.bytes.now)) (sym c.open_line.ensures) (line_waits c.args.at c.args.bytes.now c.requires (stopped c.in-Err-Fault-Line.field-0 c.in-Err-Fault-Line.field-0-0 Line (command_at c.args.at (drop c.args.at c.args.bytes.now)) c.in-Err-Fault-Line.field-0-is c.in-Err-Fault-Line.field-0-0-is c.in-Err-Fault-Line.ensures.value)))

pub returns-in-Err-Fault-Line-clause-malformed : goal.returns-in-Err-Fault-Line-clause-malformed
returns-in-Err-Fault-Line-clause-malformed c =
    waited_malformed c.args.at (drop c.args.at c.args.bytes.now) c.args.ended c.open_line.result c.wait.result (record { more = c.wait.ensures.more; over = c.wait.ensures.over })
    (none_begins c.args.at (drop c.args.at c.args.bytes.now) Line (stopped c.in-Err-Fault-Line.field-0 c.in-Err-Fault-Line.field-0-0 Line (command_at c.args.at (drop c.args.at c.args.bytes.now)) c.in-Err-Fault-Line.field-0-is c.in-Err-Fault-Line.field-0-0-is c.in-Err-Fault-Line.ensures.value))

pub returns-in-Err-Fault-Line-clause-refused : goal.returns-in-Err-Fault-Line-clause-refused
returns-in-Err-Fault-Line-clause-refused c = λ none ended memory. c.wait.ensures.over (ended (line_unfinished c.args.at (drop c.args.at c.args.bytes.now) (stopped c.in-Err-Fault-Line.field-0 c.in-Err-Fault-Line.field-0-0 Line (command_at c.args.at (drop c.args.at c.args.bytes.now)) c.in-Err-Fault-Line.field-0-is c.in-Err-Fault-Line.field-0-0-is c.in-Err-Fault-Line.ensures.value)))

pub returns-in-Err-Fault-Text-clause-only : goal.returns-in-Err-Fault-Text-clause-only
returns-in-Err-Fault-Text-clause-only c = λ command rest b memory. absurd (none_begins c.args.at (drop c.args.at c.args.bytes.now) (Text c.in-Err-Fault-Text.until) (stopped c.in-Err-Fault-Text.field-0 c.in-Err-Fault-Text.field-0-0 (Text c.in-Err-Fault-Text.until) (command_at c.args.at (drop c.args.at c.args.bytes.now)) c.in-Err-Fault-Text.field-0-is c.in-Err-Fault-Text.field-0-0-is c.in-Err-Fault-Text.ensures.value) command rest b)

pub returns-in-Err-Fault-Text-clause-need : goal.returns-in-Err-Fault-Text-clause-need
returns-in-Err-Fault-Text-clause-need c =
    let result = c.wait-in-Err-Fault-Text in
    waited_need c.args.at (drop c.args.at c.args.bytes.now) c.args.ended (wait.Text c.in-Err-Fault-Text.until) result.result (record { more = result.ensures.more; over = result.ensures.over })
    (text_unfinished c.args.at (drop c.args.at c.args.bytes.now) c.in-Err-Fault-Text.until (stopped c.in-Err-Fault-Text.field-0 c.in-Err-Fault-Text.field-0-0 (Text c.in-Err-Fault-Text.until) (command_at c.args.at (drop c.args.at c.args.bytes.now)) c.in-Err-Fault-Text.field-0-is c.in-Err-Fault-Text.field-0-0-is c.in-Err-Fault-Text.ensures.value)) (text_waits_well c.args.at (drop c.args.at c.args.bytes.now) c.in-Err-Fault-Text.until (stopped c.in-Err-Fault-Text.field-0 c.in-Err-Fault-Text.field-0-0 (Text c.in-Err-Fault-Text.until) (command_at c.args.at (drop c.args.at c.args.bytes.now)) c.in-Err-Fault-Text.field-0-is c.in-Err-Fault-Text.field-0-0-is c.in-Err-Fault-Text.ensures.value))

pub returns-in-Err-Fault-Text-clause-malformed : goal.returns-in-Err-Fault-Text-clause-malformed
returns-in-Err-Fault-Text-clause-malformed c =
    let result = c.wait-in-Err-Fault-Text in
    waited_malformed c.args.at (drop c.args.at c.args.bytes.now) c.args.ended (wait.Text c.in-Err-Fault-Text.until) result.result (record { more = result.ensures.more; over = result.ensures.over })
    (none_begins c.args.at (drop c.args.at c.args.bytes.now) (Text c.in-Err-Fault-Text.until) (stopped c.in-Err-Fault-Text.field-0 c.in-Err-Fault-Text.field-0-0 (Text c.in-Err-Fault-Text.until) (command_at c.args.at (drop c.args.at c.args.bytes.now)) c.in-Err-Fault-Text.field-0-is c.in-Err-Fault-Text.field-0-0-is c.in-Err-Fault-Text.ensures.value))

pub returns-in-Err-Fault-Text-clause-refused : goal.returns-in-Err-Fault-Text-clause-refused
returns-in-Err-Fault-Text-clause-refused c = λ none ended memory. c.wait-in-Err-Fault-Text.ensures.over (ended (text_unfinished c.args.at (drop c.args.at c.args.bytes.now) c.in-Err-Fault-Text.until (stopped c.in-Err-Fault-Text.field-0 c.in-Err-Fault-Text.field-0-0 (Text c.in-Err-Fault-Text.until) (command_at c.args.at (drop c.args.at c.args.bytes.now)) c.in-Err-Fault-Text.field-0-is c.in-Err-Fault-Text.field-0-0-is c.in-Err-Fault-Text.ensures.value)))
