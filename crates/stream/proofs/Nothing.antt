-- No bytes at all: they begin no command, and every command can still come.
use Rattle.std.proofs.Common.{◌≢◌, [], refl, inl, arith}
use Rattle.std.specs.Prelude.{false, codes}
use Rattle.std.proofs.lemmas.List.Elements.{All-nil}
use Rattle.script.specs.declared.command.Command.TheVariants as commands
use Rattle.script.specs.Grammar.{line_end}
use Rattle.script.specs.Stream.{IsUnfinished, BeginsNone}
use Rattle.stream.specs.State.{IsWaiting}
use Rattle.stream.proofs.Fronts.{inline_none}

pub nothing_none : BeginsNone 0 []
nothing_none = inline_none [] (All-nil (λ b. b ≢ line_end))

nothing_unfinished : IsUnfinished 0 []
nothing_unfinished = inl (record { more = codes "end\n"; command = commands.End; proper = omega arith; spells = refl })

pub nothing_waits : IsWaiting [] false
nothing_waits = record { none = nothing_none; unfinished = nothing_unfinished; goes_on = refl }
