-- Where the bytes of a text lie.
use Rattle.std.specs.Arc.{arc_str_bytes}
use Rattle.rv_names.specs.declared.texts.Kept.{Kept}
use Rattle.rv_names.specs.declared.texts.Kept.TheVariants.{Inline, Shared}
use Rattle.rv_names.specs.Keys.{Bytes}

-- the bytes of a text, wherever they lie
abbrev pub kept_bytes : Kept → Bytes
kept_bytes (Inline text) = text
kept_bytes (Shared text) = arc_str_bytes text
