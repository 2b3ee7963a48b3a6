use Rattle.std.proofs.Common.{◌≡◌, ◌≤◌, ℕ, List, length, chars, rules}
use Rattle.std.specs.Str.{IsUtf8}
use Rattle.std.proofs.lemmas.Str.{encodes-chars, length-le-encodes}
use Rattle.std.proofs.lemmas.Iterator.{YieldsList-from_chars}
use Rattle.std.proofs.lemmas.Iterator.Adapters.{items_from_extend}
use Rattle.py_lexer.proofs.source.chars_of.Goals as goal

no_longer : (bs cs : List ℕ) → IsUtf8 bs → cs ≡ chars bs → length cs ≤ length bs
no_longer bs cs utf8 e = rw e (rw (encodes-chars bs utf8) at (length-le-encodes (chars bs)))

pub returns-clause-same : goal.returns-clause-same
returns-clause-same c =
    let h = items_from_extend c.extend.result c.extend.ensures.ran (YieldsList-from_chars c.args.text.now c.utf8.text c.chars.ensures.rest) in
    search rules

pub returns-clause-short : goal.returns-clause-short
returns-clause-short c =
    let h = items_from_extend c.extend.result c.extend.ensures.ran (YieldsList-from_chars c.args.text.now c.utf8.text c.chars.ensures.rest) in
    let same : c.extend.new.self.items ≡ chars c.args.text.now = search rules in
    no_longer c.args.text.now c.extend.new.self.items c.utf8.text same
