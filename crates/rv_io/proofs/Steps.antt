-- What several reads, or several writes, did together. For bytes that a source loses and a sink gains, std has
-- `Consumes-trans` and `Appends-trans`.
use Rattle.std.proofs.Common.{◌≡◌, ◌+◌, ◌≤◌, ℕ, List, [], ◌++◌, take, drop, Option, None, Some, IfSome, refl, subst, sym, ap, ◌∙◌, append-nil, append_assoc, arith}
use Rattle.std.proofs.Math.Seq.{take-add}
use Rattle.std.proofs.KnownBytes.{Appends-trans, Consumes-nil, Consumes-trans, Consumes-all, Consumes-kept}
use Rattle.std.specs.Io.KnownBytes.{Appends, IsAtEnd, Keeps}
use Rattle.rv_io.specs.Counts.{Rises}
use Rattle.rv_io.specs.Moves.{Moves, TellsEnd}

-- no read moves nothing
pub Moves-nil : (left : Option (List ℕ)) (buf : List ℕ) → Moves left left buf buf
Moves-nil left buf = ([], sym (append-nil buf), Consumes-nil left)

-- one read after another
pub Moves-trans : (a b c : Option (List ℕ)) (old mid new : List ℕ) → Moves a b old mid → Moves b c mid new → Moves a c old new
Moves-trans a b c old mid new first second =
    (first.0 ++ second.0, second.1 ∙ ap (λ x. x ++ second.0) first.1 ∙ append_assoc old first.0 second.0, Consumes-trans a b c first.0 second.0 first.2 second.2)

-- a source that lost nothing afterwards
pub Moves-kept : (a b c : Option (List ℕ)) (old new : List ℕ) → Moves a b old new → Keeps b c → Moves a c old new
Moves-kept a b c old new moved kept = (moved.0, moved.1, Consumes-kept a b c moved.0 moved.2 kept)

-- A source that is at its end gave all that it had.
pub Moves-all : (a b : Option (List ℕ)) (old new : List ℕ) → Moves a b old new → IsAtEnd b → IfSome a (λ input. new ≡ old ++ input)
Moves-all a b old new moved end = Consumes-all a b moved.0 old new moved.2 end moved.1

-- a read that gave no byte found none left
pub IsAtEnd-from_read : (left : Option (List ℕ)) → TellsEnd left 0 → IsAtEnd left
IsAtEnd-from_read None tells = tt
IsAtEnd-from_read (Some bytes) tells = tells.0 refl

-- a write of the front of what was left to write
pub Appends-take_more : (a b c : Option (List ℕ)) (bytes : List ℕ) (sent count : ℕ) → Appends a b (take sent bytes) → Appends b c (take count (drop sent bytes)) → Appends a c (take (sent + count) bytes)
Appends-take_more a b c bytes sent count before now = subst (Appends a c) (sym (take-add sent count bytes)) (Appends-trans a b c _ _ before now)

-- a count that rose later rose
pub Rises-later : (old mid new : ℕ) → old ≤ mid → Rises mid new → Rises old new
Rises-later old mid new falls_not rose = grind arith

-- a count that rose before rose
pub Rises-before : (old mid new : ℕ) → Rises old mid → mid ≤ new → Rises old new
Rises-before old mid new rose falls_not = grind arith
