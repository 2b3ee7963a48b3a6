-- A buffer that was made longer for a read, filled at its end, and cut to what came.
use Rattle.std.proofs.Common.{◌≡◌, ◌+◌, ◌≤◌, ℕ, List, ◌++◌, length, take, arith, ap, sym, append_assoc, ◌∙◌}
use Rattle.std.proofs.lemmas.List.{take-append-le}
use Rattle.std.proofs.Math.Seq.{take-append-add}
use Rattle.std.proofs.lemmas.Grind.{common_steps}

-- what was there before the room
kept_before_room : (old room : List ℕ) (start end : ℕ) → start ≡ length old → start ≤ end → take start (take end old ++ room) ≡ old
kept_before_room old room start end same below = grind (arith, common_steps)

-- the front, and then as much as came of what was read behind it
cut_to_count : (front read after rest : List ℕ) (start count len : ℕ) → length front ≡ start → count ≤ length read → start + count ≤ len → take (start + count) (take len ((front ++ (read ++ after)) ++ rest)) ≡ front ++ take count read
cut_to_count front read after rest start count len at within fits =
    let cut : (whole : List ℕ) → take (start + count) (take len whole) ≡ take (start + count) whole = λ whole. grind (arith, common_steps) in
    let within_read : take count (read ++ (after ++ rest)) ≡ take count read = take-append-le count read (after ++ rest) within in
    cut _
    ∙ ap (take (start + count)) (append_assoc front (read ++ after) rest ∙ ap (λ x. front ++ x) (append_assoc read after rest))
    ∙ ap (λ n. take (n + count) (front ++ (read ++ (after ++ rest)))) (sym at)
    ∙ take-append-add front (read ++ (after ++ rest)) count
    ∙ ap (λ x. front ++ x) within_read

-- the buffer has gained what came
pub gains_read : (old room longer read after rest : List ℕ) (start end count len : ℕ) → start ≡ length old → start ≤ end → longer ≡ take end old ++ room → count ≤ length read → start + count ≤ len
    → take (start + count) (take len ((take start longer ++ (read ++ after)) ++ rest)) ≡ old ++ take count read
gains_read old room longer read after rest start end count len at below made within fits =
    let front : take start longer ≡ old = ap (take start) made ∙ kept_before_room old room start end at below in
    ap (λ x. take (start + count) (take len ((x ++ (read ++ after)) ++ rest))) front ∙ cut_to_count old read after rest start count len (omega (arith, at)) within fits
