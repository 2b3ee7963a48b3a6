use Rattle.std.proofs.Common.{◌≡◌, ◌+◌, ◌++◌, ℕ, length, take, sym, ap, ◌∙◌, subst, arith, length-append}
use Rattle.std.specs.Str.{IsUtf8}
use Rattle.std.proofs.lemmas.List.{take_at}
use Rattle.std.proofs.lemmas.Result.{IfOk-weaker}
use Rattle.std.proofs.lemmas.Slice.{take-put_mid}
use Rattle.std.proofs.lemmas.Str.{IsUtf8-append}
use Rattle.rv_names.specs.Keys.{Bytes}
use borrow.Rule.Slice.PartMut.{put_mid}
use Rattle.project.proofs.neighbour.short_joined.Goals as goal

-- what was written at the front, and behind it
written : (stem ending one other room : Bytes) (k : ℕ) → one ≡ stem → other ≡ ending → take (length stem + length ending) (put_mid (length stem) k (one ++ room) other) ≡ stem ++ ending
written stem ending one other room k one_is other_is =
    let first : length one ≡ length stem = ap length one_is in
    let second : length other ≡ length ending = ap length other_is in
    take-put_mid (length stem) k (one ++ room) other (length stem + length ending) (omega arith) (omega (arith, length-append one room))
    ∙ ap (λ z. z ++ other) (take_at one room (length stem) first ∙ one_is)
    ∙ ap (λ z. stem ++ z) other_is

pub from_utf8_unchecked-path-requires : goal.from_utf8_unchecked-path-requires
from_utf8_unchecked-path-requires c =
    subst IsUtf8
    (sym (written c.args.stem.now c.args.ending.now c.copy_from_slice.new.self c.copy_from_slice-2.new.self _ _ (c.copy_from_slice.ensures.after ∙ c.as_bytes.ensures.value) (c.copy_from_slice-2.ensures.after ∙ c.as_bytes-2.ensures.value)))
    (IsUtf8-append c.args.stem.now c.args.ending.now c.utf8.stem c.utf8.ending)

pub returns : goal.returns
returns c =
    IfOk-weaker c.read.result _ _ (λ t is. is ∙ c.from_utf8_unchecked-path.ensures
    ∙ written c.args.stem.now c.args.ending.now c.copy_from_slice.new.self c.copy_from_slice-2.new.self _ _ (c.copy_from_slice.ensures.after ∙ c.as_bytes.ensures.value) (c.copy_from_slice-2.ensures.after ∙ c.as_bytes-2.ensures.value)) c.read.ensures
