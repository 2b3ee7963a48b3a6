-- Equality of texts, names and qualified names decides whether their values are equal.
use Rattle.std.proofs.Common.{◌≡◌, true}
use Rattle.std.specs.Cmp.Lexicographic.{pointwise_decides, bytes_decides}
use Rattle.rv_names.specs.Keys.{Bytes, Parts, bytes_equal, parts_equal}

pub bytes_equal-decides : (x y : Bytes) → (bytes_equal x y ≡ true → x ≡ y) × (x ≡ y → bytes_equal x y ≡ true)
bytes_equal-decides = bytes_decides

pub parts_equal-decides : (x y : Parts) → (parts_equal x y ≡ true → x ≡ y) × (x ≡ y → parts_equal x y ≡ true)
parts_equal-decides = pointwise_decides bytes_decides
