-- A map from names to whether they are kept, and one more use.
use Rattle.std.proofs.Common.{◌≡◌, Bool, true, false, cond, not, ◌&&◌, ◌||◌, ◌∷◌, Option, Some, refl, ap, ◌∙◌}
use Rattle.std.specs.Cmp.Lexicographic.{bytes_decides}
use Rattle.rv_names.specs.Keys.{Bytes, bytes_equal}
use Rattle.py_ast.specs.Owned.{keeps, keeps_list, all_used}
use Rattle.py_ast.specs.Uses.{Uses}
use Rattle.py_ast.specs.declared.binding.Use.{Use}
use Rattle.py_scopes.specs.declared.usage.Kept.{Kept}
use Rattle.py_scopes.specs.Kept.{kept, with_use, kept_in, both_kept}

and_assoc : (a b c : Bool) → (a && b) && c ≡ a && (b && c)
and_assoc true b c = refl
and_assoc false b c = refl

kept_pair : (a b c d : Bool) → a ≡ c → b ≡ d → (let k : Kept = record { object = a; list = b } in k) ≡ record { object = c; list = d }
kept_pair a b c d e f = λ i. record { object = e i; list = f i }

pub kept-step : (m : Bytes → Option Kept) (after : Option Kept) (n : Bytes) (u : Use) (us : Uses)
    → after ≡ cond (bytes_equal u.name n) (Some (with_use u (kept (m u.name)))) (m n)
    → both_kept (kept after) (kept_in n us) ≡ both_kept (kept (m n)) (kept_in n (u ∷ us))
kept-step m after n u us e = ap (λ k. both_kept (kept k) (kept_in n us)) e ∙ by (bytes_equal u.name n) (bytes_decides u.name n).0
  where
    one : (k : Kept) → both_kept (with_use u k) (kept_in n us) ≡ record { object = k.object && (keeps u.how && all_used keeps n us); list = k.list && (keeps_list u.how && all_used keeps_list n us) }
    one k = kept_pair _ _ _ _ (and_assoc k.object (keeps u.how) (all_used keeps n us)) (and_assoc k.list (keeps_list u.how) (all_used keeps_list n us))

    by : (t : Bool) → (t ≡ true → u.name ≡ n)
        → both_kept (kept (cond t (Some (with_use u (kept (m u.name)))) (m n))) (kept_in n us)
        ≡ record { object = (kept (m n)).object && ((not t || keeps u.how) && all_used keeps n us); list = (kept (m n)).list && ((not t || keeps_list u.how) && all_used keeps_list n us) }
    by true same = ap (λ x. both_kept (with_use u (kept (m x))) (kept_in n us)) (same refl) ∙ one (kept (m n))
    by false same = refl
