-- The primary that ends a run (Language Reference, 6.3), and what it calls. A run is a list of roles, the last token first.
use Rattle.std.specs.Prelude.{ℕ, Bool, true, false, ◌+◌, ◌-◌, ◌==◌, ◌&&◌, not, List, [], ◌∷◌, length, if◌then◌else◌}
use Rattle.py_forms.specs.declared.role.Role.{Role}
use Rattle.py_forms.specs.declared.role.Role.TheVariants as roles
use Rattle.py_forms.specs.declared.level.Step.TheVariants.{Skip, Inside, Open}
use Rattle.py_forms.specs.declared.primary.Callee.{Callee}
use Rattle.py_forms.specs.declared.primary.Callee.TheVariants.{Named, Init, Unnamed}
use Rattle.py_forms.specs.Levels.{is_behind_operand, step}

abbrev pub is_behind_dot : List Role → Bool
is_behind_dot (roles.Dot ∷ before) = true
is_behind_dot _ = false

abbrev pub is_behind_string : List Role → Bool
is_behind_string (roles.Text ∷ before) = true
is_behind_string (roles.FStringEnd ∷ before) = true
is_behind_string _ = false

-- the primary of this token begins before it: the token opens a call or a subscript, names an attribute, or is a string
-- behind another (6.3, 2.4.2)
unfoldable pub goes_on : Role → List Role → Bool
goes_on roles.Dot before = true
goes_on roles.LeftParen before = is_behind_operand before
goes_on roles.LeftBracket before = is_behind_operand before
goes_on roles.Name before = is_behind_dot before
goes_on roles.Super before = is_behind_dot before
goes_on roles.Init before = is_behind_dot before
goes_on roles.Text before = is_behind_string before
goes_on roles.FStringStart before = is_behind_string before
goes_on _ before = false

-- what stands before the primary that ends a run
unfoldable pub before_primary : ℕ → List Role → List Role
before_primary n [] = []
before_primary n (role ∷ before) =
    elim (step n role) as (λ s. List Role) [
      | Skip m ↦ if (m == 0) && not (goes_on role before) then before else before_primary m before
      | Inside ↦ if goes_on role before then before_primary 0 before else before
      | Open ↦ role ∷ before
    ]

-- a run without the parentheses that close at its end
abbrev pub is_right_paren : Role → Bool
is_right_paren roles.RightParen = true
is_right_paren _ = false

unfoldable pub unwrapped : List Role → List Role
unwrapped [] = []
unwrapped (role ∷ before) = if is_right_paren role then unwrapped before else role ∷ before

-- so many parentheses close at the end, and as many open before the primary inside of them: they group it, and make no node
-- (6.2.3)
abbrev pub is_only_wrapped : List Role → Bool
is_only_wrapped back =
    length (before_primary 0 (unwrapped back)) == length (before_primary 0 back) + (length back - length (unwrapped back))

-- a callee is a name or an attribute, one of these called `__init__`, or another primary
abbrev pub callee_by : List Role → Bool → Callee
callee_by (roles.Name ∷ before) true = Named
callee_by (roles.Super ∷ before) true = Named
callee_by (roles.Init ∷ before) true = Init
callee_by _ _ = Unnamed

abbrev pub callee : List Role → Callee
callee back = callee_by (unwrapped back) (is_only_wrapped back)
