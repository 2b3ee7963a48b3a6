-- Where in an expression a token stands, and what may stand there (Language Reference, 6.2 to 6.14 and 10).
use Rattle.std.specs.Prelude.{Bool, true, false}
use Rattle.later_forms.specs.declared.spot.Spot.{Spot}
use Rattle.later_forms.specs.declared.spot.Spot.TheVariants.{Begin, Item, Value, Inversion, Operand, Attribute, BehindIs, Parameter, BehindAsync, Slice, Behind, BehindString}

-- an operand ends there (6.2, 6.3)
abbrev pub is_behind : Spot → Bool
is_behind Behind = true
is_behind BehindString = true
is_behind _ = false

abbrev pub is_begin : Spot → Bool
is_begin Begin = true
is_begin _ = false

abbrev pub is_item : Spot → Bool
is_item Item = true
is_item _ = false

abbrev pub is_slice : Spot → Bool
is_slice Slice = true
is_slice _ = false

abbrev pub is_parameter : Spot → Bool
is_parameter Parameter = true
is_parameter _ = false

abbrev pub is_behind_async : Spot → Bool
is_behind_async BehindAsync = true
is_behind_async _ = false

-- an operand may begin
abbrev pub wants_operand : Spot → Bool
wants_operand Begin = true
wants_operand Item = true
wants_operand Value = true
wants_operand Inversion = true
wants_operand Operand = true
wants_operand BehindIs = true
wants_operand Slice = true
wants_operand _ = false

-- a name: an operand, an attribute (6.3.1) or a parameter of a lambda (6.14)
abbrev pub takes_name : Spot → Bool
takes_name Attribute = true
takes_name Parameter = true
takes_name spot = wants_operand spot

-- a string: an operand, or the next of several in a row (2.4.2)
abbrev pub takes_string : Spot → Bool
takes_string BehindString = true
takes_string spot = wants_operand spot

-- a whole expression, which a `lambda` may be (6.14)
abbrev pub takes_expression : Spot → Bool
takes_expression Begin = true
takes_expression Item = true
takes_expression Value = true
takes_expression Slice = true
takes_expression _ = false

-- what stands there goes on with a primary that began before: an attribute, a call, a subscript, or a string behind another (6.3)
abbrev pub goes_on_primary : Spot → Bool
goes_on_primary Attribute = true
goes_on_primary Behind = true
goes_on_primary BehindString = true
goes_on_primary _ = false
