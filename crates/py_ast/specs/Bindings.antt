-- The names that statements bind (Language Reference, section 4.2.1, cut to the subset), in order of place. The bodies of functions and
-- classes are scopes of their own; the blocks of `if`, `while` and `for` are not.
use Rattle.std.specs.Prelude.{Bool, true, false, List, [], ◌∷◌, ◌++◌, map, Option, Some, None, is_some, unwrap_or}
use Rattle.std.specs.List.{flat_map}
use Rattle.rv_names.specs.Keys.{Bytes, Parts, bytes_equal}
use Rattle.py_literals.specs.declared.place.Pos.{Pos}
use Rattle.py_ast.specs.Trees.{OpenForm, open_form, name_form}
use Rattle.py_ast.specs.declared.binding.Binding.{Binding}
use Rattle.py_ast.specs.declared.binding.BindingKind.{BindingKind}
use Rattle.py_ast.specs.declared.binding.BindingKind.TheVariants as kinds
use Rattle.py_ast.specs.declared.binding.Display.{Display}
use Rattle.py_ast.specs.declared.binding.Display.TheVariants as displays
use Rattle.py_ast.specs.declared.tree.Expr.{Expr, out-Expr}
use Rattle.py_ast.specs.declared.tree.Form.TheOpen.{Form-F as open_forms}
use Rattle.py_ast.specs.declared.tree.NameAt.{NameAt}
use Rattle.py_ast.specs.declared.statement.Dotted.{Dotted}
use Rattle.py_ast.specs.declared.statement.Imported.{Imported}
use Rattle.py_ast.specs.declared.statement.ImportedName.{ImportedName}
use Rattle.py_ast.specs.declared.statement.Parameter.{Parameter}
use Rattle.py_ast.specs.declared.statement.Branch.{Branch, fold-Branch}
use Rattle.py_ast.specs.declared.statement.Stmt.{Stmt, fold-Stmt}
use Rattle.py_ast.specs.declared.statement.StmtForm.TheOpen.{StmtForm-F, Branch-F, Class-F, Function-F, Stmt-F}

-- ---- one name

-- a name is bound by the statement of this number
abbrev pub bound : (looped : Bool) (node : Pos) → BindingKind → NameAt → Binding
bound looped node kind n = record { name = n.name; at = n.at; node = node; kind = kind; annotated = false; looped = looped }

abbrev pub bound_all : Bool → Pos → BindingKind → List NameAt → List Binding
bound_all looped node kind ns = map (bound looped node kind) ns

-- the name that an expression is
abbrev pub name_in : Expr → Option NameAt
name_in e = name_form (out-Expr e).node (open_form e)

abbrev pub given_name : Option NameAt → List NameAt
given_name None = []
given_name (Some n) = n ∷ []

-- ---- imports (7.11)

abbrev pub dotted_names : Dotted → Parts
dotted_names d = d.first.name ∷ map (λ n. n.name) d.others

-- `import a.b` binds `a`, to the thing of that name; `import a.b as c` binds `c` to `a.b`
abbrev pub imported_as : Bool → Pos → Dotted → Option NameAt → Binding
imported_as looped node d None = bound looped node (kinds.Import (d.first.name ∷ [])) d.first
imported_as looped node d (Some n) = bound looped node (kinds.Import (dotted_names d)) n

abbrev pub imported : Bool → Pos → Imported → Binding
imported looped node i = imported_as looped node i.name i.alias

-- `from m import x as y` binds `y` to `m.x`
abbrev pub imported_name : Bool → Pos → Dotted → ImportedName → Binding
imported_name looped node m i = bound looped node (kinds.Import (dotted_names m ++ i.name.name ∷ [])) (unwrap_or i.alias i.name)

-- ---- assignments (7.2)

abbrev pub display_form : OpenForm → Display
display_form (open_forms.List es) = displays.List
display_form (open_forms.Dictionary ps) = displays.Dictionary
display_form _ = displays.Other

abbrev pub display : Expr → Display
display e = display_form (open_form e)

-- a name is bound to the value, several names to what is unpacked; an attribute or a subscript binds none
abbrev pub assigned_form : Bool → Pos → Display → Pos → OpenForm → List Binding
assigned_form looped node shown at (open_forms.Name n) = bound looped node (kinds.Value shown) (record { name = n; at = at }) ∷ []
assigned_form looped node shown at (open_forms.Tuple es) = bound_all looped node kinds.Unpacked (flat_map (λ e. given_name (name_in e)) es)
assigned_form looped node shown at _ = []

abbrev pub assigned : Bool → Pos → Expr → Expr → List Binding
assigned looped node target value = assigned_form looped node (display value) (out-Expr target).node (open_form target)

-- an annotation alone binds nothing
abbrev pub annotated_kind : Option Expr → BindingKind
annotated_kind None = kinds.Annotation
annotated_kind (Some e) = kinds.Value (display e)

abbrev pub with_annotation : Bool → Pos → BindingKind → NameAt → Binding
with_annotation looped node kind n = record { name = n.name; at = n.at; node = node; kind = kind; annotated = true; looped = looped }

abbrev pub annotated : Bool → Pos → Expr → Option Expr → List Binding
annotated looped node target value = map (with_annotation looped node (annotated_kind value)) (given_name (name_in target))

abbrev pub augmented : Bool → Pos → Expr → List Binding
augmented looped node target = bound_all looped node kinds.Augmented (given_name (name_in target))

-- ---- statements, by whether a loop stands round them

abbrev pub Looped : Type 0
Looped = Bool → List Binding

-- by the number of the statement too
abbrev pub Numbered : Type 0
Numbered = Pos → Looped

-- what several bind, where a loop stands round them or not
abbrev pub all_bound : Bool → List Looped → List Binding
all_bound looped bs = flat_map (λ b. b looped) bs

abbrev pub bound_by_form : StmtForm-F Numbered Looped NameAt NameAt Looped → Numbered
bound_by_form (StmtForm-F.Expression e) = λ node looped. []
bound_by_form (StmtForm-F.Assign target value) = λ node looped. assigned looped node target value
bound_by_form (StmtForm-F.Annotate target annotation value) = λ node looped. annotated looped node target value
bound_by_form (StmtForm-F.Augment target operator value) = λ node looped. augmented looped node target
bound_by_form (StmtForm-F.Assert condition message) = λ node looped. []
bound_by_form StmtForm-F.Pass = λ node looped. []
bound_by_form (StmtForm-F.Return value) = λ node looped. []
bound_by_form StmtForm-F.Break = λ node looped. []
bound_by_form StmtForm-F.Continue = λ node looped. []
bound_by_form (StmtForm-F.Import modules) = λ node looped. map (imported looped node) modules
bound_by_form (StmtForm-F.ImportFrom m names) = λ node looped. map (imported_name looped node m) names
bound_by_form (StmtForm-F.If branch branches otherwise) = λ node looped. branch looped ++ all_bound looped branches ++ all_bound looped otherwise
bound_by_form (StmtForm-F.While condition body) = λ node looped. all_bound true body
bound_by_form (StmtForm-F.For names items body) = λ node looped. bound_all looped node kinds.Loop names ++ all_bound true body
bound_by_form (StmtForm-F.Function name) = λ node looped. bound looped node kinds.Function name ∷ []
bound_by_form (StmtForm-F.Class name) = λ node looped. bound looped node kinds.Class name ∷ []

abbrev pub bound_by_branch : Branch-F Numbered Looped NameAt NameAt Looped → Looped
bound_by_branch b = λ looped. all_bound looped b.body

-- of a class and a function, their names
abbrev pub class_name : Class-F Numbered Looped NameAt NameAt Looped → NameAt
class_name c = c.name

abbrev pub function_name : Function-F Numbered Looped NameAt NameAt Looped → NameAt
function_name f = f.name

abbrev pub bound_by_stmt : Stmt-F Numbered Looped NameAt NameAt Looped → Looped
bound_by_stmt s = s.form s.node

-- what a statement binds, in the blocks in it too
abbrev pub bound_in : Stmt → Looped
bound_in = fold-Stmt Numbered Looped NameAt NameAt Looped bound_by_form bound_by_branch class_name function_name bound_by_stmt

abbrev pub bound_in_branch : Branch → Looped
bound_in_branch = fold-Branch Numbered Looped NameAt NameAt Looped bound_by_form bound_by_branch class_name function_name bound_by_stmt

-- the names that statements bind, outside of loops
abbrev pub bindings : List Stmt → List Binding
bindings ss = all_bound false (map bound_in ss)

-- ---- parameters (8.7)

abbrev pub parameter : Parameter → Binding
parameter p = record { name = p.name.name; at = p.name.at; node = p.name.at; kind = kinds.Parameter; annotated = is_some p.annotation; looped = false }

-- ---- bindings by name

abbrev pub is_of : Bytes → Binding → Bool
is_of n b = bytes_equal b.name n
