-- The soonest of lists of faults, one after the other.
use Rattle.std.proofs.Common.{◌≡◌, ℕ, Bool, true, false, cond, not, ◌&&◌, ◌||◌, List, [], ◌∷◌, ◌++◌, append_assoc, map, filter, Option, Some, None, ◌==◌, nat_lt, refl, sym, subst, ap, ◌∙◌, arith}
use Rattle.std.proofs.lemmas.Bool.Decides.{nat_tests}
use Rattle.std.specs.Cmp.Lexicographic.{bytes_decides}
use Rattle.std.specs.List.{flat_map, fold, list_any}
use Rattle.std.proofs.lemmas.List.Sums.{fold-append}
use Rattle.std.proofs.lemmas.List.Elements.{filter-append}
use Rattle.rv_names.specs.Keys.{Bytes, bytes_equal}
use Rattle.py_literals.specs.declared.place.Pos.{Pos}
use Rattle.py_ast.specs.Bindings.{is_of, bindings, parameter}
use Rattle.py_ast.specs.Uses.{Uses, used_in_all}
use Rattle.py_ast.specs.ScopeFaults.{is_before, binds, same_thing, first_of, is_fixed_in, differs, binds_again, twice, sooner, bound_twice, is_called, variable_call, variable_calls, parameters, locals, used_in_body, is_method, globals, functions, classes, is_global_variable, function_faults, class_faults, scope_fault}
use Rattle.py_ast.specs.declared.binding.Binding.{Binding}
use Rattle.py_ast.specs.declared.binding.ScopeFault.{ScopeFault}
use Rattle.py_ast.specs.declared.statement.Class.{Class, out-Class}
use Rattle.py_ast.specs.declared.statement.Function.{Function}
use Rattle.py_ast.specs.declared.statement.Module.{Module}
use Rattle.py_ast.specs.declared.statement.Parameter.{Parameter}
use Rattle.py_ast.specs.declared.statement.Stmt.{Stmt}
use Rattle.py_scopes.specs.Listed.{is_wanted}
use Rattle.py_scopes.specs.Names.{is_named, is_variable_of}
use Rattle.py_scopes.specs.Scopes.{function_scope}
use Rattle.py_scopes.specs.declared.layers.FunctionScope.{FunctionScope}
use Rattle.py_scopes.specs.declared.uses.Wanted.TheVariants.{Calls}

pub fold_more : (known : Option ScopeFault) (fs gs : List ScopeFault) → fold sooner (fold sooner known fs) gs ≡ fold sooner known (fs ++ gs)
fold_more known fs gs = sym (fold-append sooner known fs gs)

-- of a function, by its scope and what its body uses
pub function_known : (g : Bytes → Bool) (method : Bool) (f : Function) (known last : Option ScopeFault) (s : FunctionScope) (us : Uses)
    → s ≡ function_scope method f → us ≡ used_in_body f
    → last ≡ fold sooner known (bound_twice s.parameters ++ variable_calls (λ n. is_named n s.locals || g n) us)
    → last ≡ fold sooner known (function_faults g f)
function_known g method f known last s us scope used e =
    e ∙ ap (λ t. fold sooner known (bound_twice t.parameters ++ variable_calls (λ n. is_named n t.locals || g n) us)) scope
    ∙ ap (λ vs. fold sooner known (bound_twice (function_scope method f).parameters ++ variable_calls (λ n. is_named n (function_scope method f).locals || g n) vs)) used

pub and_turned : (a b c : Bool) → (a && c) && b ≡ a && (b && c)
and_turned true true true = refl
and_turned true true false = refl
and_turned true false true = refl
and_turned true false false = refl
and_turned false b c = refl

-- ---- a list in which no name comes again

-- each binding has another name than those before it, where these stand before
abbrev pub Fresh : List Binding → List Binding → Type 0
Fresh before [] = Unit {0}
Fresh before (b ∷ bs) = (is_named b.name before ≡ false) × Fresh (before ++ b ∷ []) bs

first_behind : (n : Bytes) (before bs : List Binding) → is_named n before ≡ false → first_of n (before ++ bs) ≡ first_of n bs
first_behind n [] bs e = refl
first_behind n (b ∷ before) bs e = by (is_of n b) e (first_behind n before bs)
  where
    by : (t : Bool) → t || is_named n before ≡ false → (is_named n before ≡ false → first_of n (before ++ bs) ≡ first_of n bs) → cond (t && binds b.kind) (Some b) (first_of n (before ++ bs)) ≡ first_of n bs
    by true f more = absurd (cc f)
    by false f more = more f

less_self : (n : ℕ) → nat_lt n n ≡ false
less_self n = grind (arith, nat_tests)

before_self : (p : Pos) → is_before p p ≡ false
before_self p = rw (less_self p.line, less_self p.col) (last (p.line == p.line))
  where
    last : (t : Bool) → (t && false) ≡ false
    last true = refl
    last false = refl

-- the first of its name isn't bound again
not_again : (b : Binding) (bs all : List Binding) → first_of b.name all ≡ first_of b.name (b ∷ bs) → binds_again all b ≡ false
not_again b bs all e = ap (λ f. binds b.kind && is_fixed_in all b.name && differs f b) (e ∙ ap (λ t. cond (t && binds b.kind) (Some b) (first_of b.name bs)) ((bytes_decides b.name b.name).1 refl)) ∙ by (binds b.kind) (is_fixed_in all b.name)
  where
    by : (t u : Bool) → t && u && differs (cond t (Some b) (first_of b.name bs)) b ≡ false
    by false u = refl
    by true false = refl
    by true true = ap (λ x. x && not (same_thing b.kind b.kind)) (before_self b.at)

fresh_once : (before bs all : List Binding) → all ≡ before ++ bs → Fresh before bs → filter (binds_again all) bs ≡ []
fresh_once before [] all e h = refl
fresh_once before (b ∷ bs) all e h =
    ap (λ t. cond t (b ∷ filter (binds_again all) bs) (filter (binds_again all) bs)) (not_again b bs all (ap (first_of b.name) e ∙ first_behind b.name before (b ∷ bs) h.0))
    ∙ fresh_once (before ++ b ∷ []) bs all (e ∙ sym (append_assoc before (b ∷ []) bs)) h.1

pub fresh_list : (bs : List Binding) → Fresh [] bs → bound_twice bs ≡ []
fresh_list bs h = ap (map twice) (fresh_once [] bs bs refl h)

-- of those that are methods none comes again, where none of all does
unnamed_among : (n : Bytes) (bs : List Binding) → is_named n bs ≡ false → is_named n (filter is_method bs) ≡ false
unnamed_among n [] e = refl
unnamed_among n (b ∷ bs) e = by (is_of n b) (is_method b) refl e (unnamed_among n bs)
  where
    by : (t m : Bool) → is_of n b ≡ t → t || is_named n bs ≡ false → (is_named n bs ≡ false → is_named n (filter is_method bs) ≡ false)
        → is_named n (cond m (b ∷ filter is_method bs) (filter is_method bs)) ≡ false
    by true m q f more = absurd (cc f)
    by false true q f more = ap (λ t. t || is_named n (filter is_method bs)) q ∙ more f
    by false false q f more = more f

append_none : (bs : List Binding) → bs ++ [] ≡ bs
append_none [] = refl
append_none (b ∷ bs) = ap (λ xs. b ∷ xs) (append_none bs)

fresh_among : (before bs : List Binding) → Fresh before bs → Fresh (filter is_method before) (filter is_method bs)
fresh_among before [] h = tt
fresh_among before (b ∷ bs) h = by (is_method b) refl (fresh_among (before ++ b ∷ []) bs h.1)
  where
    put : (t : Bool) → is_method b ≡ t → Fresh (filter is_method (before ++ b ∷ [])) (filter is_method bs) → Fresh (filter is_method before ++ cond t (b ∷ []) []) (filter is_method bs)
    put t e more = subst (λ xs. Fresh xs (filter is_method bs)) (filter-append is_method before (b ∷ []) ∙ ap (λ u. filter is_method before ++ cond u (b ∷ []) []) e) more

    by : (t : Bool) → is_method b ≡ t → Fresh (filter is_method (before ++ b ∷ [])) (filter is_method bs) → Fresh (filter is_method before) (cond t (b ∷ filter is_method bs) (filter is_method bs))
    by true e more = (unnamed_among b.name before h.0, put true e more)
    by false e more = subst (λ xs. Fresh xs (filter is_method bs)) (append_none (filter is_method before)) (put false e more)

pub fresh_methods : (bs : List Binding) → Fresh [] bs → bound_twice (filter is_method bs) ≡ []
fresh_methods bs h = fresh_list (filter is_method bs) (fresh_among [] bs h)

pub named_parameter : (n : Bytes) (ps : List Parameter) → list_any (λ p. bytes_equal p.name.name n) ps ≡ is_named n (map parameter ps)
named_parameter n [] = refl
named_parameter n (p ∷ ps) = ap (λ t. bytes_equal p.name.name n || t) (named_parameter n ps)

pub fresh_known : (known : Option ScopeFault) (bs cs : List Binding) → bs ≡ cs → bound_twice bs ≡ [] → known ≡ fold sooner known (bound_twice cs)
fresh_known known bs cs same none = ap (fold sooner known) (sym none) ∙ ap (λ ds. fold sooner known (bound_twice ds)) same

-- the calls of variables are among the calls
abbrev pub calls_in : Uses → Uses
calls_in us = filter (is_wanted Calls) us

pub calls_alone : (p : Bytes → Bool) (us : Uses) → variable_calls p (calls_in us) ≡ variable_calls p us
calls_alone p us = ap (map variable_call) (among us)
  where
    named : Uses → Uses
    named vs = filter (λ v. is_called v.how && p v.name) vs

    among : (us : Uses) → named (calls_in us) ≡ named us
    among [] = refl
    among (u ∷ us) = by (is_called u.how) refl (among us)
      where
        by : (t : Bool) → is_called u.how ≡ t → named (calls_in us) ≡ named us → named (cond t (u ∷ calls_in us) (calls_in us)) ≡ cond (t && p u.name) (u ∷ named us) (named us)
        by true e more = ap (λ x. cond (x && p u.name) (u ∷ named (calls_in us)) (named (calls_in us))) e ∙ ap (λ vs. cond (p u.name) (u ∷ vs) vs) more
        by false e more = more

-- where nothing is called, no variable is
pub quiet_known : (p : Bytes → Bool) (known : Option ScopeFault) (us : Uses) → calls_in us ≡ [] → known ≡ fold sooner known (variable_calls p us)
quiet_known p known us quiet = ap (fold sooner known) (sym (sym (calls_alone p us) ∙ ap (variable_calls p) quiet))

-- of the calls in a function, by its locals and what its body uses
pub call_known : (g : Bytes → Bool) (f : Function) (known last : Option ScopeFault) (ls : List Binding) (us : Uses)
    → ls ≡ locals f → us ≡ calls_in (used_in_body f)
    → last ≡ fold sooner known (variable_calls (λ n. is_named n ls || g n) us)
    → last ≡ fold sooner known (variable_calls (λ n. is_named n (locals f) || g n) (used_in_body f))
call_known g f known last ls us own used e =
    e ∙ ap (λ ms. fold sooner known (variable_calls (λ n. is_named n ms || g n) us)) own
    ∙ ap (λ vs. fold sooner known (variable_calls (λ n. is_named n (locals f) || g n) vs)) used
    ∙ ap (fold sooner known) (calls_alone (λ n. is_named n (locals f) || g n) (used_in_body f))

-- of a function, by its parameters and then by the calls in it
pub faults_known : (g : Bytes → Bool) (f : Function) (known first last : Option ScopeFault) (ps : List Binding)
    → ps ≡ parameters f → first ≡ fold sooner known (bound_twice ps)
    → last ≡ fold sooner first (variable_calls (λ n. is_named n (locals f) || g n) (used_in_body f))
    → last ≡ fold sooner known (function_faults g f)
faults_known g f known first last ps own twice e =
    let calls = variable_calls (λ n. is_named n (locals f) || g n) (used_in_body f) in
    e ∙ ap (λ k. fold sooner k calls) (twice ∙ ap (λ qs. fold sooner known (bound_twice qs)) own) ∙ fold_more known (bound_twice (parameters f)) calls

-- of a module's top level, where there are no locals
pub module_known : (m : Module) (last : Option ScopeFault) (gs locals : List Binding) (us : Uses)
    → gs ≡ globals m → locals ≡ [] → us ≡ calls_in (used_in_all m.body)
    → last ≡ fold sooner None (bound_twice gs ++ variable_calls (λ n. is_named n locals || is_variable_of n gs) us)
    → last ≡ fold sooner None (bound_twice (globals m) ++ variable_calls (is_global_variable m) (used_in_all m.body))
module_known m last gs locals us own none used e =
    e ∙ ap (λ ls. fold sooner None (bound_twice gs ++ variable_calls (λ n. is_named n ls || is_variable_of n gs) us)) none
    ∙ ap (λ hs. fold sooner None (bound_twice hs ++ variable_calls (λ n. is_variable_of n hs) us)) own
    ∙ ap (λ vs. fold sooner None (bound_twice (globals m) ++ variable_calls (is_global_variable m) vs)) used
    ∙ ap (λ fs. fold sooner None (bound_twice (globals m) ++ fs)) (calls_alone (is_global_variable m) (used_in_all m.body))

-- of a module's top level where nothing is called
pub module_quiet : (m : Module) (last : Option ScopeFault) (gs : List Binding)
    → gs ≡ globals m → calls_in (used_in_all m.body) ≡ []
    → last ≡ fold sooner None (bound_twice gs)
    → last ≡ fold sooner None (bound_twice (globals m) ++ variable_calls (is_global_variable m) (used_in_all m.body))
module_quiet m last gs own quiet e =
    e ∙ ap (λ hs. fold sooner None (bound_twice hs)) own
    ∙ quiet_known (is_global_variable m) (fold sooner None (bound_twice (globals m))) (used_in_all m.body) quiet
    ∙ fold_more None (bound_twice (globals m)) (variable_calls (is_global_variable m) (used_in_all m.body))

-- of a class, by its methods and then by the functions in it
pub class_known : (g : Bytes → Bool) (c : Class) (known before last : Option ScopeFault) (ss ts : List Stmt) (members methods : List Binding)
    → ss ≡ (out-Class c).body → ts ≡ (out-Class c).body → members ≡ bindings ss → methods ≡ filter is_method members
    → before ≡ fold sooner known (bound_twice methods)
    → last ≡ fold sooner before (flat_map (function_faults g) (functions ts))
    → last ≡ fold sooner known (class_faults g c)
class_known g c known before last ss ts members methods body again bound kept first e =
    let all = (out-Class c).body in
    let own = kept ∙ ap (filter is_method) (bound ∙ ap bindings body) in
    e ∙ ap (λ k. fold sooner k (flat_map (function_faults g) (functions ts))) (first ∙ ap (λ ms. fold sooner known (bound_twice ms)) own)
    ∙ ap (λ us. fold sooner (fold sooner known (bound_twice (filter is_method (bindings all)))) (flat_map (function_faults g) (functions us))) again
    ∙ fold_more known (bound_twice (filter is_method (bindings all))) (flat_map (function_faults g) (functions all))

-- of a whole module
pub read_known : (m : Module) (own before last : Option ScopeFault) (gs : List Binding) (ss : List Stmt)
    → ss ≡ m.body → gs ≡ bindings ss
    → own ≡ fold sooner None (bound_twice (globals m) ++ variable_calls (is_global_variable m) (used_in_all m.body))
    → before ≡ fold sooner own (flat_map (function_faults (λ n. is_variable_of n gs)) (functions ss))
    → last ≡ fold sooner before (flat_map (class_faults (λ n. is_variable_of n gs)) (classes ss))
    → last ≡ scope_fault m
read_known m own before last gs ss body bound first second third =
    let top : List ScopeFault = bound_twice (globals m) ++ variable_calls (is_global_variable m) (used_in_all m.body) in
    third ∙ ap (λ k. fold sooner k (flat_map (class_faults (λ n. is_variable_of n gs)) (classes ss))) (second ∙ ap (λ k. fold sooner k (flat_map (function_faults (λ n. is_variable_of n gs)) (functions ss))) first)
    ∙ ap (λ hs. fold sooner (fold sooner (fold sooner None top) (flat_map (function_faults (λ n. is_variable_of n hs)) (functions ss))) (flat_map (class_faults (λ n. is_variable_of n hs)) (classes ss))) bound
    ∙ ap (λ ts. fold sooner (fold sooner (fold sooner None top) (flat_map (function_faults (λ n. is_variable_of n (bindings ts))) (functions ts))) (flat_map (class_faults (λ n. is_variable_of n (bindings ts))) (classes ts))) body
    ∙ ap (λ k. fold sooner k (flat_map (class_faults (is_global_variable m)) (classes m.body))) (fold_more None top (flat_map (function_faults (is_global_variable m)) (functions m.body)))
    ∙ fold_more None (top ++ flat_map (function_faults (is_global_variable m)) (functions m.body)) (flat_map (class_faults (is_global_variable m)) (classes m.body))

-- one more in a loop that keeps the soonest fault
pub fault_more : {A : Type 0} (faults : A → List ScopeFault) (fault next : Option ScopeFault) (here rest : List A) (a : A) (last : Option ScopeFault)
    → here ≡ a ∷ rest → next ≡ fold sooner fault (faults a)
    → fold sooner fault (flat_map faults here) ≡ last
    → fold sooner next (flat_map faults rest) ≡ last
fault_more faults fault next here rest a last split step inv =
    ap (λ k. fold sooner k (flat_map faults rest)) step ∙ fold_more fault (faults a) (flat_map faults rest) ∙ sym (ap (λ h. fold sooner fault (flat_map faults h)) split) ∙ inv

-- one more in a loop that lists scopes and keeps the soonest fault
pub loop_more : {A S : Type 0} (F : A → S) (faults : A → List ScopeFault) (found after : List S) (fault next : Option ScopeFault) (here rest : List A) (a : A) (s : S) (all : List S) (last : Option ScopeFault)
    → here ≡ a ∷ rest → s ≡ F a → after ≡ found ++ s ∷ [] → next ≡ fold sooner fault (faults a)
    → (found ++ map F here ≡ all) × (fold sooner fault (flat_map faults here) ≡ last)
    → (after ++ map F rest ≡ all) × (fold sooner next (flat_map faults rest) ≡ last)
loop_more F faults found after fault next here rest a s all last split made put step inv = (
  ap (λ x. x ++ map F rest) (put ∙ ap (λ t. found ++ t ∷ []) made) ∙ append_assoc found (F a ∷ []) (map F rest) ∙ sym (ap (λ h. found ++ map F h) split) ∙ inv.0,
  ap (λ k. fold sooner k (flat_map faults rest)) step ∙ fold_more fault (faults a) (flat_map faults rest) ∙ sym (ap (λ h. fold sooner fault (flat_map faults h)) split) ∙ inv.1,
)
