-- What is known of one name, by the places of its bindings in a list.
use Rattle.std.specs.Prelude.{ℕ, ◌+◌, Bool, true, false, cond, ◌||◌, List, [], ◌∷◌, Option, Some, None, slice_get}
use Rattle.rv_names.specs.Keys.{Bytes}
use Rattle.py_ast.specs.Bindings.{is_of}
use Rattle.py_ast.specs.ScopeFaults.{binds, is_fixed, is_variable}
use Rattle.py_ast.specs.declared.binding.Binding.{Binding}
use Rattle.py_scopes.specs.declared.facts.Seen.{Seen}
use Rattle.py_scopes.specs.declared.facts.Facts.{Facts}

abbrev pub seen_behind : ℕ → Bool → Option ℕ → Seen
seen_behind at again None = record { first = Some at; again = again }
seen_behind at again (Some first) = record { first = Some first; again = true }

abbrev pub seen_at : ℕ → Seen → Seen
seen_at at s = seen_behind at s.again s.first

abbrev pub unseen : Seen
unseen = record { first = None; again = false }

abbrev pub no_facts : Facts
no_facts = record { named = false; bound = unseen; annotated = unseen; fixed = false; variable = false }

abbrev pub with_binding : ℕ → Binding → Facts → Facts
with_binding at b f = record {
  named = true;
  bound = cond (binds b.kind) (seen_at at f.bound) f.bound;
  annotated = cond b.annotated (seen_at at f.annotated) f.annotated;
  fixed = f.fixed || is_fixed b.kind;
  variable = f.variable || is_variable b.kind;
}

abbrev pub known : Option Facts → Facts
known None = no_facts
known (Some f) = f

-- the facts of a name, from those of the bindings before
abbrev pub told : Bytes → ℕ → Option Facts → List Binding → Option Facts
told n at before [] = before
told n at before (b ∷ bs) = told n (at + 1) (cond (is_of n b) (Some (with_binding at b (known before))) before) bs

-- what stands at the place, or else this
abbrev pub or_look : List Binding → Option ℕ → Option Binding → Option Binding
or_look all None y = y
or_look all (Some at) y = slice_get all at

-- what stands at the only place
abbrev pub alone : List Binding → Seen → Option Binding
alone all s = cond s.again None (or_look all s.first None)
