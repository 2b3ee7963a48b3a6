-- What holds of each text.
use Rattle.std.specs.Prelude.{◌≡◌, ◌⊎◌, ℕ, List}
use Rattle.pysa_syntax.specs.declared.decl.Decl.{Decl}
use Rattle.pysa_syntax.specs.declared.error.ModelError.{ModelError}
use Rattle.pysa_syntax.specs.declared.error.ModelError.TheVariants as errors
use Rattle.pysa_syntax.specs.Faults.{HasModels, IsRefusedBy}

-- a fault of the text itself, and not want of memory
abbrev pub HasFault : List ℕ → ModelError → Type 0
HasFault text fault = IsRefusedBy text fault × (fault ≡ errors.Memory → ⊥)

-- it declares some models
pub record IsRead (text : List ℕ) : Type 0 where
  pub decls : List Decl
  pub are : HasModels text decls

-- it has some fault
pub record IsFaulty (text : List ℕ) : Type 0 where
  pub fault : ModelError
  pub is : HasFault text fault

-- it declares one list of models, or else it has one fault
pub record HasOneAnswer (text : List ℕ) : Type 0 where
  pub answered : IsRead text ⊎ IsFaulty text
  pub one_list : (a b : List Decl) → HasModels text a → HasModels text b → a ≡ b
  pub not_both : (a : List Decl) (fault : ModelError) → HasModels text a → HasFault text fault → ⊥
  pub one_fault : (e f : ModelError) → HasFault text e → HasFault text f → e ≡ f
