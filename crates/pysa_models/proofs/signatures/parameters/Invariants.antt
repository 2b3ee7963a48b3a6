use Rattle.std.proofs.Common.{◌≡◌, ◌++◌, map, drop}
use Rattle.pysa_models.specs.Models.{parameter_of}
use Rattle.pysa_models.proofs.signatures.parameters.Given as goal

-- what was read, and what is still to be read, is all
abbrev pub invariant-loop-param : goal.invariant-loop-param
invariant-loop-param l = l.parameters ++ map (parameter_of l.config l.leaf) (drop l.param-index l.params) ≡ map (parameter_of l.config l.leaf) l.params
