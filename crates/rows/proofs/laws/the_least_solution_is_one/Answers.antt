use Rattle.rows.proofs.Monotony.{least_is_one, least_of_all_is_one}
use Rattle.rows.proofs.laws.the_least_solution_is_one.Goals as goal

pub returns-clause-of_a_body : goal.returns-clause-of_a_body
returns-clause-of_a_body c = least_is_one

pub returns-clause-of_all : goal.returns-clause-of_all
returns-clause-of_all c = least_of_all_is_one
