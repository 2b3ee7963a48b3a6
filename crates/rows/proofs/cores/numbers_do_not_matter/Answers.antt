use Rattle.rows.proofs.Renames.{renamed_least, least_back, renamed_reached}
use Rattle.rows.proofs.cores.numbers_do_not_matter.Goals as goal

pub returns-clause-least : goal.returns-clause-least
returns-clause-least c = renamed_least

pub returns-clause-back : goal.returns-clause-back
returns-clause-back c = least_back

pub returns-clause-reached : goal.returns-clause-reached
returns-clause-reached c = renamed_reached
