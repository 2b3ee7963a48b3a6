use Rattle.taint_model.proofs.PutJoins.{put-mono, put_above, put_least, put_stands}
use Rattle.taint_model.proofs.laws.put_is_least_upper_bound.Goals as goal

pub returns-clause-first : goal.returns-clause-first
returns-clause-first c = put_above

pub returns-clause-second : goal.returns-clause-second
returns-clause-second c = put_stands

pub returns-clause-least : goal.returns-clause-least
returns-clause-least c = put_least

pub returns-clause-monotone : goal.returns-clause-monotone
returns-clause-monotone c = put-mono
