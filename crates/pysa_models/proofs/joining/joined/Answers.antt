use Rattle.pysa_models.proofs.Together.{joined_more, joined_all_there}
use Rattle.pysa_models.proofs.joining.joined.Goals as goal

pub loop-model-preserved : goal.loop-model-preserved
loop-model-preserved c =
    λ q. joined_more c.args.config.now c.args.leaves.now q c.args.models.now c.loop-model.model-index c.model-item.result _ _ _ c.loop-model-test.true c.model-item.is (c.in_ok-join.ensures q) (c.loop-model.invariant q)

pub returns : goal.returns
returns c =
    λ q. joined_all_there c.args.config.now c.args.leaves.now q c.args.models.now c.loop-model.model-index _ c.loop-model-test.false (c.loop-model.invariant q)
