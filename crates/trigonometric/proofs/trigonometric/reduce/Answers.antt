use Rattle.trigonometric.proofs.Reduction.{reduction_is}
use Rattle.trigonometric.proofs.trigonometric.reduce.Goals as goal

pub returns : goal.returns
returns c =
    reduction_is c.args.x c.requires _ _ _ _ _ c.turns_argument-t.ensures c.whole_part-k.ensures.0 c.turns_float-n.ensures c.rest_of-rest.ensures
    c.quadrant_by-quadrant.ensures
