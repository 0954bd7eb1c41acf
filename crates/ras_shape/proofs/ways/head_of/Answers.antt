use Rattle.ras_shape.proofs.TreesSeen.{other_head}
use Rattle.ras_shape.proofs.ways.head_of.Goals as goal

pub returns-in-Index : goal.returns-in-Index
returns-in-Index c = other_head c.args.e.now c.in-Index.e c.in-Index.axes c.in-Index.is
