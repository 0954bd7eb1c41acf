use Rattle.ras_reach.proofs.TreesRead.{index_is_other}
use Rattle.ras_reach.proofs.forms.head_of.Goals as goal

pub returns-in-Index : goal.returns-in-Index
returns-in-Index c = index_is_other c.args.e.now c.in-Index.e c.in-Index.axes c.in-Index.is
