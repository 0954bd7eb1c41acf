use Rattle.ras_fold.proofs.AnyOrder.{closed_of-any_order}
use Rattle.ras_fold.proofs.laws.outcomes_fold_in_any_order.Goals as goal

pub returns : goal.returns
returns c = closed_of-any_order
