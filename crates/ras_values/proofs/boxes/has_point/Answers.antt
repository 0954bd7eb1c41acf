use Rattle.std.proofs.Common.{◌∙◌}
use Rattle.ras_values.proofs.Within.{is_in_by, is_in_nothing}
use Rattle.ras_values.proofs.boxes.has_point.Goals as goal

pub returns-in-Some : goal.returns-in-Some
returns-in-Some c = rw c.in-Some.is (is_in_by _ _ _ c.contains.ensures)

pub returns-in-None : goal.returns-in-None
returns-in-None c = rw c.in-None.is (c.is_empty.ensures ∙ is_in_nothing c.args.p.now.items)
