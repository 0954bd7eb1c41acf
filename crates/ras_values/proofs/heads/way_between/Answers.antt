use Rattle.ras_values.proofs.WaysSeen.{way_other}
use Rattle.ras_values.proofs.heads.way_between.Goals as goal

pub returns-in-Other-default : goal.returns-in-Other-default
returns-in-Other-default c = λ t e ht he. way_other e t (rw c.in-Other-default.is-0 at ht)
