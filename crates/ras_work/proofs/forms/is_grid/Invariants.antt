use Rattle.std.proofs.Common.{◌≤◌, All, take}
use Rattle.ras_work.proofs.forms.is_grid.Given as goal

abbrev pub invariant-loop-extent : goal.invariant-loop-extent
invariant-loop-extent l = All (λ extent. 1 ≤ extent) (take l.extent-index l.extent-items)
