use Rattle.std.proofs.Common.{◌≡◌, map, take}
use Rattle.ras_work.specs.Copies.{put_by}
use Rattle.ras_work.proofs.copies.copies_of.Given as goal

abbrev pub invariant-loop-change : goal.invariant-loop-change
invariant-loop-change l = map put_by l.copies ≡ map put_by (take l.change-index l.changes)
