use Rattle.std.proofs.Common.{◌≡◌, ◌++◌, map, Some}
use Rattle.std.specs.Vec.Iter.{into_iter_items}
use Rattle.ras_workers.proofs.pieces.answers_in.Given as goal

-- the answers so far, and then the places that are left, are the places
abbrev pub invariant-loop-place : goal.invariant-loop-place
invariant-loop-place g l = map Some l.answers.items ++ into_iter_items l.place-iterator ≡ l.fn.places.items
