use Rattle.std.proofs.Common.{◌≡◌, ◌++◌, map, take}
use Rattle.law_work.specs.Replacements.{replacement_of}
use Rattle.ras_work.specs.Rows.{row_tiles}
use Rattle.ras_work.proofs.rows.add_tiles.Given as goal

abbrev pub invariant-loop-place : goal.invariant-loop-place
invariant-loop-place l =
    map replacement_of l.changes ≡ map replacement_of l.fn.changes ++ row_tiles l.row (map (λ place. place.items) (take l.place-index l.places))
