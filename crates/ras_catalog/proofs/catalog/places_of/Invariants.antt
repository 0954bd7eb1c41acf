use Rattle.std.proofs.Common.{◌≤◌, length}
use Rattle.ras_catalog.specs.CatalogView.{HasTypesFrom}
use Rattle.ras_catalog.proofs.catalog.places_of.Given as goal

abbrev pub invariant-loop-left : goal.invariant-loop-left
invariant-loop-left l = record { below : l.left ≤ length l.collections; placed : HasTypesFrom l.left l.places l.collections }

abbrev pub decreases-loop-left : goal.decreases-loop-left
decreases-loop-left l = l.left
