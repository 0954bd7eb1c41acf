use Rattle.std.proofs.Common.{◌≡◌, map, flat_map, take, All}
use Rattle.ras_store.specs.Databases.{holdings_of}
use Rattle.ras_store.specs.View.{view_kept}
use Rattle.law_work.specs.ChangesFor.{row_replaced}
use Rattle.law_work.specs.Replacements.{replacement_of}
use Rattle.law_work.specs.Sound.{IsSoundWrite}
use Rattle.ras_work.proofs.forms.rows_of.Given as goal

abbrev pub invariant-loop-write : goal.invariant-loop-write
invariant-loop-write l =
    (map replacement_of l.changes ≡ flat_map (row_replaced l.source.of l.source.collection (holdings_of (view_kept l.view))) (take l.write-index l.writes))
    × All (IsSoundWrite l.source.of l.source.collection (holdings_of (view_kept l.view))) (take l.write-index l.writes)
