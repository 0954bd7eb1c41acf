use Rattle.ras_work.specs.Filled.{IsFilledUpTo}
use Rattle.ras_work.specs.Stores.{tile_held_of}
use Rattle.std.specs.Option.{option_copied}
use Rattle.ras_work.proofs.tiles.fill.Given as goal

abbrev pub invariant-loop-place : goal.invariant-loop-place
invariant-loop-place l = IsFilledUpTo l.of l.rule l.write (tile_held_of (option_copied l.old)) l.place l.fn.tile l.tile
