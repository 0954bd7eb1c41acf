use Rattle.std.proofs.Common.{IsTrue}
use Rattle.ras_tile.proofs.tests.a_tile_of_chars_packs_to_bytes.Given as goal

abbrev pub invariant-loop-c : goal.invariant-loop-c
invariant-loop-c g l = IsTrue l.tile.writable
