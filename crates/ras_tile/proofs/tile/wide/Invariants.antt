use Rattle.std.proofs.Common.{◌≡◌, replicate}
use Rattle.ras_cells.specs.declared.atom.Atom.TheVariants.{Wide}
use Rattle.ras_tile.proofs.tile.wide.Given as goal

abbrev pub invariant-loop : goal.invariant-loop
invariant-loop l = l.atoms.items ≡ replicate l.counter Wide
