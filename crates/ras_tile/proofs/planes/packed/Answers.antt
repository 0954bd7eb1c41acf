use Rattle.std.proofs.Common.{rules}
use Rattle.std.proofs.lemmas.Result.{IfOk-weaker}
use Rattle.ras_tile.proofs.Tiles.{AreKept-narrowed}
use Rattle.ras_tile.proofs.planes.packed.Goals as goal

pub uniform-requires-clause-equal : goal.uniform-requires-clause-equal
uniform-requires-clause-equal c = (c.are_constant.ensures c.args.cells c.requires.whole).0 (search rules)

pub returns-else-are_constant-clause-kept : goal.returns-else-are_constant-clause-kept
returns-else-are_constant-clause-kept c =
    IfOk-weaker c.narrowed.result _ _
    (λ copies made.
    AreKept-narrowed c.args.cells c.args.atoms.now c.args.planes.now copies.items c.requires.some c.requires.each_atom
    (λ same. let yes = (c.are_constant.ensures c.args.cells c.requires.whole).1 same in absurd cc) made)
    c.narrowed.ensures.planes
