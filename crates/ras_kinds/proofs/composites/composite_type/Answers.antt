use Rattle.std.proofs.Common.{◌≡◌, sym, ◌∙◌, arith, rules}
use Rattle.std.specs.Prelude.{None}
use Rattle.std.proofs.lemmas.Grind.{common_steps}
use Rattle.spec_expressions.specs.Check.{kind_of}
use Rattle.ras_kinds.specs.Composites.{one_atom_of}
use Rattle.ras_kinds.proofs.AtomsInTurn.{atoms_stop, atoms_done}
use Rattle.ras_kinds.proofs.composites.composite_type.Goals as goal

pub returns-in_err-one_atom : goal.returns-in_err-one_atom
returns-in_err-one_atom c =
    let none : None ≡ one_atom_of (kind_of c.part-item.result) = first_of (search rules, grind (arith, common_steps)) in
    let told = atoms_stop c.args.parts.now c.loop-part.part-index c.part-item.result c.loop-part.atoms.items c.loop-part-test.true c.part-item.is c.loop-part.invariant.told none in
    first_of (search (rules, told), grind (arith, common_steps, told))

pub returns : goal.returns
returns c = atoms_done c.args.parts.now c.loop-part.part-index c.loop-part.atoms.items (omega arith) c.loop-part.invariant.told
