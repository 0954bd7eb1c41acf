use Rattle.std.proofs.Common.{◌≡◌, [], length, take}
use Rattle.std.specs.Prelude.{Some}
use Rattle.std.specs.List.{fold}
use Rattle.spec_expressions.specs.Check.{kind_of}
use Rattle.ras_kinds.specs.Composites.{atoms_with}
use Rattle.ras_kinds.proofs.composites.composite_type.Given as goal

abbrev pub invariant-loop-part : goal.invariant-loop-part
invariant-loop-part l = record {
  told : fold (λ atoms part. atoms_with atoms (kind_of part)) (Some []) (take l.part-index l.parts) ≡ Some l.atoms.items;
  count : length l.atoms.items ≡ l.part-index;
}
