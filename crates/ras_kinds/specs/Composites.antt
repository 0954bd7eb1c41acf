-- The atoms of operands, one operand after the other.
use Rattle.std.specs.Prelude.{List, [], ◌∷◌, ◌++◌, Option, Some, None}
use Rattle.ras_cells.specs.declared.atom.Atom.{Atom}
use Rattle.ras_cells.specs.declared.cell.CellType.{CellType}
use Rattle.ras_cells.specs.declared.cell.CellType.TheVariants as types
use Rattle.ras_syntax.specs.declared.typed.Kind.{Kind}
use Rattle.spec_expressions.specs.Kinds.{cell_type_in}

abbrev pub only_atom : Option CellType → Option Atom
only_atom (Some (types.Atom atom)) = Some atom
only_atom cell = None

-- the atom of an operand whose cells have one
abbrev pub one_atom_of : Kind → Option Atom
one_atom_of kind = only_atom (cell_type_in kind)

abbrev pub put_atom : List Atom → Option Atom → Option (List Atom)
put_atom atoms None = None
put_atom atoms (Some atom) = Some (atoms ++ atom ∷ [])

-- with one more operand
abbrev pub atoms_with : Option (List Atom) → Kind → Option (List Atom)
atoms_with None kind = None
atoms_with (Some atoms) kind = put_atom atoms (one_atom_of kind)
