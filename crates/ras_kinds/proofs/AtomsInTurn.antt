-- The atoms of operands, one operand after the other.
use Rattle.std.proofs.Common.{◌≡◌, ℕ, ◌<◌, ◌≤◌, List, [], ◌∷◌, ◌++◌, length, take, get_or, refl, sym, ap, ◌∙◌, append_assoc}
use Rattle.std.specs.Prelude.{Option, Some, None}
use Rattle.std.specs.List.{fold}
use Rattle.std.proofs.lemmas.List.{take_all}
use Rattle.std.proofs.lemmas.List.Folds.{fold_stays, fold_stuck, fold-map}
use Rattle.ras_cells.specs.declared.atom.Atom.{Atom}
use Rattle.ras_cells.specs.declared.cell.CellType.{CellType}
use Rattle.ras_cells.specs.declared.cell.CellType.TheVariants as types
use Rattle.ras_syntax.specs.declared.typed.Kind.{Kind}
use Rattle.ras_syntax.specs.declared.typed.TypedExpr.{TypedExpr}
use Rattle.spec_expressions.specs.Kinds.{cell_type_in, with_atom, atoms_of_all, composite_type}
use Rattle.spec_expressions.specs.Check.{kind_of, kinds_of}
use Rattle.ras_kinds.specs.Composites.{only_atom, one_atom_of, put_atom, atoms_with}

pub none_stays : (k : Kind) → atoms_with None k ≡ None
none_stays k = refl

abbrev behind : List Atom → Option (List Atom) → Option (List Atom)
behind atoms None = None
behind atoms (Some others) = Some (atoms ++ others)

append-nil : (atoms : List Atom) → atoms ++ [] ≡ atoms
append-nil [] = refl
append-nil (a ∷ atoms) = ap (λ others. a ∷ others) (append-nil atoms)

behind-one : (atoms : List Atom) (a : Atom) (others : Option (List Atom)) → behind (atoms ++ a ∷ []) others ≡ behind atoms (with_atom (Some (types.Atom a)) others)
behind-one atoms a None = refl
behind-one atoms a (Some others) = ap Some (append_assoc atoms (a ∷ []) others)

one_more : (atoms : List Atom) (cell : Option CellType) (ks : List Kind)
    → ((more : List Atom) → fold atoms_with (Some more) ks ≡ behind more (atoms_of_all ks))
    → fold atoms_with (put_atom atoms (only_atom cell)) ks ≡ behind atoms (with_atom cell (atoms_of_all ks))
one_more atoms None ks rest = fold_stays atoms_with None none_stays ks
one_more atoms (Some (types.Atom a)) ks rest = rest (atoms ++ a ∷ []) ∙ behind-one atoms a (atoms_of_all ks)
one_more atoms (Some (types.Composite as_)) ks rest = fold_stays atoms_with None none_stays ks

atoms-fold : (ks : List Kind) (atoms : List Atom) → fold atoms_with (Some atoms) ks ≡ behind atoms (atoms_of_all ks)
atoms-fold [] atoms = ap Some (sym (append-nil atoms))
atoms-fold (k ∷ ks) atoms = one_more atoms (cell_type_in k) ks (atoms-fold ks)

behind-nil : (atoms : Option (List Atom)) → behind [] atoms ≡ atoms
behind-nil None = refl
behind-nil (Some atoms) = refl

-- the atoms of all parts
pub atoms_in_turn : (parts : List TypedExpr) → fold (λ atoms part. atoms_with atoms (kind_of part)) (Some []) parts ≡ atoms_of_all (kinds_of parts)
atoms_in_turn parts =
    sym (fold-map atoms_with kind_of (Some []) parts) ∙ atoms-fold (kinds_of parts) [] ∙ behind-nil (atoms_of_all (kinds_of parts))

abbrev pub atoms_so_far : List TypedExpr → Option (List Atom)
atoms_so_far = fold (λ atoms part. atoms_with atoms (kind_of part)) (Some [])

-- a part that has no atom
pub atoms_stop : (parts : List TypedExpr) (i : ℕ) (part : TypedExpr) (atoms : List Atom) → i < length parts → part ≡ get_or parts i part
    → atoms_so_far (take i parts) ≡ Some atoms → None ≡ one_atom_of (kind_of part) → None ≡ composite_type (atoms_of_all (kinds_of parts))
atoms_stop parts i part atoms within is told none =
    let step : Option (List Atom) → TypedExpr → Option (List Atom) = λ before p. atoms_with before (kind_of p) in
    let stuck : None ≡ fold step (Some []) parts =
    fold_stuck step None (λ p. refl) (Some []) parts i part within
    (ap (λ before. step before (get_or parts i part)) told ∙ ap (λ p. step (Some atoms) p) (sym is) ∙ ap (put_atom atoms) (sym none)) in
    ap composite_type (stuck ∙ atoms_in_turn parts)

-- all parts have one
pub atoms_done : (parts : List TypedExpr) (i : ℕ) (atoms : List Atom) → length parts ≤ i → atoms_so_far (take i parts) ≡ Some atoms
    → Some (types.Composite (record { items = atoms })) ≡ composite_type (atoms_of_all (kinds_of parts))
atoms_done parts i atoms all told =
    ap composite_type (sym told ∙ ap atoms_so_far (take_all i parts all) ∙ atoms_in_turn parts)
