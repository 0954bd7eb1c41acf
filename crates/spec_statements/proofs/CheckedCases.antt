-- Kinds, the order of faults, and the less plain rules, computed.
use Rattle.std.specs.Prelude.{◌≡◌, is_ok, pos, true, false, [], ◌∷◌, Some, None, Result, Ok, Err, codes, refl}
use Rattle.ras_cells.specs.declared.atom.Atom.{Atom}
use Rattle.ras_cells.specs.declared.atom.Atom.TheVariants as atoms
use Rattle.ras_cells.specs.declared.cell.CellType.{CellType}
use Rattle.ras_cells.specs.declared.cell.CellType.TheVariants as cells
use Rattle.ras_cells.specs.declared.numbers.Op1.TheVariants as one_of
use Rattle.ras_cells.specs.declared.numbers.Op2.TheVariants as op
use Rattle.ras_syntax.specs.declared.expr.ExprForm.TheVariants as form
use Rattle.ras_syntax.specs.declared.expr.Axis.TheVariants as axis
use Rattle.ras_syntax.specs.declared.expr.DomainExpr.TheVariants as domain
use Rattle.ras_syntax.specs.declared.expr.FoldOp.TheVariants as fold
use Rattle.ras_syntax.specs.declared.expr.CellsFold.TheVariants as cells_of
use Rattle.ras_syntax.specs.declared.expr.Part.TheVariants as part
use Rattle.ras_syntax.specs.declared.statement.StatementForm.TheVariants.{Select, Insert, Update}
use Rattle.ras_syntax.specs.declared.faults.CheckFault.TheVariants.{NoCollection, NoIterator, DoubleName, NoComponent, TypeMismatch, DimensionMismatch, VariableDomain}
use Rattle.ras_syntax.specs.declared.typed.CheckedSource.{CheckedSource}
use Rattle.ras_syntax.specs.declared.typed.Kind.{Kind}
use Rattle.ras_syntax.specs.declared.typed.Kind.TheVariants.{Scalar, Array, Domain}
use Rattle.ras_syntax.specs.declared.typed.TypedExpr.{TypedExpr}
use Rattle.spec_expressions.specs.Kinds.{join_of, stores, binary_kind, composite_kind, fold_type}
use Rattle.spec_expressions.specs.Names.{Scope}
use Rattle.spec_expressions.specs.Check.{CheckMisfit, kind_of, choice_kind, concat_kind, checked_expr}
use Rattle.spec_statements.proofs.CheckedForms.{form_equations}
use Rattle.spec_statements.specs.WorkedChecks.{span_from, expr_from, number_from, true_from, name_from, letter, source, zero_to_one, zero_to_one_trim, p_, G_, H_, N_, check_of, fault_from, grey_source, nil_source}
use Rattle.spec_expressions.specs.Worked.{a_, rgb_source, rgb}

-- ---- kinds

abbrev of : Atom → CellType
of atom = cells.Atom atom

abbrev two : Atom → Atom → CellType
two a b = cells.Composite (record { items = a ∷ b ∷ [] })

abbrev one : Atom → CellType
one a = cells.Composite (record { items = a ∷ [] })

join_same : join_of (of atoms.Char) (of atoms.Char) ≡ Some (of atoms.Char)
join_same = refl

join_numbers : join_of (of atoms.Char) (of atoms.Short) ≡ Some (of atoms.Wide)
join_numbers = refl

join_bool : join_of (of atoms.Bool) (of atoms.Char) ≡ None
join_bool = refl

join_composites : join_of (two atoms.Char atoms.Bool) (two atoms.Char atoms.Bool) ≡ Some (two atoms.Char atoms.Bool)
join_composites = refl

-- the atoms of composites are equal, not only numbers
join_other_composites : join_of (two atoms.Char atoms.Char) (two atoms.Char atoms.Wide) ≡ None
join_other_composites = refl

join_one_atom : join_of (one atoms.Char) (of atoms.Char) ≡ None
join_one_atom = refl

stores_numbers : stores (two atoms.Wide atoms.Bool) (two atoms.Char atoms.Bool) ≡ true
stores_numbers = refl

stores_no_bool : stores (of atoms.Bool) (of atoms.Char) ≡ false
stores_no_bool = refl

-- a scalar is paired with each cell of an array
sum_with_scalar : binary_kind op.Add (Scalar (of atoms.Char)) (Array (of atoms.Short) 2) ≡ Ok (Array (of atoms.Wide) 2)
sum_with_scalar = refl

sum_of_axes : binary_kind op.Add (Array (of atoms.Char) 1) (Array (of atoms.Char) 2) ≡ Err DimensionMismatch
sum_of_axes = refl

-- of both faults the types come first
sum_of_both : binary_kind op.Add (Array (of atoms.Bool) 1) (Array (of atoms.Char) 2) ≡ Err TypeMismatch
sum_of_both = refl

equal_bools : binary_kind op.Eq (Scalar (of atoms.Bool)) (Scalar (of atoms.Bool)) ≡ Ok (Scalar (of atoms.Bool))
equal_bools = refl

less_bools : binary_kind op.Lt (Scalar (of atoms.Bool)) (Scalar (of atoms.Bool)) ≡ Err TypeMismatch
less_bools = refl

equal_mixed : binary_kind op.Eq (Scalar (of atoms.Char)) (Scalar (of atoms.Bool)) ≡ Err TypeMismatch
equal_mixed = refl

overlay_scalar : binary_kind op.Overlay (Array (of atoms.Char) 1) (Scalar (of atoms.Char)) ≡ Err TypeMismatch
overlay_scalar = refl

overlay_composites : binary_kind op.Overlay (Array rgb 1) (Array rgb 1) ≡ Ok (Array rgb 1)
overlay_composites = refl

sum_of_domain : binary_kind op.Add (Domain 1) (Scalar (of atoms.Char)) ≡ Err TypeMismatch
sum_of_domain = refl

choice_of_array : choice_kind (Array (of atoms.Bool) 1 ∷ []) (Scalar (of atoms.Char) ∷ Scalar (of atoms.Short) ∷ []) ≡ Ok (Array (of atoms.Wide) 1)
choice_of_array = refl

composite_of_composite : composite_kind (Scalar (one atoms.Char) ∷ []) ≡ Err TypeMismatch
composite_of_composite = refl

least_of_bools : fold_type fold.Min (of atoms.Bool) ≡ None
least_of_bools = refl

concat_past_axes : concat_kind (pos 1) (Array (of atoms.Char) 1 ∷ Array (of atoms.Short) 1 ∷ []) ≡ Err DimensionMismatch
concat_past_axes = refl

concat_types : concat_kind (pos 0) (Array (of atoms.Char) 1 ∷ Array (of atoms.Short) 1 ∷ []) ≡ Ok (Array (of atoms.Wide) 1)
concat_types = refl

-- ---- the order of faults

-- select p from H as a: names of collections come before expressions
names_first : check_of 20 (Select (name_from 7 p_) (source 14 H_ 19 a_ ∷ []) None) ≡ fault_from 14 15 NoCollection
names_first = refl

-- select a[p] + true from G as a: parts come before the whole
parts_first : check_of 30 (Select (expr_from 7 18 (form.Binary op.Add (expr_from 7 11 (form.Index (name_from 7 a_) (axis.At (name_from 9 p_) ∷ []))) (true_from 14 18)))
    (source 24 G_ 29 a_ ∷ []) None) ≡ fault_from 9 10 NoIterator
parts_first = simp form_equations refl

-- select marray p in [0:true] values a: the body comes before what is wrong with the bounds
body_before_bounds : check_of 36 (Select (expr_from 7 36 (form.Marray (letter 14 p_) (domain.Literal ((number_from 20 21 0, true_from 22 26) ∷ [])) (name_from 35 a_)))
    [] None) ≡ fault_from 35 36 NoIterator
body_before_bounds = simp form_equations refl

-- select marray a in [0:true] values 1 from G as a: a name in scope comes before types
name_before_bounds : check_of 48 (Select (expr_from 7 36 (form.Marray (letter 14 a_) (domain.Literal ((number_from 20 21 0, true_from 22 26) ∷ []))
    (number_from 35 36 1))) (source 42 G_ 47 a_ ∷ []) None) ≡ fault_from 14 15 DoubleName
name_before_bounds = simp form_equations refl

-- select marray p in [0:p[0]] values 1: the variable isn't in scope in its domain
no_variable_in_domain : check_of 36 (Select (expr_from 7 36 (form.Marray (letter 14 p_)
    (domain.Literal ((number_from 20 21 0, expr_from 22 26 (form.Index (name_from 22 p_) (axis.At (number_from 24 25 0) ∷ []))) ∷ [])) (number_from 35 36 1))) []
    None) ≡ fault_from 22 23 NoIterator
no_variable_in_domain = simp form_equations refl

-- select marray p in sdom(1) values a: sdom(1) has its own place, and comes before the body
sdom_of_scalar : check_of 35 (Select (expr_from 7 35 (form.Marray (letter 14 p_) (domain.Sdom (expr_from 19 26 (form.Sdom (number_from 24 25 1)))) (name_from 34 a_)))
    [] None) ≡ fault_from 19 26 TypeMismatch
sdom_of_scalar = simp form_equations refl

-- select a[true:1] from G as a: types before numbers of axes
types_before_axes : check_of 28 (Select (expr_from 7 16 (form.Index (name_from 7 a_) (axis.Trim (Some (true_from 9 13)) (Some (number_from 14 15 1)) ∷ [])))
    (source 22 G_ 27 a_ ∷ []) None) ≡ fault_from 7 16 TypeMismatch
types_before_axes = simp form_equations refl

-- select a[0c:1,0] from G as a: a literal with a suffix isn't static
suffix_isnt_static : check_of 28 (Select (expr_from 7 16 (form.Index (name_from 7 a_)
    (axis.Trim (Some (expr_from 9 11 (form.Number (pos 0) atoms.Char))) (Some (number_from 12 13 1)) ∷ axis.At (number_from 14 15 0) ∷ []))) (source 22 G_ 27 a_ ∷ [])
    None) ≡ fault_from 7 16 VariableDomain
suffix_isnt_static = simp form_equations refl

-- select a from G as a where 1: the condition has its own place
number_condition : check_of 28 (Select (name_from 7 a_) (source 14 G_ 19 a_ ∷ []) (Some (number_from 27 28 1))) ≡ fault_from 27 28 TypeMismatch
number_condition = simp form_equations refl

-- update N as a set a[0:1,0:1] assign 1: the target comes before the body
target_first : check_of 37 (Update (source 7 N_ 12 a_) (letter 18 a_) (Some (zero_to_one_trim 20 ∷ zero_to_one_trim 24 ∷ [])) (span_from 18 28) (number_from 36 37 1)
    None) ≡ fault_from 18 28 DimensionMismatch
target_first = simp form_equations refl

-- update N as a set a[oid(a)] assign a: the positions of a target are static
target_is_static : check_of 36 (Update (source 7 N_ 12 a_) (letter 18 a_) (Some (axis.At (expr_from 20 26 (form.Oid (letter 24 a_))) ∷ [])) (span_from 18 27)
    (name_from 35 a_) None) ≡ fault_from 18 27 VariableDomain
target_is_static = simp form_equations refl

-- insert into G values marray p in [0:1] values 1: as many axes as the type
inserted_axes : check_of 47 (Insert (letter 12 G_) (expr_from 21 47
    (form.Marray (letter 28 p_) (domain.Literal (zero_to_one 34 ∷ [])) (number_from 46 47 1)))) ≡ fault_from 21 47 DimensionMismatch
inserted_axes = simp form_equations refl

-- ---- bounds of a domain, positions, components

-- select sdom(a)[2].lo from G as a
no_such_axis : check_of 32 (Select (expr_from 7 20 (form.Part
    (expr_from 7 17 (form.Index (expr_from 7 14 (form.Sdom (name_from 12 a_))) (axis.At (number_from 15 16 2) ∷ []))) (part.Named (codes "lo"))))
    (source 26 G_ 31 a_ ∷ []) None) ≡ fault_from 7 17 DimensionMismatch
no_such_axis = simp form_equations refl

-- select sdom(a)[0].mid from G as a
no_such_bound : check_of 33 (Select (expr_from 7 21 (form.Part
    (expr_from 7 17 (form.Index (expr_from 7 14 (form.Sdom (name_from 12 a_))) (axis.At (number_from 15 16 0) ∷ []))) (part.Named (codes "mid"))))
    (source 27 G_ 32 a_ ∷ []) None) ≡ fault_from 7 21 NoComponent
no_such_bound = simp form_equations refl

-- select sdom(a)[0] from G as a: it is no result
interval_is_no_result : check_of 29 (Select (expr_from 7 17 (form.Index (expr_from 7 14 (form.Sdom (name_from 12 a_))) (axis.At (number_from 15 16 0) ∷ [])))
    (source 23 G_ 28 a_ ∷ []) None) ≡ fault_from 7 17 TypeMismatch
interval_is_no_result = simp form_equations refl

-- select a.0 from N as a: one atom has no components
no_components : check_of 22 (Select (expr_from 7 10 (form.Part (name_from 7 a_) (part.Numbered (pos 0)))) (source 16 N_ 21 a_ ∷ []) None) ≡ fault_from 7 10 NoComponent
no_components = simp form_equations refl

-- select {1,2}.red: braces have no names
braces_have_no_names : check_of 16 (Select (expr_from 7 16 (form.Part (expr_from 7 12 (form.Build (number_from 8 9 1 ∷ number_from 10 11 2 ∷ [])))
    (part.Named (codes "red")))) [] None) ≡ fault_from 7 16 NoComponent
braces_have_no_names = simp form_equations refl

abbrev kind_in : Result TypedExpr CheckMisfit → Result Kind CheckMisfit
kind_in (Ok x) = Ok (kind_of x)
kind_in (Err misfit) = Err misfit

abbrev over : CheckedSource → Scope
over from = record { sources = from ∷ []; variables = [] }

-- shift(a,[1]).blue has the names of a
names_of_a_part : kind_in (checked_expr (expr_from 0 17 (form.Part (expr_from 0 12 (form.Shift (name_from 6 a_) (number_from 9 10 1 ∷ [])))
    (part.Named (codes "blue")))) (over rgb_source)) ≡ Ok (Array (of atoms.Char) 1)
names_of_a_part = simp form_equations refl

-- sdom(a)[1].hi
upper_bound : kind_in (checked_expr (expr_from 0 13 (form.Part
    (expr_from 0 10 (form.Index (expr_from 0 7 (form.Sdom (name_from 5 a_))) (axis.At (number_from 8 9 1) ∷ []))) (part.Named (codes "hi")))) (over grey_source)) ≡ Ok
    (Scalar (of atoms.Wide))
upper_bound = simp form_equations refl

-- marray p in sdom(a) values a[p]: the cells at a variable's points
cells_at_points : kind_in (checked_expr (expr_from 0 31 (form.Marray (letter 7 p_) (domain.Sdom (expr_from 12 19 (form.Sdom (name_from 17 a_))))
    (expr_from 27 31 (form.Index (name_from 27 a_) (axis.At (name_from 29 p_) ∷ []))))) (over nil_source)) ≡ Ok (Array (of atoms.Char) 1)
cells_at_points = simp form_equations refl

-- marray p in [0:1] values a[p] of an array with more axes than the variable: the fault is a[p]'s
point_of_other_axes : kind_in (checked_expr (expr_from 0 29 (form.Marray (letter 7 p_) (domain.Literal (zero_to_one 13 ∷ []))
    (expr_from 25 29 (form.Index (name_from 25 a_) (axis.At (name_from 27 p_) ∷ []))))) (over grey_source)) ≡ Err (span_from 25 29, DimensionMismatch)
point_of_other_axes = simp form_equations refl

-- marray p in [0:1] values oid(p): a variable has no identifier
oid_of_variable : kind_in (checked_expr (expr_from 0 31 (form.Marray (letter 7 p_) (domain.Literal (zero_to_one 13 ∷ [])) (expr_from 25 31 (form.Oid (letter 29 p_)))))
    (over nil_source)) ≡ Err (span_from 29 30, NoIterator)
oid_of_variable = simp form_equations refl

-- ---- every form

-- abs(-a)
absolute : kind_in (checked_expr (expr_from 0 7 (form.Unary one_of.Abs (expr_from 4 6 (form.Unary one_of.Neg (name_from 5 a_))))) (over grey_source)) ≡ Ok (Array (of atoms.Wide) 2)
absolute = simp form_equations refl

-- (bool)a
cast_to_bool : kind_in (checked_expr (expr_from 0 7 (form.Cast atoms.Bool (name_from 6 a_))) (over nil_source)) ≡ Ok (Array (of atoms.Bool) 1)
cast_to_bool = simp form_equations refl

-- (bool)a of composite cells
cast_of_composites : kind_in (checked_expr (expr_from 0 7 (form.Cast atoms.Bool (name_from 6 a_))) (over rgb_source)) ≡ Err (span_from 0 7, TypeMismatch)
cast_of_composites = simp form_equations refl

-- case when true then a else 1c end
choice_of_cells : kind_in (checked_expr (expr_from 0 33 (form.Case ((true_from 10 14, name_from 20 a_) ∷ []) (expr_from 27 29 (form.Number (pos 1) atoms.Char))))
    (over nil_source)) ≡ Ok (Array (of atoms.Char) 1)
choice_of_cells = simp form_equations refl

-- case when true then a else a end.blue
names_of_a_branch : kind_in (checked_expr (expr_from 0 37 (form.Part (expr_from 0 32 (form.Case ((true_from 10 14, name_from 20 a_) ∷ []) (name_from 27 a_)))
    (part.Named (codes "blue")))) (over rgb_source)) ≡ Ok (Array (of atoms.Char) 1)
names_of_a_branch = simp form_equations refl

-- condense + over p in [0:1] where a[p] = 1 using a[p]
sum_over_points : kind_in (checked_expr (expr_from 0 52 (form.Condense fold.Plus (letter 16 p_) (domain.Literal (zero_to_one 22 ∷ []))
    (Some (expr_from 33 41 (form.Binary op.Eq (expr_from 33 37 (form.Index (name_from 33 a_) (axis.At (name_from 35 p_) ∷ []))) (number_from 40 41 1))))
    (expr_from 48 52 (form.Index (name_from 48 a_) (axis.At (name_from 50 p_) ∷ []))))) (over nil_source)) ≡ Ok (Scalar (of atoms.Wide))
sum_over_points = simp form_equations refl

-- condense max over p in [0:1] using a[p] keeps the type
greatest_over_points : kind_in (checked_expr (expr_from 0 39 (form.Condense fold.Max (letter 18 p_) (domain.Literal (zero_to_one 24 ∷ [])) None
    (expr_from 35 39 (form.Index (name_from 35 a_) (axis.At (name_from 37 p_) ∷ []))))) (over nil_source)) ≡ Ok (Scalar (of atoms.Char))
greatest_over_points = simp form_equations refl

-- add_cells(a) of composite cells
sum_of_composites : kind_in (checked_expr (expr_from 0 12 (form.Cells cells_of.Add (name_from 10 a_))) (over rgb_source)) ≡ Err (span_from 0 12, TypeMismatch)
sum_of_composites = simp form_equations refl

-- extend(a,[0:1]) of two axes
extended_axes : kind_in (checked_expr (expr_from 0 15 (form.Extend (name_from 7 a_) (domain.Literal (zero_to_one 10 ∷ [])))) (over grey_source)) ≡ Err (span_from 0 15, DimensionMismatch)
extended_axes = simp form_equations refl

-- extend(a,[0:1])
extended : kind_in (checked_expr (expr_from 0 15 (form.Extend (name_from 7 a_) (domain.Literal (zero_to_one 10 ∷ [])))) (over nil_source)) ≡ Ok (Array (of atoms.Char) 1)
extended = simp form_equations refl

-- shift(a,[1,1]) of one axis
shifted_axes : kind_in (checked_expr (expr_from 0 14 (form.Shift (name_from 6 a_) (number_from 9 10 1 ∷ number_from 11 12 1 ∷ []))) (over nil_source)) ≡ Err
    (span_from 0 14, DimensionMismatch)
shifted_axes = simp form_equations refl

-- concat a with a along 0
joined : kind_in (checked_expr (expr_from 0 23 (form.Concat (name_from 7 a_ ∷ name_from 14 a_ ∷ []) (pos 0))) (over grey_source)) ≡ Ok (Array (of atoms.Char) 2)
joined = simp form_equations refl

-- concat a with a along 2: there are the axes 0 and 1
joined_outside : kind_in (checked_expr (expr_from 0 23 (form.Concat (name_from 7 a_ ∷ name_from 14 a_ ∷ []) (pos 2))) (over grey_source)) ≡ Err (span_from 0 23, DimensionMismatch)
joined_outside = simp form_equations refl

-- sdom(1)
domain_of_scalar : kind_in (checked_expr (expr_from 0 7 (form.Sdom (number_from 5 6 1))) (over grey_source)) ≡ Err (span_from 0 7, TypeMismatch)
domain_of_scalar = simp form_equations refl

-- select marray p in [0:3] values add_cells(a[p[0],*:*]) from G as a: x[0] is a position, and * the array's own bound
sums_of_rows : kind_in (checked_expr (expr_from 7 54 (form.Marray (letter 14 p_) (domain.Literal ((number_from 20 21 0, number_from 22 23 3) ∷ []))
    (expr_from 32 54 (form.Cells cells_of.Add (expr_from 42 53
    (form.Index (name_from 42 a_) (axis.At (expr_from 44 48 (form.Index (name_from 44 p_) (axis.At (number_from 46 47 0) ∷ []))) ∷ axis.Trim None None ∷ [])))))))
    (over grey_source)) ≡ Ok (Array (of atoms.Wide) 1)
sums_of_rows = simp form_equations refl

-- select sdom(a) from G as a: a domain is a result
domain_result : is_ok (check_of 26 (Select (expr_from 7 14 (form.Sdom (name_from 12 a_))) (source 20 G_ 25 a_ ∷ []) None)) ≡ true
domain_result = simp form_equations refl

-- update N as a set a assign 1: a scalar isn't written
scalar_update : check_of 28 (Update (source 7 N_ 12 a_) (letter 18 a_) None (span_from 18 19) (number_from 27 28 1) None) ≡ fault_from 27 28 TypeMismatch
scalar_update = simp form_equations refl
