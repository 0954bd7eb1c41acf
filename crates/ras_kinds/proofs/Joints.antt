-- The numbers of axes of operands, one operand after the other.
use Rattle.std.proofs.Common.{◌≡◌, ℕ, Bool, true, false, List, [], ◌∷◌, ◌++◌, map, refl, sym, ap, ◌∙◌}
use Rattle.std.specs.Prelude.{ℤ, ◌==◌, ◌&&◌, if◌then◌else◌, Option, Some, None, Result, Ok, Err}
use Rattle.std.specs.List.{list_all, fold}
use Rattle.std.proofs.lemmas.List.Folds.{fold_stays, fold-map, list_all-map}
use Rattle.std.proofs.lemmas.List.Sums.{fold_push, fold-append}
use Rattle.ras_cells.specs.declared.cell.CellType.{CellType}
use Rattle.ras_cells.specs.declared.numbers.Op2.{Op2}
use Rattle.ras_cells.specs.declared.numbers.Op2.TheVariants.{Add, Sub, Mul, Div, Mod, Eq, Ne, Lt, Le, Gt, Ge, And, Or, Xor, Bit, Overlay}
use Rattle.ras_syntax.specs.declared.typed.TypedExpr.{TypedExpr}
use Rattle.ras_syntax.specs.declared.faults.CheckFault.{CheckFault}
use Rattle.ras_syntax.specs.declared.faults.CheckFault.TheVariants.{TypeMismatch, DimensionMismatch}
use Rattle.ras_syntax.specs.declared.typed.Kind.{Kind}
use Rattle.ras_syntax.specs.declared.typed.Kind.TheVariants.{Scalar, Array, Domain, Point}
use Rattle.spec_expressions.specs.Kinds.{all_equal, axes_of_arrays, by_rules, operands_kind, common_kind, type_of_both, on_both, type2_of, on_cells, cell_type_in, join_of, join_after, join_of_all, is_condition, choice_type}
use Rattle.spec_expressions.specs.Check.{kind_of, kinds_of, is_array, is_axis, joined_arrays}
use Rattle.ras_kinds.specs.declared.rules.Joint.{Joint}
use Rattle.ras_kinds.specs.declared.rules.Joint.TheVariants.{NoArray, Equal, Differing}
use Rattle.ras_kinds.specs.declared.lists.Join.{Join}
use Rattle.ras_kinds.specs.declared.lists.Join.TheVariants.{Nothing, Cells, Mismatch}
use Rattle.ras_kinds.specs.Joint.{joint_with, joint_of, join_told, join_with, join_of_kinds}

stays : (k : Kind) → joint_with Differing k ≡ Differing
stays (Scalar cell) = refl
stays (Array cell n) = refl
stays (Domain n) = refl
stays (Point n) = refl

abbrev told : ℕ → Bool → Joint
told n all = if all then Equal n else Differing

after_equal : (n : ℕ) (ks : List Kind) → fold joint_with (Equal n) ks ≡ told n (list_all (λ m. m == n) (axes_of_arrays ks))
after_equal n [] = refl
after_equal n (Scalar cell ∷ ks) = after_equal n ks
after_equal n (Array cell m ∷ ks) = one_more n m ks (after_equal n ks)
  where
    one_more : (n m : ℕ) (ks : List Kind) → fold joint_with (Equal n) ks ≡ told n (list_all (λ k. k == n) (axes_of_arrays ks))
        → fold joint_with (told n (m == n)) ks ≡ told n ((m == n) && list_all (λ k. k == n) (axes_of_arrays ks))
    one_more n m ks e =
        elim (m == n) as (λ b. fold joint_with (told n b) ks ≡ told n (b && list_all (λ k. k == n) (axes_of_arrays ks)))
        [ true ↦ e | false ↦ fold_stays joint_with Differing stays ks ]
after_equal n (Domain m ∷ ks) = after_equal n ks
after_equal n (Point m ∷ ks) = after_equal n ks

abbrev pub joint_kind : Joint → CellType → Result Kind CheckFault
joint_kind NoArray cell = Ok (Scalar cell)
joint_kind (Equal n) cell = Ok (Array cell n)
joint_kind Differing cell = Err DimensionMismatch

common_kind-after : (cell : CellType) (n : ℕ) (ks : List Kind) → by_rules true (list_all (λ m. m == n) (axes_of_arrays ks)) true (Array cell n)
    ≡ joint_kind (fold joint_with (Equal n) ks) cell
common_kind-after cell n ks =
    elim (list_all (λ m. m == n) (axes_of_arrays ks)) as (λ b. by_rules true b true (Array cell n) ≡ joint_kind (told n b) cell)
    [ true ↦ refl | false ↦ refl ]
    ∙ ap (λ one. joint_kind one cell) (sym (after_equal n ks))

common_kind-joint_of : (cell : CellType) (ks : List Kind) → common_kind (Some cell) ks ≡ joint_kind (joint_of ks) cell
common_kind-joint_of cell [] = refl
common_kind-joint_of cell (Scalar c ∷ ks) = common_kind-joint_of cell ks
common_kind-joint_of cell (Array c n ∷ ks) = common_kind-after cell n ks
common_kind-joint_of cell (Domain n ∷ ks) = common_kind-joint_of cell ks
common_kind-joint_of cell (Point n ∷ ks) = common_kind-joint_of cell ks

-- the kind of operands, of what is told of their arrays
pub common_kind_joint : (cell : CellType) (ks : List Kind) (joint : Joint) → joint ≡ joint_of ks → common_kind (Some cell) ks ≡ joint_kind joint cell
common_kind_joint cell ks joint e = common_kind-joint_of cell ks ∙ ap (λ one. joint_kind one cell) (sym e)

-- ---- the type of both operands

pub not_overlay : (op : Op2) (a b : Kind) → (op ≡ Overlay → ⊥) → type_of_both op a b ≡ on_both (type2_of op) a b
not_overlay Add a b other = refl
not_overlay Sub a b other = refl
not_overlay Mul a b other = refl
not_overlay Div a b other = refl
not_overlay Mod a b other = refl
not_overlay Eq a b other = refl
not_overlay Ne a b other = refl
not_overlay Lt a b other = refl
not_overlay Le a b other = refl
not_overlay Gt a b other = refl
not_overlay Ge a b other = refl
not_overlay And a b other = refl
not_overlay Or a b other = refl
not_overlay Xor a b other = refl
not_overlay Bit a b other = refl
not_overlay Overlay a b other = absurd (other refl)

-- ---- the common type of operands

mismatch_stays : (k : Kind) → join_with Mismatch k ≡ Mismatch
mismatch_stays k = refl

abbrev pub join_cell : Join → Option CellType
join_cell Nothing = None
join_cell (Cells cell) = Some cell
join_cell Mismatch = None

join_after-fold : (cell : Option CellType) (ks : List Kind) → join_after cell ks ≡ join_cell (fold join_with (join_told cell) ks)
join_after-fold None [] = refl
join_after-fold None (k ∷ ks) = join_after-fold None ks
join_after-fold (Some cell) [] = refl
join_after-fold (Some cell) (k ∷ ks) = join_after-fold (on_cells (join_of cell) k) ks

join_of_all-fold : (ks : List Kind) → join_of_all ks ≡ join_cell (join_of_kinds ks)
join_of_all-fold [] = refl
join_of_all-fold (k ∷ ks) = join_after-fold (cell_type_in k) ks

pub join_of_all_told : (ks : List Kind) (join : Join) → join ≡ join_of_kinds ks → join_of_all ks ≡ join_cell join
join_of_all_told ks join e = join_of_all-fold ks ∙ ap join_cell (sym e)

-- ---- the parts of a case

abbrev conditions_in : List (TypedExpr × TypedExpr) → List Kind
conditions_in = map (λ arm. kind_of arm.0)

abbrev values_in : List (TypedExpr × TypedExpr) → List Kind
values_in = map (λ arm. kind_of arm.1)

pub joins_of_case : (arms : List (TypedExpr × TypedExpr)) (other : Kind)
    → join_with (fold (λ join arm. join_with join (kind_of arm.1)) Nothing arms) other ≡ join_of_kinds (map (λ arm. kind_of arm.1) arms ++ other ∷ [])
joins_of_case arms other =
    ap (λ join. join_with join other) (sym (fold-map join_with (λ (arm : TypedExpr × TypedExpr). kind_of arm.1) Nothing arms))
    ∙ sym (fold_push join_with Nothing (values_in arms) other)

conditions_of_case : (arms : List (TypedExpr × TypedExpr))
    → list_all is_condition (map (λ arm. kind_of arm.0) arms) ≡ list_all (λ arm. is_condition (kind_of arm.0)) arms
conditions_of_case arms = list_all-map is_condition (λ (arm : TypedExpr × TypedExpr). kind_of arm.0) arms

-- the type of a case, of what the test of its conditions gave
pub choice_where : (arms : List (TypedExpr × TypedExpr)) (values : List Kind) (b : Bool) → b ≡ list_all (λ arm. is_condition (kind_of arm.0)) arms
    → choice_type (map (λ arm. kind_of arm.0) arms) values ≡ (if b then join_of_all values else None)
choice_where arms values b e = ap (λ one. if one then join_of_all values else None) (conditions_of_case arms ∙ sym e)

pub joint_of_case : (arms : List (TypedExpr × TypedExpr)) (other : Kind)
    → joint_with (fold (λ joint arm. joint_with joint (kind_of arm.1)) (fold (λ joint arm. joint_with joint (kind_of arm.0)) NoArray arms) arms) other
    ≡ joint_of (map (λ arm. kind_of arm.0) arms ++ (map (λ arm. kind_of arm.1) arms ++ other ∷ []))
joint_of_case arms other =
    ap (λ joint. joint_with (fold (λ one arm. joint_with one (kind_of arm.1)) joint arms) other)
    (sym (fold-map joint_with (λ (arm : TypedExpr × TypedExpr). kind_of arm.0) NoArray arms))
    ∙ ap (λ joint. joint_with joint other)
    (sym (fold-map joint_with (λ (arm : TypedExpr × TypedExpr). kind_of arm.1) (joint_of (conditions_in arms)) arms))
    ∙ sym (fold_push joint_with (joint_of (conditions_in arms)) (values_in arms) other)
    ∙ sym (fold-append joint_with NoArray (conditions_in arms) (values_in arms ++ other ∷ []))

-- ---- the parts of a concat

pub arrays_of_concat : (parts : List TypedExpr) → list_all is_array (kinds_of parts) ≡ list_all (λ part. is_array (kind_of part)) parts
arrays_of_concat parts = list_all-map is_array kind_of parts

abbrev pub joined_told : ℤ → Joint → Option CellType → Result Kind CheckFault
joined_told along NoArray cell = Err TypeMismatch
joined_told along joint None = Err TypeMismatch
joined_told along (Equal n) (Some cell) = by_rules true (is_axis along n) true (Array cell n)
joined_told along Differing (Some cell) = Err DimensionMismatch

joined_after : (along : ℤ) (n : ℕ) (ks : List Kind) (cell : Option CellType)
    → joined_arrays along (n ∷ axes_of_arrays ks) cell ≡ joined_told along (fold joint_with (Equal n) ks) cell
joined_after along n ks None = told_none (fold joint_with (Equal n) ks)
  where
    told_none : (joint : Joint) → Err TypeMismatch ≡ joined_told along joint None
    told_none NoArray = refl
    told_none (Equal m) = refl
    told_none Differing = refl
joined_after along n ks (Some cell) =
    elim (list_all (λ m. m == n) (axes_of_arrays ks)) as (λ b. by_rules true (b && is_axis along n) true (Array cell n) ≡ joined_told along (told n b) (Some cell))
    [ true ↦ refl | false ↦ refl ]
    ∙ ap (λ one. joined_told along one (Some cell)) (sym (after_equal n ks))

joined-joint_of : (along : ℤ) (ks : List Kind) (cell : Option CellType) → joined_arrays along (axes_of_arrays ks) cell ≡ joined_told along (joint_of ks) cell
joined-joint_of along [] cell = refl
joined-joint_of along (Scalar c ∷ ks) cell = joined-joint_of along ks cell
joined-joint_of along (Array c n ∷ ks) cell = joined_after along n ks cell
joined-joint_of along (Domain n ∷ ks) cell = joined-joint_of along ks cell
joined-joint_of along (Point n ∷ ks) cell = joined-joint_of along ks cell

pub joined_by_joint : (along : ℤ) (ks : List Kind) (cell : Option CellType) (joint : Joint) → joint ≡ joint_of ks
    → joined_arrays along (axes_of_arrays ks) cell ≡ joined_told along joint cell
joined_by_joint along ks cell joint e = joined-joint_of along ks cell ∙ ap (λ one. joined_told along one cell) (sym e)
