-- Which types may be declared: those of which each part may.
use Rattle.std.proofs.Common.{◌≡◌, ℕ, ◌*◌, ◌==◌, nat_le, Bool, true, false, not, ◌&&◌, List, length, refl, ap, ◌∙◌}
use Rattle.std.specs.Prelude.{int_lt}
use Rattle.std.specs.List.{fold, list_all}
use Rattle.ras_cells.specs.Stored.{atoms_of}
use Rattle.ras_cells.specs.declared.TheConstants.{MAX_NULLS}
use Rattle.ras_domain.specs.declared.TheConstants.{MAX_AXES, MAX_TILE_CELLS}
use Rattle.ras_syntax.specs.declared.types.SetType.{SetType}
use Rattle.spec_workloads.specs.TypeLines.{are_all_apart, has_components, is_bounded_axis, is_null_set, is_one_to, is_set_type, is_wide, may_be_declared}
use Rattle.ras_workload.specs.Kept.{are_nulls, is_free_type}

pub right_false : (a b : Bool) → b ≡ false → (a && b) ≡ false
right_false true b is = is
right_false false b is = refl

last_false : (a x y z : Bool) → ((x && y) && z) ≡ false → (((a && x) && y) && z) ≡ false
last_false true x y z is = is
last_false false x y z is = refl

-- the tests before those of the null set
abbrev front_parts : SetType → Bool
front_parts of =
    is_one_to MAX_AXES (length of.bounds.items)
    && list_all is_bounded_axis of.bounds.items
    && (length of.extents.items == length of.bounds.items)
    && list_all (λ extent. nat_le 1 extent) of.extents.items
    && nat_le (fold ◌*◌ 1 of.extents.items) MAX_TILE_CELLS
    && list_all (λ atom. not (is_wide atom)) (atoms_of of.cell)
    && has_components of.cell of.names

pub no_nulls : (earlier : List SetType) (of : SetType) → are_nulls of.cell of.nulls.items ≡ false → may_be_declared earlier of ≡ false
no_nulls earlier of is =
    right_false (is_free_type earlier of.name) (is_set_type of)
    (last_false (front_parts of) (is_null_set of.cell of.nulls.items) (nat_le (length of.nulls.items) MAX_NULLS) (are_all_apart (λ a b. int_lt a.1 b.0) of.nulls.items) is)
