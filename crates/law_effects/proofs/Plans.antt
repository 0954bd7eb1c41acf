-- What a plan says of what is written.
use Rattle.std.proofs.Common.{◌≡◌, ◌*◌, ℕ, ◌≤◌, ℤ, true, not, ◌||◌, nat_lt, List, [], ◌∷◌, length, Option, Some, None, Ok, refl, sym, subst}
use Rattle.std.specs.List.{AllByRecursion}
use Rattle.std.proofs.lemmas.Bool.{ltb-false, not-false, or_parts}
use Rattle.std.proofs.lemmas.List.Elements.{All-cons, All-from_recursion, All-nil, recursion_from_All}
use Rattle.ras_cells.specs.Stored.{atoms_of}
use Rattle.ras_domain.specs.declared.TheConstants.{MAX_POINTS}
use Rattle.ras_domain.specs.Region.{IsIn, IsOrdered, volume_of}
use Rattle.ras_domain.specs.Boxes.{hull_of, lies_in}
use Rattle.ras_domain.proofs.PointSets.{IsOrdered-hull_of}
use Rattle.ras_syntax.specs.declared.span.Span.{Span}
use Rattle.ras_syntax.specs.declared.types.SetType.{SetType}
use Rattle.spec_expressions.specs.Tree.{Axes, Tree}
use Rattle.spec_expressions.specs.Database.{Array, Member}
use Rattle.spec_expressions.specs.Fits.{IsSound}
use Rattle.spec_expressions.specs.Shape.{Box, Cut, Shape, box_of, cuts_of, kept_axes, shape_of}
use Rattle.spec_statements.specs.Plans.{Plan, Writing, allowed_writing, equal_domains, insert_plan, span_in, target_box, target_point, tile_count, update_plan, writing_over, written_plan}
use Rattle.spec_statements.specs.Effects.{grown_of}
use Rattle.spec_statements.specs.Rows.{Row}
use Rattle.spec_statements.specs.Validity.{IsArrayOf}
use Rattle.ras_domain.proofs.BoxTests.{volume_of-points}
use Rattle.law_shapes.proofs.Sound.{shape-sound}
use Rattle.law_shapes.proofs.Outcomes.{bind_ok, unless_ok}
use Rattle.law_lists.proofs.Choices.{ok_keeps}
use Rattle.law_effects.proofs.Checked.{HasStaticAxes}
use Rattle.law_effects.proofs.Targets.{cuts-still, equal_domains-same, target_box_ok, target_point-IsIn, targets-ordered}
use Rattle.law_effects.proofs.Written.{IsFit, IsLimited, lies_in-hull_of}
use Rattle.ras_syntax.specs.declared.limits.TheConstants.{MAX_TILES}

-- ---- the rules on a written region

-- what the rules say of the region and of the new domain
pub record IsAllowed (of : SetType) (writing : Writing) : Type 0 where
  pub within : lies_in writing.region of.bounds.items ≡ true
  pub limited : IsLimited of writing.grown

allowed_ok : (of : SetType) (span : Span) (writing allowed : Writing) → allowed_writing of span writing ≡ Ok allowed → (writing ≡ allowed) × IsAllowed of writing
allowed_ok of span writing allowed is =
    let (inside, then_1) = unless_ok (not (lies_in writing.region of.bounds.items)) _ _ allowed is in
    let (few, then_2) = unless_ok (nat_lt MAX_POINTS (volume_of writing.grown) || nat_lt MAX_POINTS (volume_of writing.grown * length (atoms_of of.cell))) _ _ allowed then_1 in
    let (tiles, last) = unless_ok (nat_lt MAX_TILES (tile_count of.extents.items writing.grown)) _ _ allowed then_2 in
    let both = or_parts (nat_lt MAX_POINTS (volume_of writing.grown)) (nat_lt MAX_POINTS (volume_of writing.grown * length (atoms_of of.cell))) few in (
      ok_keeps (λ w. writing ≡ w) writing allowed last refl,
      record {
        within = not-false (lies_in writing.region of.bounds.items) inside;
        limited = record {
          few_points = ltb-false MAX_POINTS (volume_of writing.grown) both.0;
          few_numbers = ltb-false MAX_POINTS (volume_of writing.grown * length (atoms_of of.cell)) both.1;
          few_tiles = ltb-false MAX_TILES (tile_count of.extents.items writing.grown) tiles;
        };
      },
    )

-- the plan of a row that is written
abbrev pub planned : List Cut → Shape → Writing → ℕ × Row → Plan
planned cuts shape writing row = record { number = row.0; row = row.1; shape = shape; cuts = cuts; writing = Some writing }

pub written_plan_ok : (of : SetType) (body : Tree) (cuts : List Cut) (shape : Shape) (writing : Writing) (row : ℕ × Row) (plan : Plan)
    → written_plan of body cuts shape writing row ≡ Ok plan → (planned cuts shape writing row ≡ plan) × IsAllowed of writing
written_plan_ok of body cuts shape writing row plan is =
    let (allowed, is_allowed, last) = bind_ok (allowed_writing of (span_in body) writing) _ plan is in
    let (same, rules) = allowed_ok of (span_in body) writing allowed is_allowed in
    (subst (λ w. planned cuts shape w row ≡ plan) (sym same) (ok_keeps (λ p. planned cuts shape allowed row ≡ p) (planned cuts shape allowed row) plan last refl), rules)

-- ---- an insert

-- an insert writes a box that fits
pub insert_plan-fits : (of : SetType) (body : Tree) (k : ℕ) (plan : Plan) → insert_plan of body (k, []) ≡ Ok plan → IsFit of (grown_of plan)
insert_plan-fits of body k plan is =
    let (shape, is_shape, then_1) = bind_ok (shape_of [] body) _ plan is in
    let (same, rules) = written_plan_ok of body [] shape _ (k, []) plan then_1 in
    subst (λ p. IsFit of (grown_of p)) same (record {
      ordered = recursion_from_All IsOrdered (box_of shape) (shape-sound [] body shape (All-nil IsSound) is_shape).ordered;
      within = rules.within;
      limited = rules.limited;
    })

-- ---- an update

-- an update's plan for the member of its row
pub record IsUpdatePlan (of : SetType) (member : Member) (plan : Plan) : Type 0 where
  pub writing : Writing
  pub row_is : plan.row ≡ member ∷ []
  pub writes : plan.writing ≡ Some writing
  pub fit : IsFit of writing.grown
  pub within : lies_in writing.region of.bounds.items ≡ true
  pub ordered : AllByRecursion IsOrdered writing.region
  -- each point that is written lies in the region
  pub targets : (q : List ℤ) → IsIn q (box_of plan.shape) → IsIn (target_point plan.cuts q) writing.region

-- the domain of an array is sound, and the hull with an ordered region fits
IsSound-array : (of : SetType) (array : Array) → IsArrayOf of array → IsSound array.domain
IsSound-array of array is = record {
  small_bounds = is.region.small_bounds;
  ordered = is.region.ordered;
  few_points = subst (λ n. n ≤ MAX_POINTS) (sym (volume_of-points array.domain)) is.region.few_points;
}

over_fits : (of : SetType) (array : Array) (region body : Box) → IsArrayOf of array → AllByRecursion IsOrdered region
    → IsAllowed of (writing_over array.domain region body) → IsFit of (hull_of array.domain region)
over_fits of array region body is ordered rules = record {
  ordered = recursion_from_All IsOrdered (hull_of array.domain region) (IsOrdered-hull_of array.domain region is.region.ordered (All-from_recursion IsOrdered region ordered));
  within = lies_in-hull_of array.domain region of.bounds.items is.within_bounds rules.within;
  limited = rules.limited;
}

-- the plan of a region whose points are known
planned_update : (of : SetType) (member : Member) (cuts : List Cut) (shape : Shape) (region : Box) (k : ℕ) (plan : Plan) → IsArrayOf of member.array → AllByRecursion IsOrdered region
    → ((q : List ℤ) → IsIn q (box_of shape) → IsIn (target_point cuts q) region)
    → (planned cuts shape (writing_over member.array.domain region (box_of shape)) (k, member ∷ []) ≡ plan) × IsAllowed of (writing_over member.array.domain region (box_of shape))
    → IsUpdatePlan of member plan
planned_update of member cuts shape region k plan is ordered targets (same, rules) =
    subst (IsUpdatePlan of member) same (record {
      writing = writing_over member.array.domain region (box_of shape);
      row_is = refl;
      writes = refl;
      fit = over_fits of member.array region (box_of shape) is ordered rules;
      within = rules.within;
      ordered = ordered;
      targets = targets;
    })

-- each plan of an update is such a one
pub update_plan_ok : (of : SetType) (target : Span) (body : Tree) (axes : Option Axes) (k : ℕ) (member : Member) (plan : Plan) → HasStaticAxes axes
    → IsArrayOf of member.array → update_plan of target body axes (k, member ∷ []) ≡ Ok plan → IsUpdatePlan of member plan
update_plan_ok of target body None k member plan static array is =
    let domains : List Box = member.array.domain ∷ [] in
    let (shape, is_shape, then_1) = bind_ok (shape_of domains body) _ plan is in
    let sound = shape-sound domains body shape (All-cons IsSound member.array.domain [] (IsSound-array of member.array array) (All-nil IsSound)) is_shape in
    planned_update of member [] shape (box_of shape) k plan array (recursion_from_All IsOrdered (box_of shape) sound.ordered) (λ q within. within)
    (written_plan_ok of body [] shape (writing_over member.array.domain (box_of shape) (box_of shape)) (k, member ∷ []) plan then_1)
update_plan_ok of target body (Some axes) k member plan static array is =
    let domains : List Box = member.array.domain ∷ [] in
    let (cuts, are_cuts, then_1) = bind_ok (cuts_of domains axes member.array.domain) _ plan is in
    let (region, is_region, then_2) = bind_ok (target_box target (length (atoms_of of.cell)) cuts) _ plan then_1 in
    let (shape, is_shape, then_3) = bind_ok (shape_of domains body) _ plan then_2 in
    let (both, are_same, then_4) = bind_ok (equal_domains (span_in body) (box_of shape) (kept_axes cuts)) _ plan then_3 in
    let (whole, some, named) = target_box_ok target (length (atoms_of of.cell)) cuts region is_region in
    let same = equal_domains-same (span_in body) (box_of shape) (kept_axes cuts) both are_same in
    planned_update of member cuts shape region k plan array (subst (AllByRecursion IsOrdered) named (targets-ordered cuts some))
    (λ q within. subst (IsIn (target_point cuts q)) named (target_point-IsIn cuts q (cuts-still domains axes member.array.domain cuts static are_cuts) whole (subst (IsIn q) same within)))
    (written_plan_ok of body cuts shape (writing_over member.array.domain region (box_of shape)) (k, member ∷ []) plan then_4)
