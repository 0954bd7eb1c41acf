-- The boxes that an expression reads, found without looking at a cell: for each iterator, by its place, boxes that have
-- every point at which its array is looked at.
use Rattle.std.specs.Prelude.{ℕ, ℤ, neg_ℤ, ◌+ℤ◌, ◌-ℤ◌, ◌*ℤ◌, unsigned_abs, if◌then◌else◌, List, [], ◌∷◌, ◌++◌, map, slice_get, Option, Some, None, Result, Ok, Err}
use Rattle.std.specs.Int.{int_min, int_max}
use Rattle.std.specs.List.{list_any, zip}
use Rattle.std.specs.Map.{lookup}
use Rattle.ras_cells.specs.declared.atom.Atom.{Atom}
use Rattle.ras_cells.specs.declared.atom.Atom.TheVariants as atoms
use Rattle.ras_cells.specs.declared.cell.CellType.TheVariants as types
use Rattle.ras_cells.specs.declared.cell.CellFault.{CellFault}
use Rattle.ras_cells.specs.declared.numbers.Op1.TheVariants as one
use Rattle.ras_cells.specs.declared.numbers.Op2.TheVariants as two
use Rattle.ras_cells.specs.Atoms.{range_of}
use Rattle.ras_domain.specs.declared.region.Interval.{Interval}
use Rattle.ras_domain.specs.Boxes.{meet_of, meet_of_axis, shifted_by}
use Rattle.ras_syntax.specs.declared.typed.Kind.{Kind}
use Rattle.ras_syntax.specs.declared.typed.Kind.TheVariants as kinds
use Rattle.spec_expressions.specs.Tree.{is_same_name, NameOf, Tree, Form, Trees, Pairs, Axes, Condition, node, truth, number, iterator, variable, coordinate, unary, cast, binary, index, at_point, component, choice, composite, marray, condense, folded, shift, extend, concat, domain_of, interval_of, bound_of, oid, no_trees, trees, no_pairs, pairs, no_axes, position, trim, always, only_where}
use Rattle.spec_expressions.specs.Shape.{Box, shape_of, shapes_of, written_of, offsets_of, static_form, placed_parts}
use Rattle.ras_domain.specs.Region.{is_empty}
use Rattle.spec_expressions.specs.Eval.{box_in, boxes_in, written_in, axes_in, offsets_in}

-- the boxes of the variables in scope, innermost first
abbrev pub Boxes : Type 0
Boxes = List (NameOf × Box)

abbrev pub box_or_none : Option Box → Box
box_or_none None = []
box_or_none (Some axes) = axes

abbrev pub box_named : Boxes → NameOf → Box
box_named boxes x = box_or_none (lookup (is_same_name x) boxes)

-- ---- bounds of numbers: an interval that has every value an expression may have, none where it has none

abbrev pub interval_of_atom : Atom → Interval
interval_of_atom atom = record { lo = (range_of atom).0; hi = (range_of atom).1 }

-- the range of an expression's type
abbrev pub range_of_kind : Kind → Interval
range_of_kind (kinds.Scalar (types.Atom atom)) = interval_of_atom atom
range_of_kind other = interval_of_atom atoms.Wide

-- the numbers of an interval that 64 bits have
abbrev pub within_wide : Interval → Option Interval
within_wide axis =
    if is_empty (meet_of_axis axis (interval_of_atom atoms.Wide)) then None else Some (meet_of_axis axis (interval_of_atom atoms.Wide))

abbrev pub bound_joined : (Interval → Interval → Interval) → Option Interval → Option Interval → Option Interval
bound_joined join None b = None
bound_joined join (Some a) None = None
bound_joined join (Some a) (Some b) = within_wide (join a b)

abbrev pub negated_interval : Option Interval → Option Interval
negated_interval None = None
negated_interval (Some a) = within_wide (record { lo = neg_ℤ a.hi; hi = neg_ℤ a.lo })

abbrev pub sum_interval : Interval → Interval → Interval
sum_interval a b = record { lo = a.lo +ℤ b.lo; hi = a.hi +ℤ b.hi }

abbrev pub difference_interval : Interval → Interval → Interval
difference_interval a b = record { lo = a.lo -ℤ b.hi; hi = a.hi -ℤ b.lo }

-- the least and the greatest product of the ends
abbrev pub product_interval : Interval → Interval → Interval
product_interval a b = record {
  lo = int_min (int_min (a.lo *ℤ b.lo) (a.lo *ℤ b.hi)) (int_min (a.hi *ℤ b.lo) (a.hi *ℤ b.hi));
  hi = int_max (int_max (a.lo *ℤ b.lo) (a.lo *ℤ b.hi)) (int_max (a.hi *ℤ b.lo) (a.hi *ℤ b.hi));
}

abbrev pub number_alone : Result ℤ CellFault → Option Interval
number_alone (Ok z) = Some (record { lo = z; hi = z })
number_alone (Err fault) = None

abbrev mutual
  pub number_bound : List Box → Boxes → Tree → Option Interval
  number_bound domains boxes (node span kind form) = form_bound domains boxes kind form

  pub form_bound : List Box → Boxes → Kind → Form → Option Interval
  form_bound domains boxes kind (number z atom) = Some (record { lo = z; hi = z })
  form_bound domains boxes kind (coordinate x k) = slice_get (box_named boxes x) (unsigned_abs k)
  form_bound domains boxes kind (bound_of side e k) = number_alone (static_form domains (bound_of side e k))
  form_bound domains boxes kind (unary one.Neg e) = negated_interval (number_bound domains boxes e)
  form_bound domains boxes kind (binary two.Add a b) =
      bound_joined sum_interval (number_bound domains boxes a) (number_bound domains boxes b)
  form_bound domains boxes kind (binary two.Sub a b) =
      bound_joined difference_interval (number_bound domains boxes a) (number_bound domains boxes b)
  form_bound domains boxes kind (binary two.Mul a b) =
      bound_joined product_interval (number_bound domains boxes a) (number_bound domains boxes b)
  form_bound domains boxes kind other = Some (range_of_kind kind)

-- ---- reach

-- boxes that are looked at, each with the place of its iterator
abbrev pub Reached : Type 0
Reached = List (ℕ × Box)

-- what is reached within a box, nothing where it is empty
abbrev pub reached_within : Option Box → (Box → Reached) → Reached
reached_within None reached = []
reached_within (Some axes) reached = if list_any is_empty axes then [] else reached axes

abbrev pub with_axis : Option Interval → Option Box → Option Box
with_axis None axes = None
with_axis (Some axis) None = None
with_axis (Some axis) (Some axes) = Some (axis ∷ axes)

abbrev pub met_with : Interval → Option Interval → Option Interval
met_with axis None = None
met_with axis (Some other) = Some (meet_of_axis axis other)

-- a box of a part's place moved back to where the part lies
abbrev pub moved_back : Box → Box → Box → Box
moved_back from to axes = shifted_by (map (λ x. x.1.lo -ℤ x.0.lo) (zip from to)) axes

abbrev mutual
  -- for the result points in the box around
  pub reach_of : List Box → Boxes → Tree → Box → Reached
  reach_of domains boxes (node span kind form) around = form_reach domains boxes form around

  pub form_reach : List Box → Boxes → Form → Box → Reached
  form_reach domains boxes (truth b) around = []
  form_reach domains boxes (number z atom) around = []
  form_reach domains boxes (iterator place) around = (place, around) ∷ []
  form_reach domains boxes (variable x) around = []
  form_reach domains boxes (coordinate x k) around = []
  form_reach domains boxes (unary op e) around = reach_of domains boxes e around
  form_reach domains boxes (cast atom e) around = reach_of domains boxes e around
  form_reach domains boxes (binary op a b) around = reach_of domains boxes a around ++ reach_of domains boxes b around
  form_reach domains boxes (index e axes) around =
      reached_within (index_box domains boxes axes (box_in (shape_of domains e)) around) (reach_of domains boxes e)
      ++ positions_reach domains boxes axes
  form_reach domains boxes (at_point e x) around =
      reached_within (Some (meet_of (box_named boxes x) (box_in (shape_of domains e)))) (reach_of domains boxes e)
  form_reach domains boxes (component e k) around = reach_of domains boxes e around
  form_reach domains boxes (choice arms other) around = pairs_reach domains boxes arms around ++ reach_of domains boxes other around
  form_reach domains boxes (composite es) around = trees_reach domains boxes es around
  form_reach domains boxes (marray x domain e) around = reach_of domains ((x, around) ∷ boxes) e []
  form_reach domains boxes (condense op x domain condition e) around =
      condition_reach domains ((x, axes_in (written_in (written_of domains domain))) ∷ boxes) condition
      ++ reach_of domains ((x, axes_in (written_in (written_of domains domain))) ∷ boxes) e []
  form_reach domains boxes (folded f e) around = reach_of domains boxes e (box_in (shape_of domains e))
  form_reach domains boxes (shift e offsets) around =
      reach_of domains boxes e (shifted_by (map neg_ℤ (offsets_in (offsets_of domains offsets))) around)
  form_reach domains boxes (extend e domain) around =
      reached_within (Some (meet_of around (box_in (shape_of domains e)))) (reach_of domains boxes e)
  form_reach domains boxes (concat parts along) around =
      parts_reach domains boxes parts (boxes_in (shapes_of domains parts))
      (placed_parts (unsigned_abs along) (boxes_in (shapes_of domains parts))) around
  form_reach domains boxes (domain_of e) around = []
  form_reach domains boxes (interval_of e k) around = []
  form_reach domains boxes (bound_of side e k) around = []
  form_reach domains boxes (oid a) around = []

  pub trees_reach : List Box → Boxes → Trees → Box → Reached
  trees_reach domains boxes no_trees around = []
  trees_reach domains boxes (trees e es) around = reach_of domains boxes e around ++ trees_reach domains boxes es around

  pub pairs_reach : List Box → Boxes → Pairs → Box → Reached
  pairs_reach domains boxes no_pairs around = []
  pairs_reach domains boxes (pairs c e ps) around =
      reach_of domains boxes c around ++ reach_of domains boxes e around ++ pairs_reach domains boxes ps around

  pub condition_reach : List Box → Boxes → Condition → Reached
  condition_reach domains boxes always = []
  condition_reach domains boxes (only_where c) = reach_of domains boxes c []

  -- what an index looks at: the result's interval on each axis that is kept, and where a position may lie on the others
  pub index_box : List Box → Boxes → Axes → Box → Box → Option Box
  index_box domains boxes no_axes rest around = Some []
  index_box domains boxes (position e axes) [] around = Some []
  index_box domains boxes (trim a b axes) [] around = Some []
  index_box domains boxes (position e axes) (axis ∷ rest) around =
      with_axis (met_with axis (number_bound domains boxes e)) (index_box domains boxes axes rest around)
  index_box domains boxes (trim a b axes) (axis ∷ rest) [] = Some []
  index_box domains boxes (trim a b axes) (axis ∷ rest) (kept ∷ around) =
      with_axis (Some kept) (index_box domains boxes axes rest around)

  -- what the positions themselves look at
  pub positions_reach : List Box → Boxes → Axes → Reached
  positions_reach domains boxes no_axes = []
  positions_reach domains boxes (position e axes) = reach_of domains boxes e [] ++ positions_reach domains boxes axes
  positions_reach domains boxes (trim a b axes) = positions_reach domains boxes axes

  pub parts_reach : List Box → Boxes → Trees → List Box → List Box → Box → Reached
  parts_reach domains boxes no_trees owns places around = []
  parts_reach domains boxes (trees e es) [] places around = []
  parts_reach domains boxes (trees e es) (own_box ∷ owns) [] around = []
  parts_reach domains boxes (trees e es) (own_box ∷ owns) (place ∷ places) around =
      reached_within (Some (meet_of around place)) (λ met. reach_of domains boxes e (moved_back place own_box met))
      ++ parts_reach domains boxes es owns places around
