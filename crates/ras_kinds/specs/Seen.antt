-- What is seen of a checked expression from outside: the forms that the rules of the forms around it tell apart.
use Rattle.std.specs.Prelude.{ℕ, ℤ, Bool, true, false, List, [], ◌∷◌, Option, Some, None}
use Rattle.ras_syntax.specs.declared.typed.TypedAxis.{TypedAxis}
use Rattle.ras_syntax.specs.declared.typed.Kind.{Kind}
use Rattle.ras_syntax.specs.declared.typed.Kind.TheVariants.{Point}
use Rattle.spec_expressions.specs.Tree.{Tree, Form, Axes, node, number, domain_of, interval_of, no_axes, position}
use Rattle.spec_expressions.specs.Check.{tree_of_axes, are_numbers, bounds_are_static, all_are_static}

-- the number of a literal
abbrev pub literal_in : Tree → Option ℤ
literal_in (node span kind (number z atom)) = Some z
literal_in other = None

-- sdom(e)
abbrev pub is_sdom_tree : Tree → Bool
is_sdom_tree (node span kind (domain_of e)) = true
is_sdom_tree other = false

-- sdom(e)[k]
abbrev pub is_interval_tree : Tree → Bool
is_interval_tree (node span kind (interval_of e k)) = true
is_interval_tree other = false

-- one position and no more
abbrev pub is_one_position : Axes → Bool
is_one_position (position e no_axes) = true
is_one_position other = false

-- the number of a literal that is the only position
abbrev pub only_literal_in : Axes → Option ℤ
only_literal_in (position (node span kind (number z atom)) no_axes) = Some z
only_literal_in other = None

abbrev pub point_axes_in : Kind → Option ℕ
point_axes_in (Point axes) = Some axes
point_axes_in other = None

-- how many axes a point has that is the only position
abbrev pub only_point_in : Axes → Option ℕ
only_point_in (position (node span (Point axes) form) no_axes) = Some axes
only_point_in other = None

-- what is asked of one axis. These words stay shut where lists of axes are gone through
unfoldable pub is_number_axis_seen : TypedAxis → Bool
is_number_axis_seen axis = are_numbers (tree_of_axes (axis ∷ []))

unfoldable pub has_static_bounds_seen : TypedAxis → Bool
has_static_bounds_seen axis = bounds_are_static (tree_of_axes (axis ∷ []))

unfoldable pub is_static_axis_seen : TypedAxis → Bool
is_static_axis_seen axis = all_are_static (tree_of_axes (axis ∷ []))
