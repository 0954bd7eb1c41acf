-- The places of a concat's parts, as they are kept.
use Rattle.std.specs.Prelude.{Option, Some, None}
use Rattle.spec_expressions.specs.Shape.{Box}
use Rattle.ras_values.specs.declared.places.Before.{Before}
use Rattle.ras_values.specs.Nodes.{axes_kept}

abbrev pub before_seen : Option Before → Option (Box × Box)
before_seen None = None
before_seen (Some before) = Some (axes_kept before.first, axes_kept before.last)
