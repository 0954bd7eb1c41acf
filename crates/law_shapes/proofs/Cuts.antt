-- What the axes of an index and written bounds say, where they give a box.
use Rattle.std.proofs.Common.{◌≡◌, ℤ, ◌≤ℤ◌, Bool, true, false, Ok, Err, List, [], ◌∷◌, map, refl, sym, ap, subst, ◌∙◌, arith}
use Rattle.std.specs.Prelude.{◌&&◌, int_le, int_lt, not, if◌then◌else◌}
use Rattle.std.proofs.lemmas.Bool.{not-false, and_parts, or_parts}
use Rattle.std.specs.List.{list_any, zip}
use Rattle.std.proofs.lemmas.Int.{ints}
use Rattle.ras_cells.specs.Outcomes.{◌>>=◌}
use Rattle.ras_domain.specs.declared.region.Interval.{Interval}
use Rattle.ras_domain.specs.Region.{HasSmallBounds, IsOrdered}
use Rattle.ras_syntax.specs.declared.span.Span.{Span}
use Rattle.ras_syntax.specs.declared.faults.ShapeFault.TheVariants.{BoundOut, EmptyDomain}
use Rattle.spec_expressions.specs.Tree.{Tree, Pairs, Axes, Edge, Domain, no_pairs, pairs, no_axes, position, trim, bounds, domain_like}
use Rattle.spec_expressions.specs.Shape.{Box, Shape, ShapeMisfit, box_of, shape_of, Cut, between, broken, position_cut, trim_cut, is_broken, is_empty_cut, is_outside, kept_axes, cuts_of, edge_value, Bound, cut_of, Written, literal, taken, written_box, written_of, bounds_of, is_small, is_static, static_of}
use Rattle.law_shapes.proofs.Outcomes.{bind_ok, same_ok, unless_ok}
use Rattle.ras_domain.proofs.BoxTests.{both_le}
use Rattle.law_shapes.proofs.SmallBounds.{IsInRange-is_small, HasSmallBounds-Long}

-- the expression has a shape
abbrev pub HasShape : List Box → Tree → Type 0
HasShape domains e = (x : Shape) × (shape_of domains e ≡ Ok x)

-- ---- an index

-- a position that is static lies on its axis
abbrev pub IsOnAxis : Bool → Bound → Interval → Type 0
IsOnAxis false value axis = Unit {0}
IsOnAxis true value axis = (z : ℤ) × (value ≡ Ok z) × (axis.lo ≤ℤ z) × (z ≤ℤ axis.hi)

-- what a trim keeps of an axis
pub record IsTrimOf (axis kept : Interval) : Type 0 where
  pub small : HasSmallBounds kept
  pub ordered : IsOrdered kept
  pub low : axis.lo ≤ℤ kept.lo
  pub high : kept.hi ≤ℤ axis.hi

-- the axes of an index cut the box to what is kept of it
abbrev pub AreCut : List Box → Axes → Box → Box → Type 0
AreCut domains no_axes rest kept = kept ≡ []
AreCut domains (position e axes) [] kept = kept ≡ []
AreCut domains (trim a b axes) [] kept = kept ≡ []
AreCut domains (position e axes) (axis ∷ rest) kept =
    HasShape domains e × IsOnAxis (is_static e) (static_of domains e) axis × AreCut domains axes rest kept
AreCut domains (trim a b axes) (axis ∷ rest) [] = ⊥
AreCut domains (trim a b axes) (axis ∷ rest) (x ∷ kept) =
    (edge_value domains axis.lo a ≡ Ok (Ok x.lo)) × (edge_value domains axis.hi b ≡ Ok (Ok x.hi)) × IsTrimOf axis x
    × AreCut domains axes rest kept

-- a bound of a trim that is written has a shape
-- an interval that lies within another, and one that has a number, as the tests say
within_from : (low high z w : ℤ) → not (int_le low z && int_le w high) ≡ false → (low ≤ℤ z) × (w ≤ℤ high)
within_from low high z w is = (both_le low z w high).0 (not-false (int_le low z && int_le w high) is)

le_from : (low high : ℤ) → int_lt high low ≡ false → low ≤ℤ high
le_from low high is = grind (arith, ints)

-- a position that is neither broken nor outside
position-cut : (static : Bool) (value : Bound) (axis : Interval) (cuts : List Cut) → is_broken (position_cut static value) ≡ false → is_outside (position_cut static value, axis) ≡ false
    → IsOnAxis static value axis × (kept_axes (position_cut static value ∷ cuts) ≡ kept_axes cuts)
position-cut false value axis cuts whole inside = (tt, refl)
position-cut true (Ok z) axis cuts whole inside = let here = within_from axis.lo axis.hi z z inside in ((z, refl, here.0, here.1), refl)
position-cut true (Err fault) axis cuts whole inside = absurd cc

-- a trim that isn't broken has small bounds
small_cut : (a b : ℤ) (t : Bool) → is_broken (if t then between a b else broken) ≡ false → t ≡ true
small_cut a b true is = refl
small_cut a b false is = absurd cc

-- both bounds have a value, and 32 bits
trim-small : (lo hi : Bound) → is_broken (trim_cut lo hi) ≡ false
    → (x : Interval) × (lo ≡ Ok x.lo) × (hi ≡ Ok x.hi) × HasSmallBounds x × (trim_cut lo hi ≡ between x.lo x.hi)
trim-small (Ok a) (Ok b) whole =
    let small : (is_small a && is_small b) ≡ true = small_cut a b (is_small a && is_small b) whole in
    let both = and_parts (is_small a) (is_small b) small in
    let x : Interval = record { lo = a; hi = b } in
    (x, refl, refl, HasSmallBounds-Long x ((IsInRange-is_small a).0 both.0) ((IsInRange-is_small b).0 both.1), ap (λ t. if t then between a b else broken) small)
trim-small (Ok a) (Err fault) whole = absurd cc
trim-small (Err fault) hi whole = absurd cc

-- a trim before other cuts, none of which is broken or empty
record FirstTrim (lo hi : Bound) (others cuts : List Cut) : Type 0 where
  kept : Interval
  low : lo ≡ Ok kept.lo
  high : hi ≡ Ok kept.hi
  small : HasSmallBounds kept
  ordered : IsOrdered kept
  cuts_are : between kept.lo kept.hi ∷ others ≡ cuts
  unbroken : list_any is_broken others ≡ false
  filled : list_any is_empty_cut others ≡ false

first-trim : (lo hi : Bound) (others cuts : List Cut) → trim_cut lo hi ∷ others ≡ cuts → list_any is_broken cuts ≡ false → list_any is_empty_cut cuts ≡ false → FirstTrim lo hi others cuts
first-trim lo hi others cuts same whole some =
    let unbroken = or_parts (is_broken (trim_cut lo hi)) (list_any is_broken others) (ap (list_any is_broken) same ∙ whole) in
    let x = trim-small lo hi unbroken.0 in
    let cuts_are : between x.0.lo x.0.hi ∷ others ≡ cuts = ap (λ cut. cut ∷ others) (sym x.4) ∙ same in
    let filled = or_parts (int_lt x.0.hi x.0.lo) (list_any is_empty_cut others) (ap (list_any is_empty_cut) cuts_are ∙ some) in
    record { kept = x.0; low = x.1; high = x.2; small = x.3; ordered = le_from x.0.lo x.0.hi filled.0; cuts_are = cuts_are; unbroken = unbroken.1; filled = filled.1 }

-- one more position, and one more trim
position-axis : (domains : List Box) (e : Tree) (axes : Axes) (axis : Interval) (rest : Box) (cuts others : List Cut) → HasShape domains e
    → (list_any is_broken others ≡ false → list_any is_empty_cut others ≡ false → list_any is_outside (zip others rest) ≡ false → AreCut domains axes rest (kept_axes others))
    → position_cut (is_static e) (static_of domains e) ∷ others ≡ cuts → list_any is_broken cuts ≡ false → list_any is_empty_cut cuts ≡ false
    → list_any is_outside (zip cuts (axis ∷ rest)) ≡ false
    → AreCut domains (position e axes) (axis ∷ rest) (kept_axes cuts)
position-axis domains e axes axis rest cuts others shape more same whole some inside =
    let cut : Cut = position_cut (is_static e) (static_of domains e) in
    let unbroken = or_parts (is_broken cut) (list_any is_broken others) (ap (list_any is_broken) same ∙ whole) in
    let filled = or_parts (is_empty_cut cut) (list_any is_empty_cut others) (ap (list_any is_empty_cut) same ∙ some) in
    let within = or_parts (is_outside (cut, axis)) (list_any is_outside (zip others rest)) (ap (λ cs. list_any is_outside (zip cs (axis ∷ rest))) same ∙ inside) in
    let here = position-cut (is_static e) (static_of domains e) axis others unbroken.0 within.0 in
    let kept : kept_axes others ≡ kept_axes cuts = sym here.1 ∙ ap kept_axes same in
    (shape, here.0, subst (AreCut domains axes rest) kept (more unbroken.1 filled.1 within.1))

trim-axis : (domains : List Box) (a b : Edge) (axes : Axes) (axis : Interval) (rest : Box) (cuts others : List Cut) (lo hi : Bound)
    → edge_value domains axis.lo a ≡ Ok lo → edge_value domains axis.hi b ≡ Ok hi
    → (list_any is_broken others ≡ false → list_any is_empty_cut others ≡ false → list_any is_outside (zip others rest) ≡ false → AreCut domains axes rest (kept_axes others))
    → trim_cut lo hi ∷ others ≡ cuts → list_any is_broken cuts ≡ false → list_any is_empty_cut cuts ≡ false → list_any is_outside (zip cuts (axis ∷ rest)) ≡ false
    → AreCut domains (trim a b axes) (axis ∷ rest) (kept_axes cuts)
trim-axis domains a b axes axis rest cuts others lo hi low high more same whole some inside =
    let first = first-trim lo hi others cuts same whole some in
    let x : Interval = first.kept in
    let within = or_parts (is_outside (between x.lo x.hi, axis)) (list_any is_outside (zip others rest)) (ap (λ cs. list_any is_outside (zip cs (axis ∷ rest))) first.cuts_are ∙ inside) in
    let inner = within_from axis.lo axis.hi x.lo x.hi within.0 in
    subst (AreCut domains (trim a b axes) (axis ∷ rest)) (ap kept_axes first.cuts_are) (
      low ∙ ap (λ v. Ok v) first.low,
      high ∙ ap (λ v. Ok v) first.high,
      record { small = first.small; ordered = first.ordered; low = inner.0; high = inner.1 },
      more
          first.unbroken first.filled within.1,
    )

-- the axes of an index whose cuts are neither broken nor empty nor outside
pub cut-axes : (domains : List Box) (axes : Axes) (rest : Box) (cuts : List Cut) → cuts_of domains axes rest ≡ Ok cuts → list_any is_broken cuts ≡ false → list_any is_empty_cut cuts ≡ false
    → list_any is_outside (zip cuts rest) ≡ false → AreCut domains axes rest (kept_axes cuts)
cut-axes domains no_axes rest cuts is whole some inside = ap kept_axes (sym (same_ok [] cuts is))
cut-axes domains (position e axes) [] cuts is whole some inside = ap kept_axes (sym (same_ok [] cuts is))
cut-axes domains (trim a b axes) [] cuts is whole some inside = ap kept_axes (sym (same_ok [] cuts is))
cut-axes domains (position e axes) (axis ∷ rest) cuts is whole some inside =
    let one = bind_ok (shape_of domains e) (λ inner. cuts_of domains axes rest >>= λ cuts. Ok (position_cut (is_static e) (static_of domains e) ∷ cuts)) cuts is in
    let two = bind_ok (cuts_of domains axes rest) (λ cuts. Ok (position_cut (is_static e) (static_of domains e) ∷ cuts)) cuts one.2 in
    position-axis domains e axes axis rest cuts two.0 (one.0, one.1) (cut-axes domains axes rest two.0 two.1)
    (same_ok (position_cut (is_static e) (static_of domains e) ∷ two.0) cuts two.2) whole some inside
cut-axes domains (trim a b axes) (axis ∷ rest) cuts is whole some inside =
    let one = bind_ok (edge_value domains axis.lo a) (λ lo. edge_value domains axis.hi b >>= λ hi. cuts_of domains axes rest >>= λ cuts. Ok (trim_cut lo hi ∷ cuts)) cuts is in
    let two = bind_ok (edge_value domains axis.hi b) (λ hi. cuts_of domains axes rest >>= λ cuts. Ok (trim_cut one.0 hi ∷ cuts)) cuts one.2 in
    let three = bind_ok (cuts_of domains axes rest) (λ cuts. Ok (trim_cut one.0 two.0 ∷ cuts)) cuts two.2 in
    trim-axis domains a b axes axis rest cuts three.0 one.0 two.0 one.1 two.1 (cut-axes domains axes rest three.0 three.1)
    (same_ok (trim_cut one.0 two.0 ∷ three.0) cuts three.2) whole some inside

-- ---- written bounds

-- the intervals of the written bounds
abbrev pub AreIntervalsOf : List Box → Pairs → Box → Type 0
AreIntervalsOf domains no_pairs [] = Unit {0}
AreIntervalsOf domains no_pairs (axis ∷ axes) = ⊥
AreIntervalsOf domains (pairs a b ps) [] = ⊥
AreIntervalsOf domains (pairs a b ps) (axis ∷ axes) =
    HasShape domains a × HasShape domains b × (static_of domains a ≡ Ok axis.lo) × (static_of domains b ≡ Ok axis.hi)
    × HasSmallBounds axis × IsOrdered axis × AreIntervalsOf domains ps axes

-- the box of a written domain, or of the array that it is like
abbrev pub IsBoxOf : List Box → Domain → Box → Type 0
IsBoxOf domains (bounds ps) axes = AreIntervalsOf domains ps axes
IsBoxOf domains (domain_like e) axes = (x : Shape) × (shape_of domains e ≡ Ok x) × (axes ≡ box_of x)

-- one more pair of bounds, and all of them
one-interval : (domains : List Box) (a b : Tree) (ps : Pairs) (others values : List (Bound × Bound)) → HasShape domains a → HasShape domains b
    → (list_any is_broken (map cut_of others) ≡ false → list_any is_empty_cut (map cut_of others) ≡ false → AreIntervalsOf domains ps (kept_axes (map cut_of others)))
    → (static_of domains a, static_of domains b) ∷ others ≡ values → list_any is_broken (map cut_of values) ≡ false → list_any is_empty_cut (map cut_of values) ≡ false
    → AreIntervalsOf domains (pairs a b ps) (kept_axes (map cut_of values))
one-interval domains a b ps others values low high more same whole some =
    let first = first-trim (static_of domains a) (static_of domains b) (map cut_of others) (map cut_of values) (ap (map cut_of) same) whole some in
    subst (AreIntervalsOf domains (pairs a b ps)) (ap kept_axes first.cuts_are)
    (low, high, first.low, first.high, first.small, first.ordered, more first.unbroken first.filled)

intervals-bounds : (domains : List Box) (ps : Pairs) (values : List (Bound × Bound)) → bounds_of domains ps ≡ Ok values → list_any is_broken (map cut_of values) ≡ false
    → list_any is_empty_cut (map cut_of values) ≡ false
    → AreIntervalsOf domains ps (kept_axes (map cut_of values))
intervals-bounds domains no_pairs values is whole some =
    let P : List (Bound × Bound) → Type 0 = λ v. AreIntervalsOf domains no_pairs (kept_axes (map cut_of v)) in subst P (same_ok [] values is) tt
intervals-bounds domains (pairs a b ps) values is whole some =
    let one = bind_ok (shape_of domains a) (λ x. shape_of domains b >>= λ y. bounds_of domains ps >>= λ values. Ok ((static_of domains a, static_of domains b) ∷ values)) values is in
    let two = bind_ok (shape_of domains b) (λ y. bounds_of domains ps >>= λ values. Ok ((static_of domains a, static_of domains b) ∷ values)) values one.2 in
    let three = bind_ok (bounds_of domains ps) (λ values. Ok ((static_of domains a, static_of domains b) ∷ values)) values two.2 in
    one-interval domains a b ps three.0 values (one.0, one.1) (two.0, two.1) (intervals-bounds domains ps three.0 three.1)
    (same_ok ((static_of domains a, static_of domains b) ∷ three.0) values three.2) whole some

-- the box that a domain gives
literal-box : (domains : List Box) (span : Span) (ps : Pairs) (values : List (Bound × Bound)) (axes : Box) → bounds_of domains ps ≡ Ok values
    → written_box span (literal values) ≡ Ok axes → AreIntervalsOf domains ps axes
literal-box domains span ps values axes is gives =
    let one = unless_ok (list_any is_broken (map cut_of values)) _ _ axes gives in
    let two = unless_ok (list_any is_empty_cut (map cut_of values)) _ _ axes one.1 in
    subst (AreIntervalsOf domains ps) (same_ok _ axes two.1) (intervals-bounds domains ps values is one.0 two.0)

pub written-box : (domains : List Box) (span : Span) (domain : Domain) (written : Written) (axes : Box) → written_of domains domain ≡ Ok written
    → written_box span written ≡ Ok axes → IsBoxOf domains domain axes
written-box domains span (bounds ps) written axes is gives =
    let one = bind_ok (bounds_of domains ps) (λ values. Ok (literal values)) written is in
    literal-box domains span ps one.0 axes one.1 (ap (written_box span) (same_ok _ written one.2) ∙ gives)
written-box domains span (domain_like e) written axes is gives =
    let one = bind_ok (shape_of domains e) (λ x. Ok (taken (box_of x))) written is in
    (one.0, one.1, sym (same_ok _ axes (ap (written_box span) (same_ok _ written one.2) ∙ gives)))

-- the box does not depend on the place that a fault would have
elsewhere : (a b : Bool) (axes given : Box) (one two three four : ShapeMisfit) → (if a then Err one else if b then Err two else Ok axes) ≡ Ok given
    → (if a then Err three else if b then Err four else Ok axes) ≡ Ok given
elsewhere true b axes given one two three four is = absurd cc
elsewhere false true axes given one two three four is = absurd cc
elsewhere false false axes given one two three four is = ap (λ x. Ok x) (same_ok axes given is)

pub written_box-elsewhere : (span other : Span) (written : Written) (axes : Box) → written_box span written ≡ Ok axes → written_box other written ≡ Ok axes
written_box-elsewhere span other (taken whole) axes is = ap (λ x. Ok x) (same_ok whole axes is)
written_box-elsewhere span other (literal ends) axes is =
    elsewhere (list_any is_broken (map cut_of ends)) (list_any is_empty_cut (map cut_of ends)) (kept_axes (map cut_of ends)) axes (span, BoundOut) (span, EmptyDomain)
    (other, BoundOut) (other, EmptyDomain) is
