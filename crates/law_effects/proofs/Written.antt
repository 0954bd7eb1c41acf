-- The array that is written on a box: it is one of its set type.
use Rattle.std.proofs.Common.{◌≡◌, ◌*◌, ◌≤◌, ℤ, ◌≤ℤ◌, FitsSigned, Bool, true, List, [], ◌∷◌, length, map, Option, Some, None, IfSome, refl, ap, arith}
use Rattle.std.specs.Int.{w32}
use Rattle.std.specs.List.{AllByRecursion}
use Rattle.std.specs.Map.{lookup}
use Rattle.std.specs.Ordering.{int_cmp, is_eq}
use Rattle.std.specs.Cmp.Lexicographic.{slice_cmp}
use Rattle.std.proofs.lemmas.Int.{ints, int_max_is, int_min_is}
use Rattle.std.proofs.lemmas.List.Elements.{All-from_recursion, recursion_from_All}
use Rattle.std.proofs.lemmas.Map.Entries.{All-lookup}
use Rattle.ras_cells.specs.Atoms.{AreInRange}
use Rattle.ras_cells.specs.Stored.{atoms_of, default_of}
use Rattle.ras_cells.proofs.Storing.{AreInRange-default_of}
use Rattle.ras_domain.specs.declared.TheConstants.{MAX_POINTS}
use Rattle.ras_domain.specs.Region.{HasSmallBounds, IsOrdered, IsRegion, points_of, volume_of}
use Rattle.ras_domain.specs.Boxes.{hull_of, lies_in, LiesIn}
use Rattle.ras_syntax.specs.declared.types.SetType.{SetType}
use Rattle.spec_expressions.specs.Database.{Array, stored_at}
use Rattle.spec_expressions.specs.SetTypes.{IsSetType}
use Rattle.spec_expressions.specs.Shape.{Box}
use Rattle.spec_statements.specs.Effects.{Stores, number_after, option_flat, or_else, store_for, written_array}
use Rattle.spec_statements.specs.Plans.{tile_count}
use Rattle.spec_statements.specs.Validity.{IsArrayOf}
use Rattle.ras_domain.proofs.BoxTests.{LiesIn-lies_in, length-LiesIn, volume_of-points}
use Rattle.ras_syntax.specs.declared.limits.TheConstants.{MAX_TILES}

-- ---- a box that lies in another

-- a number between small ones is small
fits_between : (a z b : ℤ) → FitsSigned w32 a → FitsSigned w32 b → a ≤ℤ z → z ≤ℤ b → FitsSigned w32 z
fits_between a z b fits_a fits_b low high = omega (arith, ints)

-- ordered intervals within small ones are small
small_within : (small big : Box) → LiesIn small big → AllByRecursion IsOrdered small → AllByRecursion HasSmallBounds big → AllByRecursion HasSmallBounds small
small_within [] big lies ordered all = tt
small_within (axis ∷ axes) [] lies ordered all = absurd lies
small_within (axis ∷ axes) (big ∷ bigs) lies ordered all = (
  (
    fits_between big.lo axis.lo big.hi all.0.0 all.0.1 lies.0 (omega (arith, ints, lies.1, ordered.0)),
    fits_between big.lo axis.hi big.hi all.0.0 all.0.1 (omega (arith, ints, lies.0, ordered.0)) lies.1,
  ),
  small_within axes bigs lies.2 ordered.1 all.1,
)

-- a hull of two boxes lies where both lie
LiesIn-hull_of : (a b big : Box) → LiesIn a big → LiesIn b big → LiesIn (hull_of a b) big
LiesIn-hull_of [] b big first second = first
LiesIn-hull_of (x ∷ xs) b [] first second = absurd first
LiesIn-hull_of (x ∷ xs) [] (big ∷ bigs) first second = absurd second
LiesIn-hull_of (x ∷ xs) (y ∷ ys) (big ∷ bigs) first second =
    (omega (arith, ints, first.0, second.0, int_min_is x.lo y.lo), omega (arith, ints, first.1, second.1, int_max_is x.hi y.hi), LiesIn-hull_of xs ys bigs first.2 second.2)

pub lies_in-hull_of : (a b big : Box) → lies_in a big ≡ true → lies_in b big ≡ true → lies_in (hull_of a b) big ≡ true
lies_in-hull_of a b big first second =
    (LiesIn-lies_in (hull_of a b) big).1 (LiesIn-hull_of a b big ((LiesIn-lies_in a big).0 first) ((LiesIn-lies_in b big).0 second))

-- ---- what is stored

-- what holds of each value holds of the one that is found
pub found_each : {K X : Type 0} (P : X → Type 0) (test : K → Bool) (es : List (K × X)) → AllByRecursion (λ e. P e.1) es → IfSome (lookup test es) P
found_each P test es all = All-lookup P test es (All-from_recursion (λ e. P e.1) es all)

-- one of several numbers, each of which has it
or_else_keeps : (P : List ℤ → Type 0) (o : Option (List ℤ)) (zs : List ℤ) → IfSome o P → P zs → P (or_else o zs)
or_else_keeps P None zs first second = second
or_else_keeps P (Some x) zs first second = first

flat_keeps : (P : List ℤ → Type 0) (o : Option (Option (List ℤ))) → IfSome o (λ x. IfSome x P) → IfSome (option_flat o) P
flat_keeps P None all = tt
flat_keeps P (Some x) all = all

number_after-each : (P : List ℤ → Type 0) (of : SetType) (before : Array) (stores : Stores) (p : List ℤ) → P (default_of of.cell of.nulls).items
    → AllByRecursion (λ entry. P entry.1) before.stored → AllByRecursion (λ entry. IfSome entry.1 P) stores
    → P (number_after of before stores p)
number_after-each P of before stores p default stood put =
    or_else_keeps P (store_for p stores) _ (flat_keeps P _ (found_each (λ x. IfSome x P) (λ q. is_eq (slice_cmp int_cmp p q)) stores put))
    (or_else_keeps P (stored_at before p) _ (found_each P (λ q. is_eq (slice_cmp int_cmp p q)) before.stored stood) default)

-- points with their numbers
pub keys-paired : {X Y : Type 0} (f : X → Y) (xs : List X) → map (λ (entry : X × Y). entry.0) (map (λ x. (x, f x)) xs) ≡ xs
keys-paired f [] = refl
keys-paired f (x ∷ xs) = ap (λ l. x ∷ l) (keys-paired f xs)

each_paired : {X Y : Type 0} (P : Y → Type 0) (f : X → Y) → ((x : X) → P (f x)) → (xs : List X) → AllByRecursion (λ (entry : X × Y). P entry.1) (map (λ x. (x, f x)) xs)
each_paired P f gives [] = tt
each_paired P f gives (x ∷ xs) = (gives x, each_paired P f gives xs)

-- ---- the array

-- the limits on a written box
pub record IsLimited (of : SetType) (grown : Box) : Type 0 where
  pub few_points : volume_of grown ≤ MAX_POINTS
  pub few_numbers : volume_of grown * length (atoms_of of.cell) ≤ MAX_POINTS
  pub few_tiles : tile_count of.extents.items grown ≤ MAX_TILES

-- such a box is a region
IsRegion-within : (of : SetType) (grown : Box) → IsSetType of → AllByRecursion IsOrdered grown → lies_in grown of.bounds.items ≡ true → volume_of grown ≤ MAX_POINTS → IsRegion grown
IsRegion-within of grown type ordered within few =
    let lies : LiesIn grown of.bounds.items = (LiesIn-lies_in grown of.bounds.items).0 within in
    let same : length grown ≡ length of.bounds.items = length-LiesIn grown of.bounds.items lies in
    record {
      some_axes = omega (arith, same, type.some_axes);
      few_axes = omega (arith, same, type.few_axes);
      small_bounds = All-from_recursion HasSmallBounds grown (small_within grown of.bounds.items lies ordered (recursion_from_All HasSmallBounds of.bounds.items type.small_bounds));
      ordered = All-from_recursion IsOrdered grown ordered;
      few_points = omega (arith, volume_of-points grown, few);
    }

-- what a box has on which an array of the type may be written
pub record IsFit (of : SetType) (grown : Box) : Type 0 where
  pub ordered : AllByRecursion IsOrdered grown
  pub within : lies_in grown of.bounds.items ≡ true
  pub limited : IsLimited of grown

-- the array that is written on it is one of the type
pub IsArrayOf-written_array : (of : SetType) (before : Array) (grown : Box) (stores : Stores) → IsSetType of → IsFit of grown
    → AllByRecursion (λ entry. AreInRange (atoms_of of.cell) entry.1) before.stored → AllByRecursion (λ entry. IfSome entry.1 (AreInRange (atoms_of of.cell))) stores
    → IsArrayOf of (written_array of before grown stores)
IsArrayOf-written_array of before grown stores type fit stood put =
    let Fits : List ℤ → Type 0 = AreInRange (atoms_of of.cell) in
    record {
      region = IsRegion-within of grown type fit.ordered fit.within fit.limited.few_points;
      axes = length-LiesIn grown of.bounds.items ((LiesIn-lies_in grown of.bounds.items).0 fit.within);
      within_bounds = fit.within;
      few_numbers = fit.limited.few_numbers;
      few_tiles = fit.limited.few_tiles;
      each_point = keys-paired (number_after of before stores) (points_of grown);
      in_range = All-from_recursion (λ entry. Fits entry.1) _ (each_paired Fits (number_after of before stores)
          (λ p. number_after-each Fits of before stores p (AreInRange-default_of of.cell of.nulls type.nulls) stood put) (points_of grown));
    }
