-- How large boxes are, in the numbers that the code has.
use Rattle.std.proofs.Common.{◌≡◌, ℕ, ◌*◌, ◌<◌, ◌≤◌, length, Bool, true, false, Ok, Err, refl, arith}
use Rattle.std.specs.Prelude.{◌||◌, nat_lt}
use Rattle.std.proofs.lemmas.Bool.Decides.{nat_tests}
use Rattle.ras_domain.specs.declared.TheConstants.{MAX_POINTS}
use Rattle.ras_domain.specs.Region.{IsRegion, points_of, volume_of}
use Rattle.ras_domain.proofs.BoxTests.{volume_of-points}
use Rattle.ras_syntax.specs.declared.limits.TheConstants.{MAX_STORED_NUMBERS}
use Rattle.ras_syntax.specs.declared.span.Span.{Span}
use Rattle.ras_syntax.specs.declared.faults.ShapeFault.{ShapeFault}
use Rattle.ras_syntax.specs.declared.faults.ShapeFault.TheVariants.{ArrayTooLarge}
use Rattle.spec_expressions.specs.Shape.{Box, fault_where, of_size}
use Rattle.spec_expressions.specs.Fits.{IsSound}

pub sound_region : (axes : Box) → IsRegion axes → IsSound axes
sound_region axes is = record { small_bounds = is.small_bounds; ordered = is.ordered; few_points = rw (volume_of-points axes) is.few_points }

-- a test that is false, and one that is true
lt-false : (a b : ℕ) → b ≤ a → nat_lt a b ≡ false
lt-false a b le = grind (arith, nat_tests)

lt-true : (a b : ℕ) → a < b → nat_lt a b ≡ true
lt-true a b lt = grind (arith, nat_tests)

second_is : (span : Span) (fault : ShapeFault) (axes : Box) (a b : Bool) → b ≡ true → fault_where (a || b) span fault axes ≡ Err (span, fault)
second_is span fault axes true b is = refl
second_is span fault axes false b is = rw is refl

neither_is : (span : Span) (fault : ShapeFault) (axes : Box) (a b : Bool) → a ≡ false → b ≡ false → fault_where (a || b) span fault axes ≡ Ok axes
neither_is span fault axes a b first second = rw (first, second) refl

first_is : (span : Span) (fault : ShapeFault) (axes : Box) (a b : Bool) → a ≡ true → fault_where (a || b) span fault axes ≡ Err (span, fault)
first_is span fault axes a b is = rw is refl

-- too many points, too many numbers, and neither
pub of_size-points : (span : Span) (width : ℕ) (axes : Box) → MAX_POINTS < length (points_of axes) → of_size span width axes ≡ Err (span, ArrayTooLarge)
of_size-points span width axes many =
    first_is span ArrayTooLarge axes (nat_lt MAX_POINTS (volume_of axes)) (nat_lt MAX_STORED_NUMBERS (volume_of axes * width))
    (lt-true MAX_POINTS (volume_of axes) (rw (volume_of-points axes) many))

pub of_size-numbers : (span : Span) (width v : ℕ) (axes : Box) → v ≡ length (points_of axes) → MAX_STORED_NUMBERS < v * width → of_size span width axes ≡ Err (span, ArrayTooLarge)
of_size-numbers span width v axes is many =
    second_is span ArrayTooLarge axes (nat_lt MAX_POINTS (volume_of axes)) (nat_lt MAX_STORED_NUMBERS (volume_of axes * width))
    (lt-true MAX_STORED_NUMBERS (volume_of axes * width) (rw (volume_of-points axes, ← is) many))

pub of_size-fits : (span : Span) (width v : ℕ) (axes : Box) → v ≡ length (points_of axes) → v ≤ MAX_POINTS → v * width ≤ MAX_STORED_NUMBERS → of_size span width axes ≡ Ok axes
of_size-fits span width v axes is points numbers =
    neither_is span ArrayTooLarge axes (nat_lt MAX_POINTS (volume_of axes)) (nat_lt MAX_STORED_NUMBERS (volume_of axes * width))
    (lt-false MAX_POINTS (volume_of axes) (rw (volume_of-points axes, ← is) points))
    (lt-false MAX_STORED_NUMBERS (volume_of axes * width) (rw (volume_of-points axes, ← is) numbers))

pub ruleset sizes = (of_size-points, of_size-numbers, of_size-fits)
