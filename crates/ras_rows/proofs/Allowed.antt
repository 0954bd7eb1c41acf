-- What may be written, in the numbers that the code has.
use Rattle.std.proofs.Common.{◌≡◌, ℕ, ◌*◌, ◌<◌, ◌≤◌, length, Bool, true, false, Ok, Err, refl, sym, ap, ◌∙◌, arith}
use Rattle.std.specs.Prelude.{◌||◌, nat_lt}
use Rattle.std.proofs.lemmas.Bool.Decides.{nat_tests}
use Rattle.ras_cells.specs.Stored.{atoms_of}
use Rattle.ras_domain.specs.declared.TheConstants.{MAX_POINTS}
use Rattle.ras_domain.specs.Boxes.{lies_in}
use Rattle.ras_domain.specs.Region.{points_of, volume_of}
use Rattle.ras_domain.proofs.BoxTests.{volume_of-points}
use Rattle.ras_grid.specs.Grid.{place_box, places_meeting}
use Rattle.ras_syntax.specs.declared.faults.ShapeFault.TheVariants.{ArrayTooLarge, Outside, TooManyTiles}
use Rattle.ras_syntax.specs.declared.limits.TheConstants.{MAX_STORED_NUMBERS, MAX_TILES}
use Rattle.ras_syntax.specs.declared.span.Span.{Span}
use Rattle.ras_syntax.specs.declared.types.SetType.{SetType}
use Rattle.spec_statements.specs.Plans.{Writing, allowed_writing, tile_count}

lt-false : (a b : ℕ) → b ≤ a → nat_lt a b ≡ false
lt-false a b le = grind (arith, nat_tests)

lt-true : (a b : ℕ) → a < b → nat_lt a b ≡ true
lt-true a b lt = grind (arith, nat_tests)

or-right : (a b : Bool) → b ≡ true → (a || b) ≡ true
or-right true b is = refl
or-right false b is = is

or-none : (a b : Bool) → a ≡ false → b ≡ false → (a || b) ≡ false
or-none true b first second = first
or-none false b first second = second

module _ (of : SetType) (span : Span) (writing : Writing) where
  pub outside : lies_in writing.region of.bounds.items ≡ false → allowed_writing of span writing ≡ Err (span, Outside)
  outside is = rw is refl

  module _ (inside : lies_in writing.region of.bounds.items ≡ true) where
    large : (nat_lt MAX_POINTS (volume_of writing.grown) || nat_lt MAX_STORED_NUMBERS (volume_of writing.grown * length (atoms_of of.cell))) ≡ true
        → allowed_writing of span writing ≡ Err (span, ArrayTooLarge)
    large is = rw (inside, is) refl

    pub many-points : MAX_POINTS < length (points_of writing.grown) → allowed_writing of span writing ≡ Err (span, ArrayTooLarge)
    many-points many =
        let is : nat_lt MAX_POINTS (volume_of writing.grown) ≡ true = lt-true MAX_POINTS (volume_of writing.grown) (rw (volume_of-points writing.grown) many) in
        large (ap (λ b. b || nat_lt MAX_STORED_NUMBERS (volume_of writing.grown * length (atoms_of of.cell))) is)

    module _ (volume width : ℕ) (volume_is : volume ≡ length (points_of writing.grown)) (width_is : width ≡ length (atoms_of of.cell)) where
      points : volume_of writing.grown ≡ volume
      points = volume_of-points writing.grown ∙ sym volume_is

      numbers : volume_of writing.grown * length (atoms_of of.cell) ≡ volume * width
      numbers = ap (λ v. v * length (atoms_of of.cell)) points ∙ ap (λ w. volume * w) (sym width_is)

      pub many-numbers : MAX_STORED_NUMBERS < volume * width → allowed_writing of span writing ≡ Err (span, ArrayTooLarge)
      many-numbers many =
          large (or-right (nat_lt MAX_POINTS (volume_of writing.grown)) (nat_lt MAX_STORED_NUMBERS (volume_of writing.grown * length (atoms_of of.cell)))
          (ap (λ n. nat_lt MAX_STORED_NUMBERS n) numbers ∙ lt-true MAX_STORED_NUMBERS (volume * width) many))

      module _ (few_points : volume ≤ MAX_POINTS) (few_numbers : volume * width ≤ MAX_STORED_NUMBERS) (tiles : ℕ) (tiles_is : tiles ≡ length (places_meeting of.extents.items writing.grown)) where
        small : (nat_lt MAX_POINTS (volume_of writing.grown) || nat_lt MAX_STORED_NUMBERS (volume_of writing.grown * length (atoms_of of.cell))) ≡ false
        small =
            or-none (nat_lt MAX_POINTS (volume_of writing.grown)) (nat_lt MAX_STORED_NUMBERS (volume_of writing.grown * length (atoms_of of.cell)))
            (ap (λ n. nat_lt MAX_POINTS n) points ∙ lt-false MAX_POINTS volume few_points)
            (ap (λ n. nat_lt MAX_STORED_NUMBERS n) numbers ∙ lt-false MAX_STORED_NUMBERS (volume * width) few_numbers)

        counted : tile_count of.extents.items writing.grown ≡ tiles
        counted = volume_of-points (place_box of.extents.items writing.grown) ∙ sym tiles_is

        pub many-tiles : MAX_TILES < tiles → allowed_writing of span writing ≡ Err (span, TooManyTiles)
        many-tiles many =
            let is : nat_lt MAX_TILES (tile_count of.extents.items writing.grown) ≡ true = ap (λ n. nat_lt MAX_TILES n) counted ∙ lt-true MAX_TILES tiles many in
            rw (inside, small, is) refl

        pub allowed : tiles ≤ MAX_TILES → allowed_writing of span writing ≡ Ok writing
        allowed few =
            let is : nat_lt MAX_TILES (tile_count of.extents.items writing.grown) ≡ false = ap (λ n. nat_lt MAX_TILES n) counted ∙ lt-false MAX_TILES tiles few in
            rw (inside, small, is) refl
