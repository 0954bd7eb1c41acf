-- The exact sum of numbers.
use Rattle.std.specs.Prelude.{ℤ, pos, ◌+ℤ◌, List}
use Rattle.std.specs.List.{fold}

abbrev pub sum_of_all : List ℤ → ℤ
sum_of_all zs = fold (λ x y. x +ℤ y) (pos 0) zs
