-- The rows of a statement, as the code keeps them.
use Rattle.std.specs.Prelude.{◌≡◌, ℕ, ◌*◌, ◌≤◌, List, [], ◌∷◌, length, map, Vec}
use Rattle.std.specs.List.{zip}
use Rattle.std.specs.Global.{Global}
use Rattle.ras_syntax.specs.declared.typed.CheckedSource.{CheckedSource}
use Rattle.ras_syntax.specs.declared.limits.TheConstants.{MAX_ROWS}
use Rattle.spec_expressions.specs.Database.{Member}
use Rattle.spec_statements.specs.Rows.{Row, combinations, with_row_numbers}
use Rattle.spec_shown.specs.Shown.{member_shown}
use Rattle.spec_views.specs.Holdings.{Holdings}

-- the identifiers of a source's arrays
abbrev pub Oids : Type 0
Oids = Vec ℕ Global

-- the arrays of each source, by their identifiers
abbrev pub members_named : Holdings → List CheckedSource → List Oids → List (List Member)
members_named holdings sources oids = map (λ both. map (member_shown holdings both.0) both.1.items) (zip sources oids)

-- the rows of these arrays, numbered from 1
abbrev pub rows_named : Holdings → List CheckedSource → List Oids → List (ℕ × Row)
rows_named holdings sources oids = with_row_numbers 1 (combinations (members_named holdings sources oids))

-- how many rows there are
abbrev pub row_count : List Oids → ℕ
row_count [] = 1
row_count (first ∷ others) = length first.items * row_count others

pub record AreRowsKept (sources : List CheckedSource) (oids : List Oids) (count : ℕ) : Type 0 where
  pub each_source : length oids ≡ length sources
  pub counted : count ≡ row_count oids
  pub few : count ≤ MAX_ROWS

-- the arrays of a row, by their identifiers
abbrev pub row_named : Holdings → List CheckedSource → List ℕ → Row
row_named holdings sources oids = map (λ both. member_shown holdings both.0 both.1) (zip sources oids)
