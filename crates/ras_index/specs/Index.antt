-- An index of tiles: a finite map from places to values, and the places that are ready for a value.
use Rattle.std.specs.Prelude.{ℤ, List, ◌⊎◌, Contains, Option, refl, filter}
use Rattle.std.specs.Cmp.Lexicographic.{slice_cmp}
use Rattle.std.specs.Coded.{Coded, code_by, coded×, coded_list, coded_ℤ}
use Rattle.std.specs.Map.{keys_of, lookup}
use Rattle.std.specs.BTreeMap.{is_at}
use Rattle.std.specs.Ordering.{int_cmp}
use Rattle.std.specs.declared.cmp.Ordering.{Ordering}
use Rattle.ras_domain.specs.declared.region.Interval.{Interval}
use Rattle.ras_domain.specs.Region.{is_in}

-- row-major order compares places from the first axis on
abbrev pub row_major : List ℤ → List ℤ → Ordering
row_major = slice_cmp int_cmp

-- the places that have a value, each with its value, and the places that were made ready
pub record Index (V : Type 0) : Type 0 where
  pub entries : List (List ℤ × V)
  pub ready : List (List ℤ)

-- an index is stored as the pair of its fields
abbrev pub index_code : {V : Type 0} → Coded V → Coded (Index V)
index_code {V} code =
    code_by (List (List ℤ × V) × List (List ℤ)) (coded× (coded_list (coded× (coded_list coded_ℤ) code)) (coded_list (coded_list coded_ℤ)))
    (λ index. (index.entries, index.ready)) (λ fields. record { entries = fields.0; ready = fields.1 }) (λ _. refl)

-- the value at a place
abbrev pub value_at : {V : Type 0} → List (List ℤ × V) → List ℤ → Option V
value_at entries place = lookup (is_at (row_major place)) entries

-- a value put here takes no memory: the place has one already, or was made ready
abbrev pub IsReady : {V : Type 0} → Index V → List ℤ → Type 0
IsReady index place = Contains (keys_of index.entries) place ⊎ Contains index.ready place

-- the places in a box that have a value, in order
abbrev pub places_in : {V : Type 0} → List Interval → List (List ℤ × V) → List (List ℤ)
places_in box entries = keys_of (filter (λ entry. is_in entry.0 box) entries)
