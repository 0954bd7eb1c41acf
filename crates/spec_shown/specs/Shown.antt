-- The rows of a statement as holdings show them. What isn't held is made up, so that there is a whole array for each
-- identifier: an array whose domain isn't held has one point, and a tile that isn't held has zeros. Nothing that a statement
-- asks for depends on what is made up.
use Rattle.std.specs.Prelude.{◌≡◌, ◌⊎◌, ℕ, ℤ, pos, List, [], map, filter, length, replicate, Option, Some, None}
use Rattle.std.specs.Cmp.Lexicographic.{slice_cmp}
use Rattle.std.specs.Map.{lookup}
use Rattle.std.specs.Ordering.{int_cmp, is_eq}
use Rattle.ras_cells.specs.Stored.{atoms_of}
use Rattle.ras_domain.specs.declared.lock.LockName.{LockName}
use Rattle.ras_domain.specs.declared.lock.LockName.TheVariants.{Collection, Domain, Tile}
use Rattle.ras_domain.specs.Region.{points_of}
use Rattle.ras_grid.specs.Grid.{tile_place}
use Rattle.ras_syntax.specs.declared.types.SetType.{SetType}
use Rattle.ras_syntax.specs.declared.typed.CheckedSource.{CheckedSource}
use Rattle.spec_expressions.specs.Database.{Array, Database, Member}
use Rattle.spec_expressions.specs.Shape.{Box}
use Rattle.spec_expressions.specs.Tree.{NameOf}
use Rattle.spec_statements.specs.Rows.{Row, asked_of, combinations, is_asked, member_of, rows_of, sources_of, where_of}
use Rattle.spec_statements.specs.Statement.{Request}
use Rattle.spec_views.specs.Holdings.{Holding, Holdings, collection_held, domain_held, holding_at, tile_held}

-- all that is held is as in the database. Holdings of which this is so for a valid database are valid themselves
abbrev pub IsPartOf : List SetType → Holdings → Database → Type 0
IsPartOf types holdings database = (name : LockName) → (holdings name ≡ None) ⊎ (holdings name ≡ holding_at types name database)

-- ---- arrays

-- the point at the least bounds of a type, as a domain
abbrev pub least_domain : SetType → Box
least_domain of = map (λ axis. record { lo = axis.lo; hi = axis.lo }) of.bounds.items

abbrev pub domain_shown : SetType → Option Holding → Box
domain_shown of (Some (domain_held domain)) = domain
domain_shown of other = least_domain of

-- a zero for each component
abbrev pub zeros_of : SetType → List ℤ
zeros_of of = replicate (length (atoms_of of.cell)) (pos 0)

abbrev pub numbers_or_zeros : SetType → Option (List ℤ) → List ℤ
numbers_or_zeros of (Some numbers) = numbers
numbers_or_zeros of None = zeros_of of

-- the stored numbers of a point by what is held of its tile
abbrev pub numbers_shown : SetType → Option Holding → List ℤ → List ℤ
numbers_shown of (Some (tile_held entries)) p = numbers_or_zeros of (lookup (λ q. is_eq (slice_cmp int_cmp p q)) entries)
numbers_shown of other p = zeros_of of

-- the lock name of the tile that has a point
abbrev pub numbers_at : SetType → Holdings → List ℕ → ℕ → List ℤ → List ℤ
numbers_at of holdings name id p =
    numbers_shown of (holdings (Tile name id (record { items = tile_place of.extents.items p }))) p

abbrev pub array_within : SetType → Holdings → List ℕ → ℕ → Box → Array
array_within of holdings name id domain =
    record { domain = domain; stored = map (λ p. (p, numbers_at of holdings name id p)) (points_of domain) }

-- the array of an identifier in a collection of this set type
abbrev pub array_shown : SetType → Holdings → List ℕ → ℕ → Array
array_shown of holdings name id = array_within of holdings name id (domain_shown of (holdings (Domain name id)))

-- ---- rows

abbrev pub identifiers_held : Option Holding → List ℕ
identifiers_held (Some (collection_held set_type next identifiers)) = identifiers
identifiers_held other = []

abbrev pub member_shown : Holdings → CheckedSource → ℕ → Member
member_shown holdings source id = member_of source (id, array_shown source.of holdings source.collection id)

-- the identifiers that an iterator goes over
abbrev pub identifiers_shown : Holdings → List (NameOf × ℤ) → CheckedSource → List ℕ
identifiers_shown holdings asked source =
    filter (λ id. is_asked asked source.iterator id) (identifiers_held (holdings (Collection source.collection)))

-- the arrays that it goes over
abbrev pub members_shown : Holdings → List (NameOf × ℤ) → CheckedSource → List Member
members_shown holdings asked source = map (member_shown holdings source) (identifiers_shown holdings asked source)

abbrev pub rows_shown : Request → Holdings → List Row
rows_shown request holdings = combinations (map (members_shown holdings (asked_of (where_of request))) (sources_of request))

-- a database over which a statement has just these rows. All that it asks for and computes is a function of them
abbrev pub IsShownBy : Holdings → Request → Database → Type 0
IsShownBy holdings request database = rows_of request database ≡ rows_shown request holdings
