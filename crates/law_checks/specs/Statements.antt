-- When a request keeps the rules of the check, over the types and the collections of a catalog.
use Rattle.std.specs.Prelude.{◌≡◌, ◌≢◌, ℕ, ◌<◌, IsTrue, List, [], ◌∷◌, length, Option, Some, None, All, AllPairs}
use Rattle.ras_cells.specs.declared.cell.CellType.{CellType}
use Rattle.ras_syntax.specs.declared.types.SetType.{SetType}
use Rattle.ras_syntax.specs.declared.typed.Kind.TheVariants.{Array}
use Rattle.ras_syntax.specs.declared.typed.CheckedSource.{CheckedSource}
use Rattle.spec_expressions.specs.Tree.{NameOf, Tree, Axes, Condition}
use Rattle.spec_expressions.specs.Kinds.{stores}
use Rattle.spec_expressions.specs.Check.{are_numbers, all_are_static, count_of}
use Rattle.spec_statements.specs.CheckStatement.{Catalog, collection_type, axes_of_set_type, is_result}
use Rattle.spec_expressions.specs.WellTyped.{IsWellTyped, AreWellTypedAxes, IsWellTypedCondition, kind_in}
use Rattle.spec_statements.specs.Statement.{Request, select, insert, delete, update, create, drop}

-- the source's collection is in the catalog, with the source's type
abbrev pub IsSourceIn : Catalog → CheckedSource → Type 0
IsSourceIn catalog source = collection_type catalog source.collection ≡ Some source.of

-- the expression is an array with so many axes, whose cells the type stores
pub record IsStoredArray (of : SetType) (axes : ℕ) (body : Tree) : Type 0 where
  pub cell : CellType
  pub kind : kind_in body ≡ Array cell axes
  pub stored : IsTrue (stores cell of.cell)

-- the condition may stand after where
abbrev pub IsTest : List CheckedSource → Condition → Type 0
IsTest sources = IsWellTypedCondition sources []

pub record IsWellTypedSelect (catalog : Catalog) (body : Tree) (sources : List CheckedSource) (condition : Condition) : Type 0 where
  pub known : All (IsSourceIn catalog) sources
  pub iterators_differ : AllPairs (λ a b. a.iterator ≢ b.iterator) sources
  pub body_typed : IsWellTyped sources [] body
  -- a scalar, an array, or the domain of an array
  pub result : IsTrue (is_result body)
  pub condition_typed : IsTest sources condition

pub record IsWellTypedInsert (catalog : Catalog) (into : NameOf) (of : SetType) (body : Tree) : Type 0 where
  pub known : collection_type catalog into ≡ Some of
  pub body_typed : IsWellTyped [] [] body
  pub stored : IsStoredArray of (axes_of_set_type of) body

pub record IsWellTypedDelete (catalog : Catalog) (source : CheckedSource) (condition : Condition) : Type 0 where
  pub known : IsSourceIn catalog source
  pub condition_typed : IsTest (source ∷ []) condition

-- as many static numbers, or pairs of them, as the type has axes
pub record IsTargetOf (source : CheckedSource) (axes : Axes) : Type 0 where
  pub typed : AreWellTypedAxes (source ∷ []) [] axes
  pub count : count_of axes ≡ axes_of_set_type source.of
  pub numbers : IsTrue (are_numbers axes)
  pub static : IsTrue (all_are_static axes)

abbrev pub IsTarget : CheckedSource → Option Axes → Type 0
IsTarget source None = Unit {0}
IsTarget source (Some axes) = IsTargetOf source axes

-- what is written to a region may have another number of axes: that it has the region's domain is seen with its shape
abbrev pub IsWritten : SetType → Option Axes → Tree → Type 0
IsWritten of None body = IsStoredArray of (axes_of_set_type of) body
IsWritten of (Some axes) body = (n : ℕ) × IsStoredArray of n body

pub record IsWellTypedUpdate (catalog : Catalog) (source : CheckedSource) (axes : Option Axes) (body : Tree) (condition : Condition) : Type 0 where
  pub known : IsSourceIn catalog source
  pub target : IsTarget source axes
  pub body_typed : IsWellTyped (source ∷ []) [] body
  pub written : IsWritten source.of axes body
  pub condition_typed : IsTest (source ∷ []) condition

-- the name is free, and the type is one of the catalog's
pub record IsWellTypedCreate (catalog : Catalog) (name : NameOf) (of : ℕ) : Type 0 where
  pub free : collection_type catalog name ≡ None
  pub known : of < length catalog.types

abbrev pub IsWellTypedRequest : Catalog → Request → Type 0
IsWellTypedRequest catalog (select body sources condition) = IsWellTypedSelect catalog body sources condition
IsWellTypedRequest catalog (insert into of body) = IsWellTypedInsert catalog into of body
IsWellTypedRequest catalog (delete source condition) = IsWellTypedDelete catalog source condition
IsWellTypedRequest catalog (update source axes target body condition) = IsWellTypedUpdate catalog source axes body condition
IsWellTypedRequest catalog (create name of) = IsWellTypedCreate catalog name of
IsWellTypedRequest catalog (drop name) = (of : SetType) × (collection_type catalog name ≡ Some of)
