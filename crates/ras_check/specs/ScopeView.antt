-- A scope as it is kept: the variables, the outermost one first, and the sources by their iterators' names.
use Rattle.std.specs.Prelude.{◌≡◌, ℕ, List, [], ◌∷◌, map, reverse, drop, Option, option_map, Result, Ok, Err}
use Rattle.std.specs.Map.{lookup}
use Rattle.std.specs.Ordering.{nat_cmp}
use Rattle.std.specs.Cmp.Lexicographic.{slice_cmp}
use Rattle.std.specs.BTreeMap.{BTreeMap, get_by}
use Rattle.std.specs.Borrow.{Bor}
use Rattle.ras_syntax.specs.declared.typed.CheckedSource.{CheckedSource}
use Rattle.spec_expressions.specs.Tree.{NameOf}
use Rattle.spec_expressions.specs.Names.{Scope, source_from, with_variable}
use Rattle.ras_catalog.specs.declared.fault.CheckError.{CheckError}
use Rattle.ras_catalog.specs.declared.fault.CheckError.TheVariants.{Memory}
use Rattle.ras_check.specs.declared.scope.Variable.{Variable}
use Rattle.ras_check.specs.declared.scope.Place.{Place}
use Rattle.ras_check.specs.declared.scope.Scope.TheInside.{Inside}

abbrev pub variable_seen : Variable → NameOf × ℕ
variable_seen variable = (variable.name.now, variable.axes)

-- innermost first
abbrev pub variables_seen : List Variable → List (NameOf × ℕ)
variables_seen variables = map variable_seen (reverse variables)

abbrev pub place_seen : Place → ℕ × CheckedSource
place_seen place = (place.at, place.source.now)

abbrev pub scope_seen : Inside → Scope
scope_seen s = record { sources = s.sources.now; variables = variables_seen s.variables.items }

-- each name is kept with the first source from a place on whose iterator has it
pub record HasPlacesFrom (first : ℕ) (places : BTreeMap (Bor (List ℕ)) Place) (sources : List CheckedSource) : Type 0 where
  pub kept : (name : NameOf) → option_map place_seen (get_by (λ key. slice_cmp nat_cmp name key.now) places) ≡ source_from first name
      (drop first sources)

abbrev pub IsScope : Inside → Type 0
IsScope s = HasPlacesFrom 0 s.places s.sources.now

-- without the innermost variable
abbrev pub outer : {A : Type 0} → List A → List A
outer [] = []
outer (x ∷ xs) = xs

abbrev pub without_variable : Scope → Scope
without_variable scope = record scope { variables = outer scope.variables }

-- the variable is in scope, or the scope is as before, for want of memory or since the variable has no number of axes
abbrev pub Enters : NameOf → Scope → Result ℕ CheckError → Result (Unit {0}) CheckError → Scope → Type 0
Enters name old (Ok axes) (Ok done) new = new ≡ with_variable name axes old
Enters name old (Ok axes) (Err e) new = (e ≡ Memory) × (new ≡ old)
Enters name old (Err e) (Ok done) new = ⊥
Enters name old (Err e) (Err f) new = (f ≡ e) × (new ≡ old)
