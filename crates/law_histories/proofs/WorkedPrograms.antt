-- The worked programs are over types that may be declared and a valid database.
use Rattle.std.proofs.Common.{rules, ◌≡◌, ◌≢◌, ℕ, ◌-◌, ◌≤◌, ◌<◌, ℤ, ◌≤ℤ◌, Bool, true, false, nat_le, if◌then◌else◌, get_or, ap, List, [], ◌∷◌, Option, Some, None, refl, subst, arith, All}
use Rattle.std.specs.Prelude.{IsTrue, slice_get}
use Rattle.std.specs.List.Sorted.{IsStrictlySortedBy}
use Rattle.std.proofs.lemmas.List.Elements.{All-from_recursion}
use Rattle.std.proofs.lemmas.List.Kept.{AllPairs-cons}
use Rattle.ras_domain.specs.Region.{HasSmallBounds, IsOrdered, IsRegion}
use Rattle.ras_syntax.specs.Literals.{statement_numbers_fit}
use Rattle.ras_syntax.specs.declared.statement.Statement.{Statement}
use Rattle.ras_cells.specs.Atoms.{AreInRange, IsInRange}
use Rattle.ras_cells.specs.declared.atom.Atom.TheVariants.{Char, Wide}
use Rattle.ras_cells.specs.Stored.{atoms_of}
use Rattle.law_lists.proofs.Each.{slice_get-All}
use Rattle.spec_expressions.specs.SetTypes.{AreTypes, IsSetType}
use Rattle.spec_expressions.specs.Database.{Array}
use Rattle.spec_expressions.specs.Worked.{worked_array, char, four_and, square}
use Rattle.spec_statements.specs.Validity.{IsArrayOf, IsCollectionOver, IsValidFor}
use Rattle.spec_statements.specs.WorkedStatements.{base_database, create_H, declared, drop_H, grey, nil}
use Rattle.spec_histories.specs.History.{nth, statement_in}
use Rattle.spec_histories.specs.Serializable.{ArePrograms}
use Rattle.spec_histories.specs.Worked.{begin_word, create_K, programs}

-- ---- the types

abbrev IsNull : ℤ × ℤ → Type 0
IsNull ends = IsInRange Char ends.0 × IsInRange Char ends.1 × (ends.0 ≤ℤ ends.1)

grey-type : IsSetType grey
grey-type = record {
  some_axes = omega arith;
  few_axes = omega arith;
  small_bounds = All-from_recursion HasSmallBounds grey.bounds.items (search rules);
  ordered_bounds = All-from_recursion IsOrdered grey.bounds.items (search rules);
  each_extent = refl;
  some_extent = All-from_recursion (λ extent. 1 ≤ extent) grey.extents.items (search rules);
  few_cells = search rules;
  storable = All-from_recursion (λ atom. atom ≢ Wide) (atoms_of char) (λ is. absurd cc, tt);
  components = refl;
  nulls = All-from_recursion IsNull [] tt;
  few_nulls = omega arith;
  nulls_apart = λ i j d below within. absurd (omega arith);
}

nil-type : IsSetType nil
nil-type = record {
  some_axes = omega arith;
  few_axes = omega arith;
  small_bounds = All-from_recursion HasSmallBounds nil.bounds.items (search rules);
  ordered_bounds = All-from_recursion IsOrdered nil.bounds.items (search rules);
  each_extent = refl;
  some_extent = All-from_recursion (λ extent. 1 ≤ extent) nil.extents.items (search rules);
  few_cells = search rules;
  storable = All-from_recursion (λ atom. atom ≢ Wide) (atoms_of char) (λ is. absurd cc, tt);
  components = refl;
  nulls = All-from_recursion IsNull nil.nulls.items (search rules);
  few_nulls = omega arith;
  nulls_apart = λ i j d below within. absurd (omega arith);
}

names_two : grey.name ≢ nil.name
names_two is = let e : 71 ≡ 78 = ap (λ name. get_or name 0 0) is in omega (arith, e)

are_types : AreTypes declared
are_types = record {
  each = All-from_recursion IsSetType declared (grey-type, (nil-type, tt));
  few = omega arith;
  names_differ =
      AllPairs-cons (λ a b. a.name ≢ b.name) grey (nil ∷ []) (All-from_recursion (λ b. grey.name ≢ b.name) (nil ∷ []) (names_two, tt)) (λ i j d below within. absurd (omega arith));
}

-- ---- the database

region : IsRegion square
region = record {
  some_axes = omega arith;
  few_axes = omega arith;
  small_bounds = All-from_recursion HasSmallBounds square (search rules);
  ordered = All-from_recursion IsOrdered square (search rules);
  few_points = omega arith;
}

array_of_G : IsArrayOf grey (worked_array square (λ p. four_and p ∷ []))
array_of_G = record {
  region = region;
  axes = refl;
  within_bounds = refl;
  few_numbers = omega arith;
  few_tiles = omega arith;
  each_point = refl;
  in_range = All-from_recursion (λ entry. AreInRange (atoms_of char) entry.1) (worked_array square (λ p. four_and p ∷ [])).stored (search rules);
}

abbrev arrays : List (ℕ × Array)
arrays = (1, worked_array square (λ p. four_and p ∷ [])) ∷ []

valid_base : IsValidFor declared base_database
unfolding IsStrictlySortedBy
valid_base = record {
  ordered = (tt, tt);
  collections = All-from_recursion (λ entry. IsCollectionOver declared entry.1) base_database (
    record {
      of = grey;
      set_type = refl;
      some_next = omega arith;
      ordered = (tt, tt);
      identifiers = All-from_recursion (λ entry. (1 ≤ entry.0) × (entry.0 < 2)) arrays ((omega arith, omega arith), tt);
      arrays = All-from_recursion (λ entry. IsArrayOf grey entry.1) arrays (array_of_G, tt);
    },
    tt,
  );
}

-- ---- the statements

abbrev Fits : Option Statement → Type 0
Fits None = Unit {0}
Fits (Some statement) = IsTrue (statement_numbers_fit statement.form)

-- what holds of each holds of the one of a number
nth-All : {X : Type 0} (P : X → Type 0) (n : ℕ) (xs : List X) (x : X) → All P xs → nth n xs ≡ Some x → P x
nth-All P n xs x each is = slice_get-All P xs (n - 1) x each (picked (nat_le 1 n) (slice_get xs (n - 1)) x is)
  where
    picked : {X : Type 0} (b : Bool) (found : Option X) (x : X) → (if b then found else None) ≡ Some x → found ≡ Some x
    picked true found x is = is
    picked false found x is = absurd cc

statement-fits : (script : List (Option Statement)) (k : ℕ) (found : Option (Option Statement)) (statement : Statement) → All Fits script → nth k script ≡ found
    → elim found as (λ _. Option Statement) [ None ↦ None | Some one ↦ one ] ≡ Some statement → Fits (Some statement)
statement-fits script k None statement each at is = absurd cc
statement-fits script k (Some one) statement each at is = subst Fits is (nth-All Fits k script one each at)

script-fits : (session k : ℕ) (found : Option (List (Option Statement))) (statement : Statement) → All (All Fits) programs.scripts
    → nth session programs.scripts ≡ found → statement_in found k ≡ Some statement → Fits (Some statement)
script-fits session k None statement each at is = absurd cc
script-fits session k (Some script) statement each at is = statement-fits script k (nth k script) statement (nth-All (All Fits) session programs.scripts script each at) refl is

scripts-fit : All (All Fits) programs.scripts
scripts-fit = All-from_recursion (All Fits) programs.scripts (
  All-from_recursion Fits (Some begin_word ∷ Some create_H ∷ Some drop_H ∷ []) (refl, (refl, (refl, tt))),
  (
    All-from_recursion Fits (Some create_K ∷ None ∷ []) (refl, (tt, tt)),
    (All-from_recursion Fits (Some drop_H ∷ []) (refl, tt), tt),
  ),
)

pub are_programs : ArePrograms programs 2
are_programs = record {
  types_fit = are_types;
  valid = valid_base;
  identifiers = All-from_recursion (λ entry. entry.1.next ≤ 2) base_database (omega arith, tt);
  numbers_fit = λ session k statement is. script-fits session k (nth session programs.scripts) statement scripts-fit refl is;
}
