-- The types of an outline are such as may be declared: each line is tested behind the earlier ones.
use Rattle.std.proofs.Common.{◌≡◌, ◌≢◌, ℕ, suc, ◌*◌, ◌≤◌, ℤ, ◌≤ℤ◌, ◌<ℤ◌, Bool, true, false, not, ◌&&◌, leb, List, [], ◌∷◌, ◌++◌, length, length-append, All, refl, sym, ap, ◌∙◌, subst, arith}
use Rattle.std.specs.Prelude.{int_le, int_lt}
use Rattle.std.specs.List.{AllPairs, fold, list_all}
use Rattle.std.proofs.lemmas.Bool.{and_parts, eqb-true, leb-true, ltb-true}
use Rattle.std.proofs.lemmas.List.Elements.{All-append, All-cons, All-from_recursion, All-nil}
use Rattle.std.proofs.lemmas.List.Kept.{AllPairs-cons}
use Rattle.ras_cells.specs.declared.TheConstants.{MAX_COMPONENTS, MAX_NULLS}
use Rattle.ras_cells.specs.declared.atom.Atom.{Atom}
use Rattle.ras_cells.specs.declared.atom.Atom.TheVariants.{Wide}
use Rattle.ras_cells.specs.declared.cell.CellType.{CellType}
use Rattle.ras_cells.specs.declared.cell.CellType.TheVariants as types
use Rattle.ras_cells.specs.Atoms.{IsInRange, is_in_range}
use Rattle.ras_cells.specs.Stored.{IsNullSetOf, atoms_of}
use Rattle.ras_domain.specs.declared.TheConstants.{MAX_AXES, MAX_TILE_CELLS}
use Rattle.ras_domain.specs.declared.region.Interval.{Interval}
use Rattle.ras_domain.specs.Region.{HasSmallBounds, IsOrdered}
use Rattle.ras_syntax.specs.declared.limits.TheConstants.{MAX_TYPES}
use Rattle.ras_syntax.specs.declared.types.SetType.{SetType}
use Rattle.spec_expressions.specs.SetTypes.{AreTypes, HasComponents, IsSetType}
use Rattle.spec_grammar.specs.Tokens.{Text, is_same}
use Rattle.law_lists.proofs.Each.{each_passes, each_weaker, none_passes}
use Rattle.spec_workloads.specs.TypeLines.{are_all_apart, has_components, is_bounded_axis, is_null_set, is_one_to, is_set_type, is_small_bound, is_wide, may_be_declared}

-- ---- tests

int_le-true : (y z : ℤ) → int_le y z ≡ true → y ≤ℤ z
int_le-true y z is = grind arith

int_lt-true : (y z : ℤ) → int_lt y z ≡ true → y <ℤ z
int_lt-true y z is = grind arith

pub not-true : (b : Bool) → not b ≡ true → b ≡ false
not-true true is = absurd cc
not-true false is = refl

-- what each element passes, each has
passing : {X : Type 0} (test : X → Bool) (P : X → Type 0) → ((x : X) → test x ≡ true → P x) → (xs : List X) → list_all test xs ≡ true → All P xs
passing test P tells xs is = All-from_recursion P xs (each_weaker (λ x. test x ≡ true) P tells xs (each_passes test xs is))

apart_pairs : {X : Type 0} (test : X → X → Bool) (R : X → X → Type 0) → ((x y : X) → test x y ≡ true → R x y) → (xs : List X)
    → are_all_apart test xs ≡ true → AllPairs R xs
apart_pairs test R tells [] is = λ i j d below within. absurd (omega arith)
apart_pairs test R tells (x ∷ xs) is =
    let parts = and_parts (list_all (test x) xs) (are_all_apart test xs) is in
    AllPairs-cons R x xs (passing (test x) (R x) (tells x) xs parts.0) (apart_pairs test R tells xs parts.1)

is_same-refl : (text : Text) → is_same text text ≡ true
is_same-refl [] = refl
is_same-refl (b ∷ bytes) = grind (arith, is_same-refl bytes)

pub differ : (a b : Text) → is_same a b ≡ false → a ≢ b
differ a b is same = let e : true ≡ false = sym (is_same-refl a) ∙ ap (λ t. is_same a t) same ∙ is in absurd cc

one_to : (most n : ℕ) → is_one_to most n ≡ true → (1 ≤ n) × (n ≤ most)
one_to most n is = let parts = and_parts _ _ is in (leb-true 1 n parts.0, leb-true n most parts.1)

-- ---- one type

abbrev differing : Text → Text → Bool
differing a b = not (is_same a b)

differing-tells : (a b : Text) → differing a b ≡ true → a ≢ b
differing-tells a b is = differ a b (not-true (is_same a b) is)

axis-small : (axis : Interval) → is_bounded_axis axis ≡ true → HasSmallBounds axis
axis-small axis is = grind arith

axis-ordered : (axis : Interval) → is_bounded_axis axis ≡ true → IsOrdered axis
axis-ordered axis is = int_le-true axis.lo axis.hi (and_parts (is_small_bound axis.lo && is_small_bound axis.hi) (int_le axis.lo axis.hi) is).1

wide-tells : (atom : Atom) → not (is_wide atom) ≡ true → atom ≢ Wide
wide-tells atom is same = let e : not (is_wide Wide) ≡ true = subst (λ a. not (is_wide a) ≡ true) same is in absurd cc

components-tell : (cell : CellType) (names : List Text) → has_components cell names ≡ true → HasComponents cell names
components-tell (types.Atom atom) [] is = refl
components-tell (types.Atom atom) (name ∷ names) is = absurd cc
components-tell (types.Composite atoms) names is =
    let parts = and_parts _ _ is in
    let front = and_parts _ _ parts.0 in
    let count = one_to MAX_COMPONENTS (length atoms.items) front.0 in
    (count.0, count.1, eqb-true (length names) (length atoms.items) front.1, apart_pairs differing (λ a b. a ≢ b) differing-tells names parts.1)

in_range-tells : (atom : Atom) (z : ℤ) → is_in_range atom z ≡ true → IsInRange atom z
in_range-tells atom z is = let parts = and_parts _ _ is in (int_le-true _ z parts.0, int_le-true z _ parts.1)

nulls-tell : (cell : CellType) (nulls : List (ℤ × ℤ)) → is_null_set cell nulls ≡ true → IsNullSetOf cell nulls
nulls-tell (types.Atom atom) nulls is =
    passing (λ ends. is_in_range atom ends.0 && is_in_range atom ends.1 && int_le ends.0 ends.1)
    (λ ends. IsInRange atom ends.0 × IsInRange atom ends.1 × (ends.0 ≤ℤ ends.1)) each nulls is
  where
    each : (ends : ℤ × ℤ) → (is_in_range atom ends.0 && is_in_range atom ends.1 && int_le ends.0 ends.1) ≡ true
        → IsInRange atom ends.0 × IsInRange atom ends.1 × (ends.0 ≤ℤ ends.1)
    each ends is =
        let parts = and_parts _ _ is in
        let front = and_parts _ _ parts.0 in
        (in_range-tells atom ends.0 front.0, in_range-tells atom ends.1 front.1, int_le-true ends.0 ends.1 parts.1)
nulls-tell (types.Composite atoms) [] is = refl
nulls-tell (types.Composite atoms) (ends ∷ nulls) is = absurd cc

set_type-tells : (of : SetType) → is_set_type of ≡ true → IsSetType of
set_type-tells of is =
    let apart = and_parts _ _ is in
    let few = and_parts _ _ apart.0 in
    let nulls = and_parts _ _ few.0 in
    let components = and_parts _ _ nulls.0 in
    let stored = and_parts _ _ components.0 in
    let cells = and_parts _ _ stored.0 in
    let some = and_parts _ _ cells.0 in
    let extents = and_parts _ _ some.0 in
    let axes = and_parts _ _ extents.0 in
    let count = one_to MAX_AXES (length of.bounds.items) axes.0 in
    record {
      some_axes = count.0;
      few_axes = count.1;
      small_bounds = passing is_bounded_axis HasSmallBounds axis-small of.bounds.items axes.1;
      ordered_bounds = passing is_bounded_axis IsOrdered axis-ordered of.bounds.items axes.1;
      each_extent = eqb-true (length of.extents.items) (length of.bounds.items) extents.1;
      some_extent = passing (λ extent. leb 1 extent) (λ extent. 1 ≤ extent) (λ extent. leb-true 1 extent) of.extents.items some.1;
      few_cells = leb-true (fold ◌*◌ 1 of.extents.items) MAX_TILE_CELLS cells.1;
      storable = passing (λ atom. not (is_wide atom)) (λ atom. atom ≢ Wide) wide-tells (atoms_of of.cell) stored.1;
      components = components-tell of.cell of.names components.1;
      nulls = nulls-tell of.cell of.nulls.items nulls.1;
      few_nulls = leb-true (length of.nulls.items) MAX_NULLS few.1;
      nulls_apart = apart_pairs (λ a b. int_lt a.1 b.0) (λ a b. a.1 <ℤ b.0) (λ a b. int_lt-true a.1 b.0) of.nulls.items apart.1;
    }

-- ---- one type more

pub AllPairs-behind : {X : Type 0} (R : X → X → Type 0) (xs : List X) (x : X) → AllPairs R xs → All (λ y. R y x) xs → AllPairs R (xs ++ x ∷ [])
AllPairs-behind R [] x pairs each = AllPairs-cons R x [] (All-nil (R x)) (λ i j d below within. absurd (omega arith))
AllPairs-behind R (y ∷ ys) x pairs each =
    AllPairs-cons R y (ys ++ x ∷ []) (All-append (R y) ys (x ∷ []) first (All-cons (R y) x [] (each 0 y (omega arith)) (All-nil (R y))))
    (AllPairs-behind R ys x (λ i j d below within. pairs (suc i) (suc j) d (omega (arith, below)) (omega (arith, within))) (λ k d within. each (suc k) d (omega (arith, within))))
  where
    first : All (R y) ys
    first k d within = pairs 0 (suc k) d (omega arith) (omega (arith, within))

pub types-more : (earlier : List SetType) (of : SetType) → may_be_declared earlier of ≡ true → AreTypes earlier → AreTypes (earlier ++ of ∷ [])
types-more earlier of may are =
    let parts = and_parts _ _ may in
    let front = and_parts _ _ parts.0 in
    record {
      each = All-append IsSetType earlier (of ∷ []) are.each (All-cons IsSetType of [] (set_type-tells of parts.1) (All-nil IsSetType));
      few = simp length-append (omega (arith, ltb-true (length earlier) MAX_TYPES front.0));
      names_differ = AllPairs-behind (λ a b. a.name ≢ b.name) earlier of are.names_differ
          (All-from_recursion (λ other. other.name ≢ of.name) earlier
          (each_weaker (λ other. is_same other.name of.name ≡ false) (λ other. other.name ≢ of.name) (λ other. differ other.name of.name) earlier
          (none_passes (λ other. is_same other.name of.name) earlier (not-true _ front.1))));
    }
