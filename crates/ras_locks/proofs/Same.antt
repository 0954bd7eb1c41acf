-- Two names that are found the same are one.
use Rattle.std.proofs.Common.{◌≡◌, ℕ, ℤ, Bool, true, false, ◌&&◌, List, [], ◌∷◌, refl, sym, ap, ◌∙◌, eqb-true, eq-eqb, eqb, int_eq}
use Rattle.std.specs.Prelude.{◌==◌}
use Rattle.std.proofs.lemmas.Bool.{and_parts, and_from}
use Rattle.std.proofs.lemmas.Bool.Decides.{Decides-int_eq}
use Rattle.std.proofs.lemmas.Cmp.{int_eq_equiv}
use lib.Pointwise.{pointwise}
use Rattle.ras_domain.specs.declared.lock.LockName.{LockName}
use Rattle.ras_domain.specs.declared.lock.LockName.TheVariants.{Collection, Domain, Tile}
use Rattle.ras_locks.specs.Tables.{equals_lock_name}

pub same_numbers : (xs ys : List ℕ) → pointwise eqb xs ys ≡ true → xs ≡ ys
same_numbers [] [] is = refl
same_numbers [] (y ∷ ys) is = absurd cc
same_numbers (x ∷ xs) [] is = absurd cc
same_numbers (x ∷ xs) (y ∷ ys) is =
    let both = and_parts (eqb x y) (pointwise eqb xs ys) is in
    let here : x ≡ y = eqb-true x y both.0 in
    let rest = same_numbers xs ys both.1 in
    cc

numbers_same : (xs : List ℕ) → pointwise eqb xs xs ≡ true
numbers_same [] = refl
numbers_same (x ∷ xs) = and_from (eqb x x) (pointwise eqb xs xs) (eq-eqb x x refl) (numbers_same xs)

same_int : (x y : ℤ) → int_eq x y ≡ true → x ≡ y
same_int x y = (Decides-int_eq x y).0

int_same : (x : ℤ) → int_eq x x ≡ true
int_same x = int_eq_equiv.refl x

same_ints : (xs ys : List ℤ) → pointwise int_eq xs ys ≡ true → xs ≡ ys
same_ints [] [] is = refl
same_ints [] (y ∷ ys) is = absurd cc
same_ints (x ∷ xs) [] is = absurd cc
same_ints (x ∷ xs) (y ∷ ys) is =
    let both = and_parts (int_eq x y) (pointwise int_eq xs ys) is in
    let here = same_int x y both.0 in
    let rest = same_ints xs ys both.1 in
    cc

ints_same : (xs : List ℤ) → pointwise int_eq xs xs ≡ true
ints_same [] = refl
ints_same (x ∷ xs) = and_from (int_eq x x) (pointwise int_eq xs xs) (int_same x) (ints_same xs)

pub same_name-true : (x y : LockName) → equals_lock_name x y ≡ true → x ≡ y
same_name-true (Collection name) (Collection other) is = ap Collection (same_numbers name other is)
same_name-true (Domain name id) (Domain other number) is =
    let both = and_parts (pointwise eqb name other) (eqb id number) is in
    let a = same_numbers name other both.0 in let b = eqb-true id number both.1 in cc
same_name-true (Tile name id place) (Tile other number spot) is =
    let parts = and_parts (pointwise eqb name other) (eqb id number && pointwise int_eq place.items spot.items) is in
    let later = and_parts (eqb id number) (pointwise int_eq place.items spot.items) parts.1 in
    let a = same_numbers name other parts.0 in let b = eqb-true id number later.0 in let d = same_ints place.items spot.items later.1 in
    λ i. Tile (a i) (b i) (record { items = d i })
same_name-true (Collection name) (Domain other number) is = absurd cc
same_name-true (Collection name) (Tile other number spot) is = absurd cc
same_name-true (Domain name id) (Collection other) is = absurd cc
same_name-true (Domain name id) (Tile other number spot) is = absurd cc
same_name-true (Tile name id place) (Collection other) is = absurd cc
same_name-true (Tile name id place) (Domain other number) is = absurd cc

pub same_name-refl : (x : LockName) → equals_lock_name x x ≡ true
same_name-refl (Collection name) = numbers_same name
same_name-refl (Domain name id) = and_from (pointwise eqb name name) (eqb id id) (numbers_same name) (eq-eqb id id refl)
same_name-refl (Tile name id place) =
    and_from (pointwise eqb name name) (eqb id id && pointwise int_eq place.items place.items) (numbers_same name)
    (and_from (eqb id id) (pointwise int_eq place.items place.items) (eq-eqb id id refl) (ints_same place.items))
