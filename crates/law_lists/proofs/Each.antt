-- What holds of each element of a list.
use Rattle.std.proofs.Common.{◌≡◌, ℕ, zero, suc, ◌≤◌, Bool, true, false, List, [], ◌∷◌, ◌++◌, map, filter, flat_map, take, drop, length, All, Contains, Some, subst, arith}
use Rattle.std.specs.Prelude.{slice_get}
use Rattle.std.specs.List.{list_any, list_all, AllByRecursion, AllWithin}
use Rattle.std.proofs.lemmas.Bool.{and_parts, or_parts}
use Rattle.std.proofs.lemmas.Option.{get_or_from_slice_get, slice_get_within}
use Rattle.std.proofs.lemmas.List.Elements.{recursion_from_All, All-contains, All-contains_itself, All-filter, All-from_recursion}

-- what a list has at a place
pub slice_get-All : {X : Type 0} (P : X → Type 0) (xs : List X) (k : ℕ) (x : X) → All P xs → slice_get xs k ≡ Some x → P x
slice_get-All P xs k x all is = subst P (get_or_from_slice_get xs k x x is) (all k x (slice_get_within xs k x is))

-- what holds of each, where one thing implies the other
pub each_weaker : {X : Type 0} (P Q : X → Type 0) → ((x : X) → P x → Q x) → (xs : List X) → AllByRecursion P xs → AllByRecursion Q xs
each_weaker P Q gives [] all = tt
each_weaker P Q gives (x ∷ xs) all = (gives x all.0, each_weaker P Q gives xs all.1)

-- what holds of each of a list that is made of others
pub each_map : {X Y : Type 0} (P : X → Type 0) (Q : Y → Type 0) (f : X → Y) → ((x : X) → P x → Q (f x)) → (xs : List X) → AllByRecursion P xs → AllByRecursion Q (map f xs)
each_map P Q f gives [] all = tt
each_map P Q f gives (x ∷ xs) all = (gives x all.0, each_map P Q f gives xs all.1)

-- no element passes the test
pub none_passes : {X : Type 0} (test : X → Bool) (xs : List X) → list_any test xs ≡ false → AllByRecursion (λ x. test x ≡ false) xs
none_passes test [] is = tt
none_passes test (x ∷ xs) is = let both = or_parts (test x) (list_any test xs) is in (both.0, none_passes test xs both.1)

-- each does
pub each_passes : {X : Type 0} (test : X → Bool) (xs : List X) → list_all test xs ≡ true → AllByRecursion (λ x. test x ≡ true) xs
each_passes test [] is = tt
each_passes test (x ∷ xs) is = let both = and_parts (test x) (list_all test xs) is in (both.0, each_passes test xs both.1)

-- what holds of everything
pub each_any : {X : Type 0} (P : X → Type 0) → ((x : X) → P x) → (xs : List X) → AllByRecursion P xs
each_any P holds [] = tt
each_any P holds (x ∷ xs) = (holds x, each_any P holds xs)

-- what two things hold of, both hold of
pub each_both : {X : Type 0} (P Q R : X → Type 0) → ((x : X) → P x → Q x → R x) → (xs : List X) → AllByRecursion P xs → AllByRecursion Q xs → AllByRecursion R xs
each_both P Q R gives [] first second = tt
each_both P Q R gives (x ∷ xs) first second = (gives x first.0 second.0, each_both P Q R gives xs first.1 second.1)

pub each_filter : {X : Type 0} (P : X → Type 0) (test : X → Bool) (xs : List X) → AllByRecursion P xs → AllByRecursion P (filter test xs)
each_filter P test xs all =
    recursion_from_All P (filter test xs) (All-filter test P xs (All-from_recursion P xs all))

-- ---- lists that are joined or cut

-- what holds of the elements of two lists, one after the other
pub append_all : {X : Type 0} (P : X → Type 0) (xs ys : List X) → AllByRecursion P xs → AllByRecursion P ys → AllByRecursion P (xs ++ ys)
append_all P [] ys p q = q
append_all P (x ∷ xs) ys p q = (p.0, append_all P xs ys p.1 q)

pub split_all : {X : Type 0} (P : X → Type 0) (xs ys : List X) → AllByRecursion P (xs ++ ys) → AllByRecursion P xs × AllByRecursion P ys
split_all P [] ys all = (tt, all)
split_all P (x ∷ xs) ys all = let rest = split_all P xs ys all.1 in ((all.0, rest.0), rest.1)

pub each_flat_map : {X Y : Type 0} (P : X → Type 0) (Q : Y → Type 0) (f : X → List Y) → ((x : X) → P x → AllByRecursion Q (f x)) → (xs : List X) → AllByRecursion P xs
    → AllByRecursion Q (flat_map f xs)
each_flat_map P Q f gives [] all = tt
each_flat_map P Q f gives (x ∷ xs) all =
    append_all Q (f x) (flat_map f xs) (gives x all.0) (each_flat_map P Q f gives xs all.1)

-- of each element before a place
pub each_take : {X : Type 0} (P : X → Type 0) (xs : List X) (i : ℕ) → AllWithin P xs 0 i → i ≤ length xs → AllByRecursion P (take i xs)
each_take P xs zero all within = tt
each_take P [] (suc i) all within = tt
each_take P (x ∷ xs) (suc i) all within =
    (all 0 x (omega arith) (omega arith), each_take P xs i (λ k d low high. all (suc k) d (omega arith) (omega arith)) (omega arith))

-- of each element from a place on
pub each_drop : {X : Type 0} (P : X → Type 0) (xs : List X) (i : ℕ) → AllWithin P xs i (length xs) → AllByRecursion P (drop i xs)
each_drop P xs zero all = recursion_from_All P xs (λ k d within. all k d (omega arith) within)
each_drop P [] (suc i) all = tt
each_drop P (x ∷ xs) (suc i) all = each_drop P xs i (λ k d low high. all (suc k) d (omega arith) (omega arith))

-- ---- one element

-- what holds of each holds of an element
pub each_contained : {X : Type 0} (P : X → Type 0) (xs : List X) (x : X) → AllByRecursion P xs → Contains xs x → P x
each_contained P xs x all has = All-contains P xs x (All-from_recursion P xs all) has

-- the same of one at a place
pub each_found : {X : Type 0} (P : X → Type 0) (xs : List X) (i : ℕ) (x : X) → AllByRecursion P xs → slice_get xs i ≡ Some x → P x
each_found P xs i x all is = slice_get-All P xs i x (All-from_recursion P xs all) is

-- each element of a list is one of it
pub each_itself : {X : Type 0} (xs : List X) → AllByRecursion (Contains xs) xs
each_itself xs = recursion_from_All (Contains xs) xs (All-contains_itself xs)
