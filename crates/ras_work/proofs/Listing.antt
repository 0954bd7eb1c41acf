-- Lists that are gone through.
use Rattle.std.proofs.Common.{◌≡◌, ◌+◌, ◌<◌, ◌≤◌, ℕ, Bool, true, false, cond, not, eqb, List, [], ◌∷◌, ◌++◌, length, get_or, take, append_assoc, filter, flat_map, Less, sym, ap, ◌∙◌, subst}
use Rattle.std.specs.List.{AllByRecursion, list_any}
use Rattle.std.specs.List.Sorted.{IsStrictlySortedBy}
use Rattle.std.specs.Ordering.{nat_cmp}
use Rattle.std.proofs.lemmas.List.{append-nil, take_all, take_more}
use Rattle.law_lists.proofs.Each.{each_filter}
use Rattle.law_work.specs.ChangesFor.{identifiers_without}

sorted-filter : (test : ℕ → Bool) (ks : List ℕ) → IsStrictlySortedBy nat_cmp ks → IsStrictlySortedBy nat_cmp (filter test ks)
unfolding IsStrictlySortedBy
sorted-filter test [] sorted = tt
sorted-filter test (k ∷ ks) sorted = at (test k) (each_filter (λ q. nat_cmp k q ≡ Less) test ks sorted.0) (sorted-filter test ks sorted.1)
  where
    at : (b : Bool) → AllByRecursion (λ q. nat_cmp k q ≡ Less) (filter test ks) → IsStrictlySortedBy nat_cmp (filter test ks)
        → IsStrictlySortedBy nat_cmp (cond b (k ∷ filter test ks) (filter test ks))
    at true below rest = (below, rest)
    at false below rest = rest

-- what stays of ascending identifiers ascends
pub sorted-without : (gone ids : List ℕ) (n : ℕ) → length ids ≤ n → IsStrictlySortedBy nat_cmp ids → IsStrictlySortedBy nat_cmp (identifiers_without gone (take n ids))
sorted-without gone ids n whole sorted =
    subst (λ l. IsStrictlySortedBy nat_cmp (identifiers_without gone l)) (sym (take_all n ids whole)) (sorted-filter (λ id. not (list_any (eqb id) gone)) ids sorted)

flat_map-append : {X Y : Type 0} (f : X → List Y) (xs : List X) (x : X) → flat_map f (xs ++ x ∷ []) ≡ flat_map f xs ++ f x
flat_map-append f [] x = append-nil (f x)
flat_map-append f (y ∷ ys) x = ap (λ l. f y ++ l) (flat_map-append f ys x) ∙ sym (append_assoc (f y) (flat_map f ys) (f x))

-- one more of a list that is gone through
pub flat_map-more : {X Y : Type 0} (f : X → List Y) (xs : List X) (i : ℕ) (x : X) → i < length xs → x ≡ get_or xs i x → flat_map f (take (i + 1) xs) ≡ flat_map f (take i xs) ++ f x
flat_map-more f xs i x within is =
    ap (flat_map f) (take_more xs i x within ∙ ap (λ y. take i xs ++ y ∷ []) (sym is)) ∙ flat_map-append f (take i xs) x
