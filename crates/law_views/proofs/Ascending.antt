-- Ascending lists of entries, and what a filter keeps.
use Rattle.std.proofs.Common.{◌≡◌, ◌⊎◌, inl, inr, arith, Contains, Bool, true, false, cond, List, [], ◌∷◌, filter, refl, sym, ap, ◌∙◌, subst, Ordering, Less, Equal}
use Rattle.std.specs.Cmp.{IsTotalOrder}
use Rattle.std.specs.List.{AllByRecursion}
use Rattle.std.specs.List.Sorted.{IsStrictlySortedBy}
use Rattle.std.specs.Map.{keys_of}
use Rattle.std.proofs.lemmas.Cmp.{tied_itself}
use Rattle.law_lists.proofs.Each.{each_contained, each_filter, each_itself}
use Rattle.law_lists.proofs.Elements.{Contains-here, Contains-map, Contains-there, first_or_later}

-- what passes is kept, and what is kept was there
pub Contains-filter : {X : Type 0} (test : X → Bool) (xs : List X) (x : X) → Contains xs x → test x ≡ true → Contains (filter test xs) x
Contains-filter test [] x has passes = absurd (omega (arith, has.1))
Contains-filter {X = X} test (y ∷ ys) x has passes =
    at (test y) refl (first_or_later x y ys has) (λ later. Contains-filter test ys x later passes)
  where
    at : (b : Bool) → test y ≡ b → ((y ≡ x) ⊎ Contains ys x) → (Contains ys x → Contains (filter test ys) x)
        → Contains (cond b (y ∷ filter test ys) (filter test ys)) x
    at true is (inl same) rest = subst (λ z. Contains (z ∷ filter test ys) x) (sym same) (Contains-here x (filter test ys))
    at true is (inr later) rest = Contains-there x y (filter test ys) (rest later)
    at false is (inl same) rest = absurd (let clash : true ≡ false = sym passes ∙ ap test (sym same) ∙ is in cc)
    at false is (inr later) rest = rest later

pub Contains-from_filter : {X : Type 0} (test : X → Bool) (xs : List X) (x : X) → Contains (filter test xs) x → Contains xs x
Contains-from_filter test xs x has = each_contained (Contains xs) (filter test xs) x (each_filter (Contains xs) test xs (each_itself xs)) has

-- no key is below itself
not_below : {K : Type 0} (R : K → K → Ordering) (total : IsTotalOrder R) (k : K) → R k k ≡ Less → ⊥
not_below R total k less = let clash : Less ≡ Equal = sym less ∙ tied_itself total k in cc

-- ascending lists with the same entries are the same
module _ {K X : Type 0} (R : K → K → Ordering) (total : IsTotalOrder R) where
  abbrev IsBelow : K → List (K × X) → Type 0
  IsBelow k es = AllByRecursion (λ y. R k y ≡ Less) (keys_of es)

  below_entry : (k : K) (es : List (K × X)) (e : K × X) → IsBelow k es → Contains es e → R k e.0 ≡ Less
  below_entry k es e below has = each_contained (λ y. R k y ≡ Less) (keys_of es) e.0 below (Contains-map (λ (entry : K × X). entry.0) es e has)

  heads : (e f : K × X) (es fs : List (K × X)) → IsBelow e.0 es → IsBelow f.0 fs → ((f ≡ e) ⊎ Contains fs e) → ((e ≡ f) ⊎ Contains es f) → e ≡ f
  heads e f es fs below_e below_f (inl same) other = sym same
  heads e f es fs below_e below_f (inr in_fs) (inl same) = same
  heads e f es fs below_e below_f (inr in_fs) (inr in_es) =
      absurd (not_below R total e.0 (total.trans e.0 f.0 e.0 (below_entry e.0 es f below_e in_es) (below_entry f.0 fs e below_f in_fs)))

  -- a later entry is no first one
  later_entry : (e f x : K × X) (es fs : List (K × X)) → e ≡ f → IsBelow e.0 es → Contains es x → ((f ≡ x) ⊎ Contains fs x) → Contains fs x
  later_entry e f x es fs same below has (inr later) = later
  later_entry e f x es fs same below has (inl is) =
      absurd (not_below R total e.0 (subst (λ y. R e.0 y.0 ≡ Less) (sym (same ∙ is)) (below_entry e.0 es x below has)))

  pub same_ascending : (es fs : List (K × X)) → IsStrictlySortedBy R (keys_of es) → IsStrictlySortedBy R (keys_of fs)
      → ((e : K × X) → Contains es e → Contains fs e) → ((e : K × X) → Contains fs e → Contains es e) → es ≡ fs
  unfolding IsStrictlySortedBy
  same_ascending [] [] sorted also within back = refl
  same_ascending [] (f ∷ fs) sorted also within back = let has = back f (Contains-here f fs) in absurd (omega (arith, has.1))
  same_ascending (e ∷ es) [] sorted also within back = let has = within e (Contains-here e es) in absurd (omega (arith, has.1))
  same_ascending (e ∷ es) (f ∷ fs) sorted also within back =
      let same : e ≡ f = heads e f es fs sorted.0 also.0 (first_or_later e f fs (within e (Contains-here e es))) (first_or_later f e es (back f (Contains-here f fs))) in
      let rest : es ≡ fs = same_ascending es fs sorted.1 also.1
      (λ x has. later_entry e f x es fs same sorted.0 has (first_or_later x f fs (within x (Contains-there x e es has))))
      (λ x has. later_entry f e x fs es (sym same) also.0 has (first_or_later x e es (back x (Contains-there x f fs has)))) in
      λ i. same i ∷ rest i
