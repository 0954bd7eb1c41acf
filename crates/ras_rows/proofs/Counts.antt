-- How many rows there are, and which row stands at a place.
use Rattle.std.proofs.Common.{◌≡◌, ◌⊎◌, inl, inr, ℕ, zero, suc, ◌+◌, ◌*◌, ◌-◌, ◌^◌, ◌<◌, ◌≤◌, List, [], ◌∷◌, ◌++◌, length, map, min, drop, get_or, Some, refl, sym, ap, ◌∙◌, arith}
use Rattle.std.specs.List.{flat_map, slice_get}
use Rattle.std.specs.Option.{option_map}
use Rattle.std.specs.Bool.{IsTrue}
use Rattle.std.specs.Prelude.{nat_eq}
use Rattle.std.proofs.lemmas.Bool.{cases_lt}
use Rattle.std.proofs.lemmas.Bool.Decides.{nat_tests}
use Rattle.std.proofs.lemmas.List.{at_drop_more, length-map, length-append}
use Rattle.std.proofs.lemmas.Option.{slice_get-map, slice_get_within}
use Rattle.ras_syntax.specs.declared.limits.TheConstants.{MAX_ROWS}
use Rattle.ras_syntax.specs.declared.typed.CheckedSource.{CheckedSource}
use Rattle.spec_expressions.specs.Database.{Member}
use Rattle.spec_statements.specs.Rows.{Row, combinations, with_row_numbers}
use Rattle.spec_shown.specs.Shown.{member_shown}
use Rattle.spec_views.specs.Holdings.{Holdings}
use Rattle.ras_rows.specs.RowsKept.{AreRowsKept, Oids, members_named, row_count, rows_named}

-- ---- combinations

length-pieces : {X A : Type 0} (f : X → List A) (n : ℕ) → ((x : X) → length (f x) ≡ n) → (xs : List X) → length (flat_map f xs) ≡ length xs * n
length-pieces f n same [] = omega arith
length-pieces f n same (x ∷ xs) =
    omega (arith, length-append (f x) (flat_map f xs), same x, length-pieces f n same xs)

pub length-combinations : (members : List Member) (others : List (List Member)) → length (combinations (members ∷ others)) ≡ length members * length (combinations others)
length-combinations members others =
    length-pieces (λ (m : Member). map (λ (row : Row). m ∷ row) (combinations others)) (length (combinations others)) (λ m. length-map (combinations others) (λ (row : Row). m ∷ row)) members

-- an element of the first, and of the second, of two joined lists
at-left : {A : Type 0} (xs ys : List A) (k : ℕ) → k < length xs → slice_get (xs ++ ys) k ≡ slice_get xs k
at-left [] ys k h = absurd (omega arith)
at-left (x ∷ xs) ys zero h = refl
at-left (x ∷ xs) ys (suc k) h = at-left xs ys k (omega arith)

at-right : {A : Type 0} (xs ys : List A) (k n : ℕ) → n ≡ length xs + k → slice_get (xs ++ ys) n ≡ slice_get ys k
at-right [] ys k n e = ap (slice_get ys) (omega arith)
at-right (x ∷ xs) ys k zero e = absurd (omega arith)
at-right (x ∷ xs) ys k (suc n) e = at-right xs ys k n (omega arith)

-- the row that begins with the j-th member and goes on as the k-th row of the others
pub combination-at : (members : List Member) (others : List (List Member)) (j k place : ℕ) (m : Member) (row : Row) → place ≡ j * length (combinations others) + k
    → slice_get members j ≡ Some m → slice_get (combinations others) k ≡ Some row → slice_get (combinations (members ∷ others)) place ≡ Some (m ∷ row)
combination-at [] others j k place m row e first rest = absurd cc
combination-at (n ∷ members) others zero k place m row e first rest =
    let within : k < length (combinations others) = slice_get_within (combinations others) k row rest in
    let same : place ≡ k = omega arith in
    let is : n ≡ m = cc in
    rw (same, is) (at-left (map (λ (r : Row). m ∷ r) (combinations others)) (flat_map (λ (x : Member). map (λ (r : Row). x ∷ r) (combinations others)) members) k
    (omega (arith, length-map (combinations others) (λ (r : Row). m ∷ r)))
    ∙ slice_get-map (λ (r : Row). m ∷ r) (combinations others) k ∙ ap (option_map (λ (r : Row). m ∷ r)) rest)
combination-at (n ∷ members) others (suc j) k place m row e first rest =
    at-right (map (λ (r : Row). n ∷ r) (combinations others)) (flat_map (λ (x : Member). map (λ (r : Row). x ∷ r) (combinations others)) members) (j * length (combinations others) + k) place
    (omega (arith, length-map (combinations others) (λ (r : Row). n ∷ r)))
    ∙ combination-at members others j k (j * length (combinations others) + k) m row refl first rest

-- ---- how many there are

pub length-rows : (holdings : Holdings) (sources : List CheckedSource) (oids : List Oids) → length oids ≡ length sources
    → length (combinations (members_named holdings sources oids)) ≡ row_count oids
length-rows holdings [] [] long = refl
length-rows holdings [] (first ∷ others) long = absurd (omega (arith, long))
length-rows holdings (source ∷ sources) [] long = absurd (omega (arith, long))
length-rows holdings (source ∷ sources) (first ∷ others) long =
    length-combinations (map (member_shown holdings source) first.items) (members_named holdings sources others)
    ∙ ap (λ n. n * length (combinations (members_named holdings sources others))) (length-map first.items (member_shown holdings source))
    ∙ ap (λ n. length first.items * n) (length-rows holdings sources others (omega (arith, long)))

pub length-numbered : {X : Type 0} (k : ℕ) (xs : List X) → length (with_row_numbers k xs) ≡ length xs
length-numbered k [] = refl
length-numbered k (x ∷ xs) = ap suc (length-numbered (suc k) xs)

pub numbered-at : {X : Type 0} (n : ℕ) (xs : List X) (k : ℕ) (x : X) → slice_get xs k ≡ Some x → slice_get (with_row_numbers n xs) k ≡ Some (n + k, x)
numbered-at n [] k x is = absurd cc
numbered-at n (y ∷ ys) zero x is = let same : y ≡ x = cc in let e : n ≡ n + 0 = omega arith in ap (λ z. Some (n, z)) same ∙ ap (λ m. Some (m, x)) e
numbered-at n (y ∷ ys) (suc k) x is = let e : suc n + k ≡ n + suc k = omega arith in numbered-at (suc n) ys k x is ∙ ap (λ m. Some (m, x)) e

-- ---- counting them

capped-more : (a rest : ℕ) → (MAX_ROWS < a) ⊎ (a ≤ MAX_ROWS) → min (min (min a (2 ^ 64 - 1)) (MAX_ROWS + 1) * suc rest) (MAX_ROWS + 1) ≡ min (a * suc rest) (MAX_ROWS + 1)
capped-more a rest (inr small) = let same : min (min a (2 ^ 64 - 1)) (MAX_ROWS + 1) ≡ a = omega arith in ap (λ n. min (n * suc rest) (MAX_ROWS + 1)) same
capped-more a rest (inl large) =
    let same : min (min a (2 ^ 64 - 1)) (MAX_ROWS + 1) ≡ MAX_ROWS + 1 = omega arith in
    let most : min (a * suc rest) (MAX_ROWS + 1) ≡ MAX_ROWS + 1 = omega arith in
    ap (λ n. min (n * suc rest) (MAX_ROWS + 1)) same ∙ (omega arith) ∙ sym most

-- a product that is cut off twice
capped : (a rest : ℕ) → min (min (min a (2 ^ 64 - 1)) (MAX_ROWS + 1) * rest) (MAX_ROWS + 1) ≡ min (a * rest) (MAX_ROWS + 1)
capped a zero = omega arith
capped a (suc rest) = capped-more a rest (cases_lt MAX_ROWS a)

-- one source more
pub count_turn : (oids : List Oids) (i count n product new w : ℕ) (o : Oids) → i < length oids → o ≡ get_or oids i o → n ≡ length o.items
    → min (count * row_count (drop i oids)) (MAX_ROWS + 1) ≡ w → product ≡ min (count * n) (2 ^ 64 - 1) → new ≡ min product (MAX_ROWS + 1)
    → min (new * row_count (drop (i + 1) oids)) (MAX_ROWS + 1) ≡ w
count_turn oids i count n product new w o within o_is n_is so_far product_is new_is =
    let more : row_count (drop i oids) ≡ n * row_count (drop (i + 1) oids) =
    at_drop_more row_count oids i o within ∙ ap (λ (x : Oids). length x.items * row_count (drop (i + 1) oids)) (sym o_is) ∙ ap (λ k. k * row_count (drop (i + 1) oids)) (sym n_is) in
    let assoc : count * (n * row_count (drop (i + 1) oids)) ≡ count * n * row_count (drop (i + 1) oids) = omega arith in
    ap (λ k. min (k * row_count (drop (i + 1) oids)) (MAX_ROWS + 1)) (new_is ∙ ap (λ k. min k (MAX_ROWS + 1)) product_is)
    ∙ capped (count * n) (row_count (drop (i + 1) oids)) ∙ ap (λ k. min k (MAX_ROWS + 1)) (sym assoc ∙ ap (λ k. count * k) (sym more)) ∙ so_far

-- ---- the count that is kept

pub count-is : (holdings : Holdings) (sources : List CheckedSource) (oids : List Oids) (count : ℕ) → AreRowsKept sources oids count → count ≡ length (rows_named holdings sources oids)
count-is holdings sources oids count kept =
    kept.counted ∙ sym (length-rows holdings sources oids kept.each_source) ∙ sym (length-numbered 1 (combinations (members_named holdings sources oids)))

pub empty-iff : {X : Type 0} (n : ℕ) (xs : List X) → n ≡ length xs → (IsTrue (nat_eq n 0) → xs ≡ []) × (xs ≡ [] → IsTrue (nat_eq n 0))
empty-iff n [] is = (λ _. refl, λ _. grind (arith, nat_tests))
empty-iff n (x ∷ xs) is = (λ none. absurd (grind (arith, nat_tests)), λ same. absurd cc)
