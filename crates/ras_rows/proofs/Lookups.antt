-- What is found among points with their numbers, and what a view shows of a domain and a tile.
use Rattle.std.proofs.Common.{◌≡◌, ℕ, ℤ, zero, suc, ◌<◌, List, [], ◌∷◌, length, map, Contains, Option, Some, None, refl, sym, ap, subst, ◌∙◌, arith, ◌⊎◌, inl, inr}
use Rattle.std.specs.Cmp.Lexicographic.{slice_cmp}
use Rattle.std.specs.List.{slice_get, zip}
use Rattle.std.specs.List.Sorted.{IsStrictlySortedBy}
use Rattle.std.specs.Map.{keys_of, lookup}
use Rattle.std.specs.Option.{option_map}
use Rattle.std.specs.Ordering.{int_cmp, is_eq}
use Rattle.std.proofs.lemmas.Cmp.{eq_by_cmp_equiv}
use Rattle.std.proofs.lemmas.Map.Keys.{IsDistinct-from_sorted}
use Rattle.std.proofs.lemmas.Map.Views.{Contains-from_lookup, lookup-from_Contains, tells_apart}
use Rattle.law_lists.proofs.Elements.{Contains-here, Contains-map, Contains-there, first_or_later}
use Rattle.ras_domain.specs.Region.{IsIn, points_of}
use Rattle.ras_domain.proofs.Points.{Contains-IsIn}
use Rattle.ras_domain.proofs.RowOrder.{place_in_rows-at, points_of-ascends}
use Rattle.ras_index.proofs.Slots.{row_major_exact, row_major_total}
use Rattle.ras_store.specs.Databases.{holding_kept}
use Rattle.ras_store.specs.Kept.{Kept, domain_kept, tile_kept}
use Rattle.ras_syntax.specs.declared.types.SetType.{SetType}
use Rattle.ras_tile.specs.Tile.{TileValue, tile_cell_at}
use Rattle.ras_rows.specs.Arrays.{numbers_in_tile}
use Rattle.spec_expressions.specs.Database.{stored_at}
use Rattle.spec_expressions.specs.Shape.{Box}
use Rattle.spec_shown.specs.Shown.{array_within, domain_shown, least_domain, numbers_at, numbers_or_zeros, numbers_shown, zeros_of}
use Rattle.spec_views.specs.Holdings.{Holdings}

abbrev pub Entry : Type 0
Entry = List ℤ × List ℤ

-- an entry among ascending keys is found by its key
found : (entries : List Entry) (p n : List ℤ) → IsStrictlySortedBy (slice_cmp int_cmp) (keys_of entries) → Contains entries (p, n)
    → lookup (λ q. is_eq (slice_cmp int_cmp p q)) entries ≡ Some n
found entries p n sorted has =
    lookup-from_Contains (eq_by_cmp_equiv row_major_total) p n entries (IsDistinct-from_sorted (slice_cmp int_cmp) (keys_of entries) sorted) has

-- where no entry has the key, nothing is found
not_found : (entries : List Entry) (p : List ℤ) → (Contains (keys_of entries) p → ⊥) → lookup (λ q. is_eq (slice_cmp int_cmp p q)) entries ≡ None
not_found entries p never = at (lookup (λ q. is_eq (slice_cmp int_cmp p q)) entries) refl
  where
    at : (o : Option (List ℤ)) → lookup (λ q. is_eq (slice_cmp int_cmp p q)) entries ≡ o → lookup (λ q. is_eq (slice_cmp int_cmp p q)) entries ≡ None
    at None is = is
    at (Some n) is = absurd (never (Contains-map (λ (e : Entry). e.0) entries (p, n) (Contains-from_lookup (tells_apart row_major_exact) p n entries is)))

keys-mapped : (f : List ℤ → List ℤ) (ps : List (List ℤ)) → keys_of (map (λ (p : List ℤ). (p, f p)) ps) ≡ ps
keys-mapped f [] = refl
keys-mapped f (p ∷ ps) = ap (λ rest. p ∷ rest) (keys-mapped f ps)

keys-zip : (ps cs : List (List ℤ)) → length cs ≡ length ps → keys_of (zip ps cs) ≡ ps
keys-zip [] cs long = refl
keys-zip (p ∷ ps) [] long = absurd (omega (arith, long))
keys-zip (p ∷ ps) (c ∷ cs) long = ap (λ rest. p ∷ rest) (keys-zip ps cs (omega (arith, long)))

-- two elements at one place are paired
zip_has : (ps cs : List (List ℤ)) (k : ℕ) (p c : List ℤ) → slice_get ps k ≡ Some p → slice_get cs k ≡ Some c → Contains (zip ps cs) (p, c)
zip_has [] cs k p c at_p at_c = absurd (cc)
zip_has (q ∷ ps) [] k p c at_p at_c = absurd (cc)
zip_has (q ∷ ps) (d ∷ cs) zero p c at_p at_c =
    let same_p : q ≡ p = cc in let same_c : d ≡ c = cc in
    subst (λ e. Contains ((q, d) ∷ zip ps cs) e) (ap (λ x. (x, d)) same_p ∙ ap (λ x. (p, x)) same_c) (Contains-here (q, d) (zip ps cs))
zip_has (q ∷ ps) (d ∷ cs) (suc k) p c at_p at_c = Contains-there (p, c) (q, d) (zip ps cs) (zip_has ps cs k p c at_p at_c)

-- an element that a list contains stands at a place
placed : (xs : List (List ℤ)) (x : List ℤ) → Contains xs x → (k : ℕ) × (k < length xs) × (slice_get xs k ≡ Some x)
placed [] x has = absurd (omega (arith, has.1))
placed (y ∷ ys) x has = at (first_or_later x y ys has) (λ later. placed ys x later)
  where
    at : (y ≡ x) ⊎ Contains ys x → (Contains ys x → (k : ℕ) × (k < length ys) × (slice_get ys k ≡ Some x)) → (k : ℕ) × (k < length (y ∷ ys)) × (slice_get (y ∷ ys) k ≡ Some x)
    at (inl same) rest = (0, omega arith, ap Some same)
    at (inr later) rest = let found = rest later in (suc found.0, omega (arith, found.1), found.2)

-- ---- arrays

-- what an array stores at a point of its domain, and out of it
pub stored-here : (of : SetType) (holdings : Holdings) (name : List ℕ) (id : ℕ) (domain : Box) (p : List ℤ) → IsIn p domain
    → stored_at (array_within of holdings name id domain) p ≡ Some (numbers_at of holdings name id p)
stored-here of holdings name id domain p within =
    found (map (λ (q : List ℤ). (q, numbers_at of holdings name id q)) (points_of domain)) p (numbers_at of holdings name id p)
    (subst (IsStrictlySortedBy (slice_cmp int_cmp)) (sym (keys-mapped (numbers_at of holdings name id) (points_of domain))) (points_of-ascends domain))
    (Contains-map (λ (q : List ℤ). (q, numbers_at of holdings name id q)) (points_of domain) p ((Contains-IsIn domain p).1 within))

pub stored-out : (of : SetType) (holdings : Holdings) (name : List ℕ) (id : ℕ) (domain : Box) (p : List ℤ) → (IsIn p domain → ⊥)
    → stored_at (array_within of holdings name id domain) p ≡ None
stored-out of holdings name id domain p never =
    not_found (map (λ (q : List ℤ). (q, numbers_at of holdings name id q)) (points_of domain)) p
    (λ has. never ((Contains-IsIn domain p).0 (subst (λ ps. Contains ps p) (keys-mapped (numbers_at of holdings name id) (points_of domain)) has)))

-- ---- tiles and domains

-- the numbers of a tile at a point of its box, and out of it
pub tile-here : (of : SetType) (tile : TileValue) (p n : List ℤ) → length tile.cells ≡ length (points_of tile.region) → IsIn p tile.region
    → tile_cell_at tile p ≡ Some n → numbers_in_tile of tile p ≡ n
tile-here of tile p n long within is =
    let at = placed (points_of tile.region) p ((Contains-IsIn tile.region p).1 within) in
    let cell : slice_get tile.cells at.0 ≡ Some n = ap (slice_get tile.cells) (sym (place_in_rows-at tile.region at.0 p at.2)) ∙ is in
    ap (numbers_or_zeros of)
    (found (zip (points_of tile.region) tile.cells) p n
    (subst (IsStrictlySortedBy (slice_cmp int_cmp)) (sym (keys-zip (points_of tile.region) tile.cells long)) (points_of-ascends tile.region))
    (zip_has (points_of tile.region) tile.cells at.0 p n at.2 cell))

pub tile-out : (of : SetType) (tile : TileValue) (p : List ℤ) → length tile.cells ≡ length (points_of tile.region) → (IsIn p tile.region → ⊥)
    → numbers_in_tile of tile p ≡ zeros_of of
tile-out of tile p long never =
    ap (numbers_or_zeros of)
    (not_found (zip (points_of tile.region) tile.cells) p
    (λ has. never ((Contains-IsIn tile.region p).0 (subst (λ ps. Contains ps p) (keys-zip (points_of tile.region) tile.cells long) has))))

-- a tile that is kept, and one that isn't
pub tile-kept : (of : SetType) (kept : Option Kept) (tile : TileValue) (p n : List ℤ) → Some (tile_kept tile) ≡ kept → n ≡ numbers_in_tile of tile p
    → n ≡ numbers_shown of (option_map holding_kept kept) p
tile-kept of kept tile p n is same = same ∙ ap (λ k. numbers_shown of (option_map holding_kept k) p) is

pub tile-missing : (of : SetType) (kept : Option Kept) (p n : List ℤ) → None ≡ kept → n ≡ zeros_of of → n ≡ numbers_shown of (option_map holding_kept kept) p
tile-missing of kept p n is same = same ∙ ap (λ k. numbers_shown of (option_map holding_kept k) p) is

-- a domain that is kept, and one that isn't
pub domain-kept : (of : SetType) (kept : Option Kept) (domain : Box) → Some (domain_kept domain) ≡ kept → domain ≡ domain_shown of (option_map holding_kept kept)
domain-kept of kept domain is = ap (λ k. domain_shown of (option_map holding_kept k)) is

pub domain-missing : (of : SetType) (kept : Option Kept) (domain : Box) → None ≡ kept → domain ≡ least_domain of → domain ≡ domain_shown of (option_map holding_kept kept)
domain-missing of kept domain is same = same ∙ ap (λ k. domain_shown of (option_map holding_kept k)) is
