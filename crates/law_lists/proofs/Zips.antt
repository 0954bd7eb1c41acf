-- A loop over two slices side by side that makes one item of each pair.
use Rattle.std.proofs.Common.{◌≡◌, ℕ, ◌+◌, ◌<◌, List, [], ◌∷◌, ◌++◌, map, length, take, get_or, min, sym, ap, ◌∙◌, arith}
use Rattle.std.specs.List.{zip}
use Rattle.std.proofs.lemmas.List.{length-map, get_or-map, take_more, take_all}
use Rattle.std.proofs.lemmas.Slice.Zip.{length-zip, get_or-zip}

-- one more item
pub pairs_more : {A B C : Type 0} (f : A × B → C) (xs : List A) (ys : List B) (k : ℕ) (x : A) (y : B) (made more : List C) → k < length xs → k < length ys
    → x ≡ get_or xs k x → y ≡ get_or ys k y
    → made ≡ take k (map f (zip xs ys)) → more ≡ made ++ f (x, y) ∷ [] → more ≡ take (k + 1) (map f (zip xs ys))
pairs_more f xs ys k x y made more left right first second so_far is =
    let within : k < length (zip xs ys) = omega (arith, length-zip xs ys) in
    let inside : k < length (map f (zip xs ys)) = omega (arith, length-map (zip xs ys) f) in
    let here : get_or (map f (zip xs ys)) k (f (x, y)) ≡ f (x, y) =
    get_or-map f (zip xs ys) k (x, y) (f (x, y)) within ∙ ap f (get_or-zip xs ys k (x, y) left right ∙ cc) in
    is ∙ ap (λ zs. zs ++ f (x, y) ∷ []) so_far ∙ sym (take_more (map f (zip xs ys)) k (f (x, y)) inside ∙ ap (λ z. take k (map f (zip xs ys)) ++ z ∷ []) here)

-- all items
pub pairs_all : {A B C : Type 0} (f : A × B → C) (xs : List A) (ys : List B) (k : ℕ) (made : List C) → k ≡ min (length xs) (length ys)
    → made ≡ take k (map f (zip xs ys)) → made ≡ map f (zip xs ys)
pairs_all f xs ys k made end so_far =
    so_far ∙ take_all k (map f (zip xs ys)) (omega (arith, end, length-map (zip xs ys) f, length-zip xs ys))
