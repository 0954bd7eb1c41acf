-- Two lists that are joined alike.
use Rattle.std.proofs.Common.{◌≡◌, ℕ, ◌≤◌, List, [], ◌∷◌, ◌++◌, length, take, drop, refl, ap, subst, ◌∙◌, arith}

split_front : {X : Type 0} (front back xs ys : List X) → front ++ back ≡ xs ++ ys → length front ≤ length xs → (front ≡ take (length front) xs) × (back ≡ drop (length front) xs ++ ys)
split_front [] back xs ys is short = (refl, is)
split_front (x ∷ front) back [] ys is short = absurd (omega (arith, short))
split_front (x ∷ front) back (y ∷ xs) ys is short =
    let both : (x ≡ y) × (front ++ back ≡ xs ++ ys) = (cc, cc) in
    let rest = split_front front back xs ys both.1 (omega (arith, short)) in
    (ap (λ z. z ∷ front) both.0 ∙ ap (λ zs. y ∷ zs) rest.0, rest.1)

-- where one front has n items and the other no fewer, it is the first part of that
pub split_at : {X : Type 0} (front back xs ys : List X) (n : ℕ) → front ++ back ≡ xs ++ ys → length front ≡ n → n ≤ length xs → (front ≡ take n xs) × (back ≡ drop n xs ++ ys)
split_at front back xs ys n is long short =
    subst (λ m. (front ≡ take m xs) × (back ≡ drop m xs ++ ys)) long (split_front front back xs ys is (omega (arith, long, short)))
