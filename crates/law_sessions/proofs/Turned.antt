-- Lists in the other order.
use Rattle.std.proofs.Common.{◌≡◌, Bool, true, false, if◌then◌else◌, List, [], ◌∷◌, ◌++◌, filter, reverse, refl, sym, ap, ◌∙◌, subst}
use Rattle.std.specs.List.{AllByRecursion}
use Rattle.std.proofs.lemmas.List.{append-nil, reverse-append}
use Rattle.std.proofs.lemmas.List.Elements.{filter-append}
use Rattle.law_lists.proofs.Each.{append_all}

pub reverse-more : {X : Type 0} (x : X) (xs : List X) → reverse (x ∷ xs) ≡ reverse xs ++ x ∷ []
reverse-more x xs = reverse-append (x ∷ []) xs

pub each-reverse : {X : Type 0} (P : X → Type 0) (xs : List X) → AllByRecursion P xs → AllByRecursion P (reverse xs)
each-reverse P [] all = tt
each-reverse P (x ∷ xs) all = subst (AllByRecursion P) (sym (reverse-more x xs)) (append_all P (reverse xs) (x ∷ []) (each-reverse P xs all.1) (all.0, tt))

pub filter-reverse : {X : Type 0} (p : X → Bool) (xs : List X) → filter p (reverse xs) ≡ reverse (filter p xs)
filter-reverse p [] = refl
filter-reverse p (x ∷ xs) =
    ap (filter p) (reverse-more x xs) ∙ filter-append p (reverse xs) (x ∷ []) ∙ ap (λ l. l ++ filter p (x ∷ [])) (filter-reverse p xs) ∙ at (p x)
  where
    at : (b : Bool) → (reverse (filter p xs) ++ (if b then x ∷ [] else [])) ≡ reverse (if b then x ∷ filter p xs else filter p xs)
    at true = sym (reverse-more x (filter p xs))
    at false = append-nil (reverse (filter p xs))
