-- Outcomes and lists that are made of equal parts.
use Rattle.std.proofs.Common.{◌≡◌, Bool, true, false, List, [], ◌∷◌, map, Result, Ok, Err, refl, ap, ◌∙◌}
use Rattle.std.specs.Prelude.{All, Contains, if◌then◌else◌}
use Rattle.std.proofs.lemmas.List.Elements.{All-contains_itself, All-head, All-tail}
use Rattle.ras_cells.specs.Outcomes.{◌>>=◌}

-- equal outcomes are joined to equal ones
bind_each : {A B E : Type 0} (r : Result A E) (f g : A → Result B E) → ((a : A) → r ≡ Ok a → f a ≡ g a) → (r >>= f) ≡ (r >>= g)
bind_each (Ok a) f g each = each a refl
bind_each (Err e) f g each = refl

pub bind_same : {A B E : Type 0} (r s : Result A E) (f g : A → Result B E) → r ≡ s → ((a : A) → r ≡ Ok a → f a ≡ g a) → (r >>= f) ≡ (s >>= g)
bind_same r s f g same each = bind_each r f g each ∙ ap (λ t. t >>= g) same

-- two equal outcomes, joined
pub joined_same : {A B C E : Type 0} (f : A → B → C) (a b : Result A E) (c d : Result B E) → a ≡ b → c ≡ d → (a >>= λ x. (c >>= λ y. Ok (f x y))) ≡ (b >>= λ x. (d >>= λ y. Ok (f x y)))
joined_same f a b c d first rest = λ i. first i >>= λ x. (rest i >>= λ y. Ok (f x y))

pub if_same : {X : Type 0} (b : Bool) (x y z w : X) → (b ≡ true → x ≡ y) → z ≡ w → (if b then x else z) ≡ (if b then y else w)
if_same true x y z w first second = first refl
if_same false x y z w first second = second

cons_same : {X : Type 0} (x y : X) (xs ys : List X) → x ≡ y → xs ≡ ys → x ∷ xs ≡ y ∷ ys
cons_same x y xs ys first rest = cc

map_same_on : {X Y : Type 0} (P : X → Type 0) (f g : X → Y) (xs : List X) → All P xs → ((x : X) → P x → f x ≡ g x) → map f xs ≡ map g xs
map_same_on P f g [] all each = refl
map_same_on P f g (x ∷ xs) all each =
    cons_same (f x) (g x) (map f xs) (map g xs) (each x (All-head P x xs all)) (map_same_on P f g xs (All-tail P x xs all) each)

-- functions that are the same at each element of a list
pub map_same : {X Y : Type 0} (f g : X → Y) (xs : List X) → ((x : X) → Contains xs x → f x ≡ g x) → map f xs ≡ map g xs
map_same f g xs each = map_same_on (Contains xs) f g xs (All-contains_itself xs) each
