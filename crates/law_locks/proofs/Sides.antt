-- Outcomes and lists over two databases, side by side.
use Rattle.std.proofs.Common.{◌≡◌, List, [], ◌∷◌, ◌++◌, map, flat_map, Result, Ok, Err, refl, sym, ap, subst}
use Rattle.std.specs.List.{AllByRecursion, AllZip}
use Rattle.ras_cells.specs.Outcomes.{◌>>=◌}
use Rattle.spec_statements.specs.Reply.{Reply}
use Rattle.spec_statements.specs.Limits.{limited_locks}
use Rattle.spec_statements.specs.Statement.{StatementTree}
use Rattle.spec_statements.specs.Locks.{Lock}
use Rattle.law_lists.proofs.Each.{split_all}
use Rattle.law_effects.proofs.Rows.{limited_is}

-- both have a value, and the values are related, or both have the same fault
abbrev pub Alike : {A B E : Type 0} → (A → B → Type 0) → Result A E → Result B E → Type 0
Alike R (Ok a) (Ok b) = R a b
Alike R (Err e) (Err f) = e ≡ f
Alike R (Ok a) (Err f) = ⊥
Alike R (Err e) (Ok b) = ⊥

-- what follows related values alike is alike
pub Alike-bind : {A B C D E : Type 0} (R : A → B → Type 0) (S : C → D → Type 0) (r : Result A E) (s : Result B E) (f : A → Result C E) (g : B → Result D E)
    → Alike R r s → ((a : A) (b : B) → r ≡ Ok a → s ≡ Ok b → R a b → Alike S (f a) (g b)) → Alike S (r >>= f) (s >>= g)
Alike-bind R S (Ok a) (Ok b) f g both gives = gives a b refl refl both
Alike-bind R S (Err e) (Err h) f g both gives = both
Alike-bind R S (Ok a) (Err h) f g both gives = absurd both
Alike-bind R S (Err e) (Ok b) f g both gives = absurd both

-- the same where both have a value
pub Alike-weaker : {A B E : Type 0} (R S : A → B → Type 0) (r : Result A E) (s : Result B E) → Alike R r s → ((a : A) (b : B) → r ≡ Ok a → s ≡ Ok b → R a b → S a b) → Alike S r s
Alike-weaker R S (Ok a) (Ok b) both gives = gives a b refl refl both
Alike-weaker R S (Err e) (Err h) both gives = both
Alike-weaker R S (Ok a) (Err h) both gives = absurd both
Alike-weaker R S (Err e) (Ok b) both gives = absurd both

-- an outcome is alike with an equal one
pub Alike-same : {A E : Type 0} (R : A → A → Type 0) (r s : Result A E) → r ≡ s → ((a : A) → r ≡ Ok a → R a a) → Alike R r s
Alike-same {A = A} {E = E} R r s same gives = subst (Alike R r) same (at r gives)
  where
    at : (r : Result A E) → ((a : A) → r ≡ Ok a → R a a) → Alike R r r
    at (Ok a) gives = gives a refl
    at (Err e) gives = refl

-- what follows one outcome alike is alike
pub Alike-both : {A C D E : Type 0} (S : C → D → Type 0) (r : Result A E) (f : A → Result C E) (g : A → Result D E) → ((a : A) → r ≡ Ok a → Alike S (f a) (g a)) → Alike S (r >>= f) (r >>= g)
Alike-both S (Ok a) f g gives = gives a refl
Alike-both S (Err e) f g gives = refl

pub same-Alike : {A E : Type 0} (r s : Result A E) → Alike (λ a b. a ≡ b) r s → r ≡ s
same-Alike (Ok a) (Ok b) both = ap Ok both
same-Alike (Err e) (Err h) both = ap Err both
same-Alike (Ok a) (Err h) both = absurd both
same-Alike (Err e) (Ok b) both = absurd both

-- values on both sides are related
pub both-ok : {A B E : Type 0} (R : A → B → Type 0) (r : Result A E) (s : Result B E) (a : A) (b : B) → Alike R r s → r ≡ Ok a → s ≡ Ok b → R a b
both-ok R (Ok x) (Ok y) a b both first second =
    let e : x ≡ a = cc in
    let f : y ≡ b = cc in
    subst (λ x. R x b) e (subst (R x) f both)
both-ok R (Ok x) (Err f) a b both first second = absurd both
both-ok R (Err e) (Ok y) a b both first second = absurd both
both-ok R (Err e) (Err f) a b both first second = absurd cc

-- ---- lists

module _ {A B : Type 0} (R : A → B → Type 0) where
  pub zip-weaker : (S : A → B → Type 0) → ((a : A) (b : B) → R a b → S a b) → (xs : List A) (ys : List B) → AllZip R xs ys → AllZip S xs ys
  zip-weaker S gives [] [] all = tt
  zip-weaker S gives [] (y ∷ ys) all = absurd all
  zip-weaker S gives (x ∷ xs) [] all = absurd all
  zip-weaker S gives (x ∷ xs) (y ∷ ys) all = (gives x y all.0, zip-weaker S gives xs ys all.1)

  -- with what holds of each on the first side
  pub zip-with : (P : A → Type 0) (xs : List A) (ys : List B) → AllZip R xs ys → AllByRecursion P xs → AllZip (λ a b. R a b × P a) xs ys
  zip-with P [] [] all each = tt
  zip-with P [] (y ∷ ys) all each = absurd all
  zip-with P (x ∷ xs) [] all each = absurd all
  zip-with P (x ∷ xs) (y ∷ ys) all each = ((all.0, each.0), zip-with P xs ys all.1 each.1)

  zip-append : (xs us : List A) (ys vs : List B) → AllZip R xs ys → AllZip R us vs → AllZip R (xs ++ us) (ys ++ vs)
  zip-append [] us [] vs all more = more
  zip-append [] us (y ∷ ys) vs all more = absurd all
  zip-append (x ∷ xs) us [] vs all more = absurd all
  zip-append (x ∷ xs) us (y ∷ ys) vs all more = (all.0, zip-append xs us ys vs all.1 more)

pub zip-map : {A B C D : Type 0} (R : A → B → Type 0) (S : C → D → Type 0) (f : A → C) (g : B → D) → ((a : A) (b : B) → R a b → S (f a) (g b))
    → (xs : List A) (ys : List B) → AllZip R xs ys → AllZip S (map f xs) (map g ys)
zip-map R S f g gives [] [] all = tt
zip-map R S f g gives [] (y ∷ ys) all = absurd all
zip-map R S f g gives (x ∷ xs) [] all = absurd all
zip-map R S f g gives (x ∷ xs) (y ∷ ys) all = (gives x y all.0, zip-map R S f g gives xs ys all.1)

pub zip-flat_map : {A B C D : Type 0} (R : A → B → Type 0) (S : C → D → Type 0) (f : A → List C) (g : B → List D) → ((a : A) (b : B) → R a b → AllZip S (f a) (g b))
    → (xs : List A) (ys : List B) → AllZip R xs ys → AllZip S (flat_map f xs) (flat_map g ys)
zip-flat_map R S f g gives [] [] all = tt
zip-flat_map R S f g gives [] (y ∷ ys) all = absurd all
zip-flat_map R S f g gives (x ∷ xs) [] all = absurd all
zip-flat_map R S f g gives (x ∷ xs) (y ∷ ys) all =
    zip-append S (f x) (flat_map f xs) (g y) (flat_map g ys) (gives x y all.0) (zip-flat_map R S f g gives xs ys all.1)

-- pieces that are equal, joined
pub zip-same_flat_map : {A B C : Type 0} (R : A → B → Type 0) (f : A → List C) (g : B → List C) → ((a : A) (b : B) → R a b → f a ≡ g b) → (xs : List A) (ys : List B)
    → AllZip R xs ys → flat_map f xs ≡ flat_map g ys
zip-same_flat_map R f g gives [] [] all = refl
zip-same_flat_map R f g gives [] (y ∷ ys) all = absurd all
zip-same_flat_map R f g gives (x ∷ xs) [] all = absurd all
zip-same_flat_map R f g gives (x ∷ xs) (y ∷ ys) all =
    let first : f x ≡ g y = gives x y all.0 in
    let rest : flat_map f xs ≡ flat_map g ys = zip-same_flat_map R f g gives xs ys all.1 in
    λ i. first i ++ rest i

pub zip-same_map : {A B C : Type 0} (R : A → B → Type 0) (f : A → C) (g : B → C) → ((a : A) (b : B) → R a b → f a ≡ g b) → (xs : List A) (ys : List B) → AllZip R xs ys → map f xs ≡ map g ys
zip-same_map R f g gives [] [] all = refl
zip-same_map R f g gives [] (y ∷ ys) all = absurd all
zip-same_map R f g gives (x ∷ xs) [] all = absurd all
zip-same_map R f g gives (x ∷ xs) (y ∷ ys) all = λ i. gives x y all.0 i ∷ zip-same_map R f g gives xs ys all.1 i

-- the pieces that are joined have what the whole has
pub each_piece : {A C : Type 0} (P : C → Type 0) (f : A → List C) (xs : List A) → AllByRecursion P (flat_map f xs) → AllByRecursion (λ x. AllByRecursion P (f x)) xs
each_piece P f [] all = tt
each_piece P f (x ∷ xs) all = let both = split_all P (f x) (flat_map f xs) all in (both.0, each_piece P f xs both.1)

-- ---- limits

-- what follows equal lists of locks, where neither is too long
pub Alike-limited : {C D : Type 0} (S : C → D → Type 0) (statement : StatementTree) (one other : List Lock) (f : List Lock → Result C Reply)
    (g : List Lock → Result D Reply) → one ≡ other → (limited_locks statement one ≡ Ok one → Alike S (f one) (g other))
    → Alike S (limited_locks statement one >>= f) (limited_locks statement other >>= g)
Alike-limited S statement one other f g same gives =
    subst (λ list. (limited_locks statement one ≡ Ok one → Alike S (f one) (g list)) → Alike S (limited_locks statement one >>= f) (limited_locks statement list >>= g)) same
    (at (limited_locks statement one) (λ given is. limited_is statement one given is)) gives
  where
    at : (r : Result (List Lock) Reply) → ((given : List Lock) → r ≡ Ok given → one ≡ given) → (r ≡ Ok one → Alike S (f one) (g one)) → Alike S (r >>= f) (r >>= g)
    at (Ok given) is gives =
        let e : one ≡ given = is given refl in
        subst (λ l. Alike S (f l) (g l)) e (gives (ap Ok (sym e)))
    at (Err reply) is gives = refl
