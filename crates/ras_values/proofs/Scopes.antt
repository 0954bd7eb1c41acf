-- Variables in scope, outermost first and innermost first.
use Rattle.std.proofs.Common.{◌≡◌, ℕ, zero, suc, ◌+◌, ◌<◌, ◌≤◌, ℤ, List, [], ◌∷◌, ◌++◌, length, map, take, get_or}
use Rattle.std.proofs.Common.{Option, Some, None, Bool, true, false, cond, refl, sym, ap, ap₂, ◌∙◌, subst, ◌-◌, arith}
use Rattle.std.specs.Prelude.{reverse, slice_get}
use Rattle.std.specs.List.{zip}
use Rattle.std.specs.Map.{lookup}
use Rattle.std.proofs.lemmas.List.{length_push, reverse-append, take_all}
use Rattle.std.proofs.Math.Seq.{take-suc}
use Rattle.spec_expressions.specs.Database.{Member}
use Rattle.spec_expressions.specs.Eval.{with_point}
use Rattle.spec_expressions.specs.Tree.{NameOf, is_same_name}
use Rattle.ras_values.specs.Prepared.{scope_over}
use Rattle.ras_values.specs.Variables.{FindsVariable}

zip-more : (names : List NameOf) (points : List (List ℤ)) (x : NameOf) (p : List ℤ) → length points ≡ length names → zip (names ++ x ∷ []) (points ++ p ∷ []) ≡ zip names points ++ (x, p) ∷ []
zip-more [] [] x p len = refl
zip-more [] (q ∷ points) x p len = absurd (omega (arith, len))
zip-more (y ∷ names) [] x p len = absurd (omega (arith, len))
zip-more (y ∷ names) (q ∷ points) x p len = ap (λ xs. (y, q) ∷ xs) (zip-more names points x p (omega (arith, len)))

-- one more variable is the innermost one
pub variables_with : (names : List NameOf) (points : List (List ℤ)) (x : NameOf) (p : List ℤ) → length points ≡ length names
    → reverse (zip (names ++ x ∷ []) (points ++ p ∷ [])) ≡ (x, p) ∷ reverse (zip names points)
variables_with names points x p len = ap reverse (zip-more names points x p len) ∙ reverse-append (zip names points) ((x, p) ∷ [])

pub scope_more : (row : List Member) (names : List NameOf) (points : List (List ℤ)) (x : NameOf) (p : List ℤ) → length points ≡ length names
    → scope_over row (names ++ x ∷ []) (points ++ p ∷ []) ≡ with_point x p (scope_over row names points)
scope_more row names points x p len = ap (λ variables. record { row = row; variables = variables }) (variables_with names points x p len)

pub lengths_more : (names : List NameOf) (points : List (List ℤ)) (x : NameOf) (p : List ℤ) → length points ≡ length names → length (points ++ p ∷ []) ≡ length (names ++ x ∷ [])
lengths_more names points x p len = length_push points p ∙ ap (λ n. n + 1) len ∙ sym (length_push names x)

-- ---- the variable of a name

taken-length : {A : Type 0} (xs : List A) (k : ℕ) → k ≤ length xs → length (take k xs) ≡ k
taken-length xs zero h = refl
taken-length [] (suc k) h = absurd (omega (arith, h))
taken-length (x ∷ xs) (suc k) h = ap suc (taken-length xs k (omega (arith, h)))

variables-at : (names : List NameOf) (points : List (List ℤ)) (k : ℕ) (x : NameOf) (p : List ℤ) → k < length names → length points ≡ length names → get_or names k x ≡ x → get_or points k p ≡ p
    → reverse (zip (take (suc k) names) (take (suc k) points)) ≡ (x, p) ∷ reverse (zip (take k names) (take k points))
variables-at names points k x p below len is at =
    let within : k < length points = omega (arith, len, below) in
    ap₂ (λ xs ys. reverse (zip xs ys)) (take-suc names k x below ∙ ap (λ y. take k names ++ y ∷ []) is) (take-suc points k p within ∙ ap (λ y. take k points ++ y ∷ []) at)
    ∙ variables_with (take k names) (take k points) x p (taken-length points k (omega (arith, within)) ∙ sym (taken-length names k (omega (arith, below))))

point-there : (points : List (List ℤ)) (k : ℕ) → k < length points → (p : List ℤ) × (get_or points k p ≡ p) × (slice_get points k ≡ Some p)
point-there [] k h = absurd (omega (arith, h))
point-there (p ∷ points) zero h = (p, refl, refl)
point-there (p ∷ points) (suc k) h = point-there points k (omega (arith, h))

skipped : (b : Bool) (p : List ℤ) (other : Option (List ℤ)) → b ≡ false → cond b (Some p) other ≡ other
skipped true p other e = cc
skipped false p other e = refl

taken : (b : Bool) (p : List ℤ) (other : Option (List ℤ)) → b ≡ true → cond b (Some p) other ≡ Some p
taken true p other e = refl
taken false p other e = cc

-- the variables from the innermost one on are looked through down to a place
pub record IsLookedThrough (name : NameOf) (names : List NameOf) (left : ℕ) : Type 0 where
  pub each : (points : List (List ℤ)) → length points ≡ length names
      → lookup (is_same_name name) (reverse (zip (take left names) (take left points))) ≡ lookup (is_same_name name) (reverse (zip names points))

pub looked_first : (name : NameOf) (names : List NameOf) → IsLookedThrough name names (length names)
looked_first name names =
    record {
      each = λ points len. ap₂ (λ xs ys. lookup (is_same_name name) (reverse (zip xs ys))) (take_all (length names) names (omega arith)) (take_all (length names) points (omega (arith, len)));
    }

pub looked_more : (name : NameOf) (names : List NameOf) (left next : ℕ) (x : NameOf) → left ≡ suc next → next < length names → get_or names next x ≡ x → is_same_name name x ≡ false
    → IsLookedThrough name names left → IsLookedThrough name names next
looked_more name names left next x e below is differs h =
    record {
      each = λ points len.
          let there = point-there points next (omega (arith, len, below)) in
          sym (ap (λ n. lookup (is_same_name name) (reverse (zip (take n names) (take n points)))) e
          ∙ ap (lookup (is_same_name name)) (variables-at names points next x there.0 below len is there.1)
          ∙ skipped (is_same_name name x) there.0 (lookup (is_same_name name) (reverse (zip (take next names) (take next points)))) differs)
          ∙ h.each points len;
    }

pub looked_found : (name : NameOf) (names : List NameOf) (left next : ℕ) (x : NameOf) → left ≡ suc next → next < length names → get_or names next x ≡ x → is_same_name name x ≡ true
    → IsLookedThrough name names left → FindsVariable name names (Some next)
looked_found name names left next x e below is same h =
    record {
      each = λ points len.
          let there = point-there points next (omega (arith, len, below)) in
          there.2
          ∙ sym (ap (λ n. lookup (is_same_name name) (reverse (zip (take n names) (take n points)))) e
          ∙ ap (lookup (is_same_name name)) (variables-at names points next x there.0 below len is there.1)
          ∙ taken (is_same_name name x) there.0 (lookup (is_same_name name) (reverse (zip (take next names) (take next points)))) same)
          ∙ h.each points len;
    }

length-map : {A : Type 0} (f : A → NameOf) (xs : List A) → length (map f xs) ≡ length xs
length-map f [] = refl
length-map f (x ∷ xs) = ap suc (length-map f xs)

get-map : {A : Type 0} (f : A → NameOf) (xs : List A) (k : ℕ) (x : A) → get_or (map f xs) k (f x) ≡ f (get_or xs k x)
get-map f [] zero x = refl
get-map f [] (suc k) x = refl
get-map f (y ∷ ys) zero x = refl
get-map f (y ∷ ys) (suc k) x = get-map f ys k x

-- the name in front of a place is another one
pub looked_before : {A : Type 0} (f : A → NameOf) (name : NameOf) (xs : List A) (left : ℕ) (x : A) → 0 < left → left ≤ length xs → x ≡ get_or xs (left - 1) x → is_same_name name (f x) ≡ false
    → IsLookedThrough name (map f xs) left → IsLookedThrough name (map f xs) (left - 1)
looked_before f name xs left x some within is differs h =
    looked_more name (map f xs) left (left - 1) (f x) (omega (arith, some)) (subst (λ n. left - 1 < n) (sym (length-map f xs)) (omega (arith, some, within)))
    (get-map f xs (left - 1) x ∙ ap f (sym is)) differs h

-- the name in front of a place is the one looked for
pub looked_here : {A : Type 0} (f : A → NameOf) (name : NameOf) (xs : List A) (left : ℕ) (x : A) → 0 < left → left ≤ length xs → x ≡ get_or xs (left - 1) x → is_same_name name (f x) ≡ true
    → IsLookedThrough name (map f xs) left → FindsVariable name (map f xs) (Some (left - 1))
looked_here f name xs left x some within is same h =
    looked_found name (map f xs) left (left - 1) (f x) (omega (arith, some)) (subst (λ n. left - 1 < n) (sym (length-map f xs)) (omega (arith, some, within)))
    (get-map f xs (left - 1) x ∙ ap f (sym is)) same h

pub looked_none : (name : NameOf) (names : List NameOf) → IsLookedThrough name names 0 → FindsVariable name names None
looked_none name names h = record { each = λ points len. h.each points len }

pub ruleset looked_loop = (looked_first, looked_before, looked_here, looked_none)
