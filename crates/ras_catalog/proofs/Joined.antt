-- What comes of parts is what their rules make of them.
use Rattle.std.specs.Prelude.{◌≡◌, ℕ, Result, Ok, Err}
use Rattle.std.proofs.Common.{refl}
use Rattle.ras_cells.specs.Outcomes.{◌>>=◌}
use Rattle.spec_expressions.specs.Check.{CheckMisfit}
use Rattle.ras_catalog.specs.declared.fault.CheckError.{CheckError}
use Rattle.ras_catalog.specs.declared.fault.CheckError.TheVariants.{Fault, Memory}
use Rattle.ras_catalog.specs.Outcome.{IsChecked, Joins, JoinsTwo, JoinsThree, JoinsFour, GoesOnOne, GoesOnTwo, GoesOnThree, GoesOnFour, read_of_part, unit_of}

-- an error is the outcome of whatever follows
pub stopped : {A B : Type 0} (wanted : Result A CheckMisfit) (rule : A → Result B CheckMisfit) (e : CheckError) → IsChecked wanted (Err e) → IsChecked (wanted >>= rule) (Err e)
stopped wanted rule (Fault span fault) h = record { tells = rw h.tells refl }
stopped wanted rule Memory h = record { tells = tt }

pub goes_on : {A B : Type 0} (wanted : Result A CheckMisfit) (rule : A → Result B CheckMisfit) (part : Result A CheckError) (outcome : Result B CheckError)
    → IsChecked wanted part → GoesOnOne rule part outcome → IsChecked (wanted >>= rule) outcome
goes_on wanted rule (Ok x) outcome h j = rw h.tells j
goes_on wanted rule (Err e) outcome h j = rw j (stopped wanted rule e h)

goes_on_two : {A B C : Type 0} (first : Result A CheckMisfit) (second : Result B CheckMisfit) (rule : A → B → Result C CheckMisfit)
    (a : Result A CheckError) (b : Result B CheckError) (outcome : Result C CheckError)
    → IsChecked first a → IsChecked second b → GoesOnTwo rule a b outcome → IsChecked (first >>= (λ x. second >>= rule x)) outcome
goes_on_two first second rule (Ok x) b outcome h k j = rw h.tells (goes_on second (rule x) b outcome k j)
goes_on_two first second rule (Err e) b outcome h k j = rw j (stopped first (λ x. second >>= rule x) e h)

goes_on_three : {A B C D : Type 0} (first : Result A CheckMisfit) (second : Result B CheckMisfit) (third : Result C CheckMisfit) (rule : A → B → C → Result D CheckMisfit)
    (a : Result A CheckError) (b : Result B CheckError) (c : Result C CheckError) (outcome : Result D CheckError)
    → IsChecked first a → IsChecked second b → IsChecked third c → GoesOnThree rule a b c outcome
    → IsChecked (first >>= (λ x. second >>= (λ y. third >>= rule x y))) outcome
goes_on_three first second third rule (Ok x) b c outcome h k l j = rw h.tells (goes_on_two second third (rule x) b c outcome k l j)
goes_on_three first second third rule (Err e) b c outcome h k l j = rw j (stopped first (λ x. second >>= (λ y. third >>= rule x y)) e h)

pub joined : {A B : Type 0} (wanted : Result A CheckMisfit) (rule : A → Result B CheckMisfit) {part : Result A CheckError} {outcome : Result B CheckError}
    → IsChecked wanted part → Joins rule part outcome → IsChecked (wanted >>= rule) outcome
joined wanted rule {part = part} {outcome = outcome} h j = goes_on wanted rule part outcome h j.goes_on

pub joined_two : {A B C : Type 0} (first : Result A CheckMisfit) (second : Result B CheckMisfit) (rule : A → B → Result C CheckMisfit)
    {a : Result A CheckError} {b : Result B CheckError} {outcome : Result C CheckError}
    → IsChecked first a → IsChecked second b → JoinsTwo rule a b outcome → IsChecked (first >>= (λ x. second >>= rule x)) outcome
joined_two first second rule {a = a} {b = b} {outcome = outcome} h k j = goes_on_two first second rule a b outcome h k j.goes_on

-- ---- what stands in the scope of a variable over a domain, whose axes are read from the domain

module _ {D A X R : Type 0} (read : D → ℕ) (wanted : Result D CheckMisfit) (inner : ℕ → Result A CheckMisfit) (new : Result X CheckMisfit) where
  scoped : (rule : D → A → X → Result R CheckMisfit) (domain : Result D CheckError) (e : Result A CheckError) (x : Result X CheckError) (outcome : Result R CheckError)
      → IsChecked wanted domain → GoesOnOne inner (read_of_part read domain) e → IsChecked new x → GoesOnThree rule domain e x outcome
      → IsChecked (wanted >>= (λ on. inner (read on) >>= (λ y. new >>= rule on y))) outcome
  scoped rule (Ok on) e x outcome h k l j = rw h.tells (goes_on_two (inner (read on)) new (rule on) e x outcome k l j)
  scoped rule (Err f) e x outcome h k l j = rw j (stopped wanted (λ on. inner (read on) >>= (λ y. new >>= rule on y)) f h)

module _ {D T A X R : Type 0} (read : D → ℕ) (wanted : Result D CheckMisfit) (tested : ℕ → Result T CheckMisfit) (inner : ℕ → Result A CheckMisfit) (new : Result X CheckMisfit) where
  scoped_test : (rule : D → T → A → X → Result R CheckMisfit) (domain : Result D CheckError) (t : Result T CheckError) (e : Result A CheckError) (x : Result X CheckError) (outcome : Result R CheckError)
      → IsChecked wanted domain → GoesOnOne tested (read_of_part read domain) t → GoesOnOne inner (read_of_part read domain) e → IsChecked new x → GoesOnFour rule domain t e x outcome
      → IsChecked (wanted >>= (λ on. tested (read on) >>= (λ z. inner (read on) >>= (λ y. new >>= rule on z y)))) outcome
  scoped_test rule (Ok on) t e x outcome h i k l j = rw h.tells (goes_on_three (tested (read on)) (inner (read on)) new (rule on) t e x outcome i k l j)
  scoped_test rule (Err f) t e x outcome h i k l j = rw j (stopped wanted (λ on. tested (read on) >>= (λ z. inner (read on) >>= (λ y. new >>= rule on z y))) f h)

pub joined_scope : {D A X R : Type 0} (read : D → ℕ) (wanted : Result D CheckMisfit) (inner : ℕ → Result A CheckMisfit) (new : Result X CheckMisfit) (rule : D → A → X → Result R CheckMisfit)
    {domain : Result D CheckError} {axes : Result ℕ CheckError} {e : Result A CheckError} {x : Result X CheckError} {outcome : Result R CheckError}
    → IsChecked wanted domain → axes ≡ read_of_part read domain → Joins inner axes e → IsChecked new x → JoinsThree rule domain e x outcome
    → IsChecked (wanted >>= (λ on. inner (read on) >>= (λ y. new >>= rule on y))) outcome
joined_scope read wanted inner new rule {domain = domain} {e = e} {x = x} {outcome = outcome} h a k l j =
    scoped read wanted inner new rule domain e x outcome h (rw a at k.goes_on) l j.goes_on

pub joined_scopes : {D T A X R : Type 0} (read : D → ℕ) (wanted : Result D CheckMisfit) (tested : ℕ → Result T CheckMisfit) (inner : ℕ → Result A CheckMisfit) (new : Result X CheckMisfit)
    (rule : D → T → A → X → Result R CheckMisfit)
    {domain : Result D CheckError} {axes more : Result ℕ CheckError} {t : Result T CheckError} {e : Result A CheckError} {x : Result X CheckError} {outcome : Result R CheckError}
    → IsChecked wanted domain → axes ≡ read_of_part read domain → Joins tested axes t → more ≡ read_of_part read domain → Joins inner more e → IsChecked new x → JoinsFour rule domain t e x outcome
    → IsChecked (wanted >>= (λ on. tested (read on) >>= (λ z. inner (read on) >>= (λ y. new >>= rule on z y)))) outcome
joined_scopes read wanted tested inner new rule {domain = domain} {t = t} {e = e} {x = x} {outcome = outcome} h a i b k l j =
    scoped_test read wanted tested inner new rule domain t e x outcome h (rw a at i.goes_on) (rw b at k.goes_on) l j.goes_on

-- what follows a rule whose outcome is not looked at
pub unit_joined : {A B : Type 0} (wanted : Result A CheckMisfit) (rest : Result B CheckMisfit) {part : Result (Unit {0}) CheckError} {outcome : Result B CheckError}
    → IsChecked (unit_of wanted) part → Joins (λ u. rest) part outcome → IsChecked (wanted >>= (λ x. rest)) outcome
unit_joined (Ok a) rest h j = joined (Ok tt) (λ u. rest) h j
unit_joined (Err f) rest h j = joined (Err f) (λ u. rest) h j
