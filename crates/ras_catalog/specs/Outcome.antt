-- What the functions of the check give: the definition's outcome, or an error for want of memory.
use Rattle.std.specs.Prelude.{◌≡◌, List, [], ◌∷◌, Result, Ok, Err}
use Rattle.ras_cells.specs.Outcomes.{◌>>=◌}
use Rattle.spec_expressions.specs.Check.{CheckMisfit}
use Rattle.ras_catalog.specs.declared.fault.CheckError.{CheckError}
use Rattle.ras_catalog.specs.declared.fault.CheckError.TheVariants.{Fault, Memory}

abbrev pub Tells : {A : Type 0} → Result A CheckMisfit → Result A CheckError → Type 0
Tells wanted (Ok x) = wanted ≡ Ok x
Tells wanted (Err (Fault span fault)) = wanted ≡ Err (span, fault)
Tells wanted (Err Memory) = Unit {0}

-- the outcome is the wanted one, where memory suffices
pub record IsChecked {A : Type 0} (wanted : Result A CheckMisfit) (outcome : Result A CheckError) : Type 0 where
  pub tells : Tells wanted outcome

-- ---- what comes of the outcomes of parts

-- what the rule makes of a part, or the part's own error
abbrev pub GoesOnOne : {A B : Type 0} → (A → Result B CheckMisfit) → Result A CheckError → Result B CheckError → Type 0
GoesOnOne rule (Ok x) outcome = IsChecked (rule x) outcome
GoesOnOne rule (Err e) outcome = outcome ≡ Err e

-- the same of more parts, the first one's error coming first
abbrev pub GoesOnTwo : {A B C : Type 0} → (A → B → Result C CheckMisfit) → Result A CheckError → Result B CheckError → Result C CheckError → Type 0
GoesOnTwo rule (Ok x) b outcome = GoesOnOne (rule x) b outcome
GoesOnTwo rule (Err e) b outcome = outcome ≡ Err e

abbrev pub GoesOnThree : {A B C D : Type 0} → (A → B → C → Result D CheckMisfit) → Result A CheckError → Result B CheckError → Result C CheckError → Result D CheckError → Type 0
GoesOnThree rule (Ok x) b c outcome = GoesOnTwo (rule x) b c outcome
GoesOnThree rule (Err e) b c outcome = outcome ≡ Err e

abbrev pub GoesOnFour : {A B C D E : Type 0} → (A → B → C → D → Result E CheckMisfit) → Result A CheckError → Result B CheckError → Result C CheckError → Result D CheckError → Result E CheckError → Type 0
GoesOnFour rule (Ok x) b c d outcome = GoesOnThree (rule x) b c d outcome
GoesOnFour rule (Err e) b c d outcome = outcome ≡ Err e

pub record Joins {A B : Type 0} (rule : A → Result B CheckMisfit) (part : Result A CheckError) (outcome : Result B CheckError) : Type 0 where
  pub goes_on : GoesOnOne rule part outcome

pub record JoinsTwo {A B C : Type 0} (rule : A → B → Result C CheckMisfit) (a : Result A CheckError) (b : Result B CheckError) (outcome : Result C CheckError) : Type 0 where
  pub goes_on : GoesOnTwo rule a b outcome

pub record JoinsThree {A B C D : Type 0} (rule : A → B → C → Result D CheckMisfit) (a : Result A CheckError) (b : Result B CheckError) (c : Result C CheckError)
    (outcome : Result D CheckError) : Type 0 where
  pub goes_on : GoesOnThree rule a b c outcome

pub record JoinsFour {A B C D E : Type 0} (rule : A → B → C → D → Result E CheckMisfit) (a : Result A CheckError) (b : Result B CheckError) (c : Result C CheckError)
    (d : Result D CheckError) (outcome : Result E CheckError) : Type 0 where
  pub goes_on : GoesOnFour rule a b c d outcome

-- what is read of a part, or the part's own error
abbrev pub read_of_part : {A B : Type 0} → (A → B) → Result A CheckError → Result B CheckError
read_of_part read (Ok x) = Ok (read x)
read_of_part read (Err e) = Err e

-- a value that a rule lets pass, or what the rule says against it
abbrev pub passed : {A B E : Type 0} → A → Result B E → Result A E
passed a (Ok b) = Ok a
passed a (Err e) = Err e

-- whether there is an outcome, and not which
abbrev pub unit_of : {A E : Type 0} → Result A E → Result (Unit {0}) E
unit_of (Ok a) = Ok tt
unit_of (Err e) = Err e

-- ---- lists

-- each of a list, from left to right
abbrev pub each_of : {A B : Type 0} → (A → Result B CheckMisfit) → List A → Result (List B) CheckMisfit
each_of step [] = Ok []
each_of step (a ∷ items) = do
  x ← step a
  xs ← each_of step items
  Ok (x ∷ xs)
