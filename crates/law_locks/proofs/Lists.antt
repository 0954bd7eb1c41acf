-- Databases that agree on the lists of earlier phases have the same list of the next.
use Rattle.std.proofs.Common.{◌≡◌, zero, suc, Bool, true, false, if◌then◌else◌, List, [], Result, Ok, Err, refl, ap, ◌∙◌, subst, arith}
use Rattle.ras_syntax.specs.declared.statement.Statement.{Statement}
use Rattle.ras_syntax.specs.declared.types.SetType.{SetType}
use Rattle.ras_syntax.specs.declared.typed.Checked.{Checked}
use Rattle.spec_expressions.specs.Check.{CheckMisfit}
use Rattle.spec_expressions.specs.Database.{Database}
use Rattle.spec_statements.specs.Agree.{Agrees}
use Rattle.spec_statements.specs.Phases.{needs_2, needs_3, needs_4}
use Rattle.spec_statements.specs.Locks.{Lock}
use Rattle.spec_statements.specs.Machine.{checked_over, first_list, is_too_long, later_list, list_after_check, needs_of}
use Rattle.spec_statements.specs.ReachLaw.{AreNamedIn, IsSetting, LawOfNeeds}
use Rattle.spec_statements.specs.Statement.{StatementTree, statement_tree_of}
use Rattle.spec_statements.specs.Validity.{IsValidFor}
use Rattle.law_effects.proofs.Phases.{first_is, later_is}
use Rattle.law_locks.proofs.Collections.{checked_same}
use Rattle.law_locks.proofs.Known.{IsKnown, known}
use Rattle.law_locks.proofs.Planned.{needs_4_same}
use Rattle.law_locks.proofs.Steps.{needs_2_same, needs_3_same}

-- the same for both, by whether the first list is too long
whether : {X : Type 0} (b : Bool) (x y z : X) → (b ≡ false → y ≡ z) → (if b then x else y) ≡ (if b then x else z)
whether true x y z same = refl
whether false x y z same = same refl

check_same : {X : Type 0} (f g : Result Checked CheckMisfit → X) (r s : Result Checked CheckMisfit) → r ≡ s → ((fault : CheckMisfit) → f (Err fault) ≡ g (Err fault))
    → ((checked : Checked) → r ≡ Ok checked → f (Ok checked) ≡ g (Ok checked)) → f r ≡ g s
check_same f g r s same faults gives = at r faults gives ∙ ap g same
  where
    at : (r : Result Checked CheckMisfit) → ((fault : CheckMisfit) → f (Err fault) ≡ g (Err fault)) → ((checked : Checked) → r ≡ Ok checked → f (Ok checked) ≡ g (Ok checked)) → f r ≡ g r
    at (Ok checked) faults gives = gives checked refl
    at (Err fault) faults gives = faults fault

abbrev pub IsShort : Statement → Type 0
IsShort statement = is_too_long (first_list statement) ≡ false

module _ (types : List SetType) (statement : Statement) (one other : Database) (list : List Lock) (setting : IsSetting types statement one)
    (valid : IsValidFor types other) (agrees : Agrees types list one other) (first : AreNamedIn (needs_of types statement 1 one) list) where
  pub first_covered : IsShort statement → AreNamedIn (first_list statement) list
  first_covered short = subst (λ l. AreNamedIn l list) (first_is types statement one short) first

  pub later_covered : (needs : StatementTree → Database → List Lock) (checked : Checked) → IsShort statement → checked_over types statement one ≡ Ok checked
      → AreNamedIn (later_list needs types statement one) list → AreNamedIn (needs (statement_tree_of checked) one) list
  later_covered needs checked short is covers = subst (λ l. AreNamedIn l list) (later_is needs types statement one checked short is) covers

  pub known_here : (checked : Checked) → IsShort statement → checked_over types statement one ≡ Ok checked → IsKnown types one other statement (statement_tree_of checked).request
  known_here checked short is = known types statement one other list checked setting valid agrees short (first_covered short) is

  -- what depends on the outcome of the check alone, and then on the databases
  by_check : {X : Type 0} (long : X) (f g : Result Checked CheckMisfit → X) → ((fault : CheckMisfit) → f (Err fault) ≡ g (Err fault))
      → (IsShort statement → (checked : Checked) → checked_over types statement one ≡ Ok checked → f (Ok checked) ≡ g (Ok checked))
      → (if is_too_long (first_list statement) then long else f (checked_over types statement one)) ≡ (if is_too_long (first_list statement) then long else g
      (checked_over types statement other))
  by_check long f g faults gives =
      whether (is_too_long (first_list statement)) long (f (checked_over types statement one)) (g (checked_over types statement other)) (λ short.
      check_same f g (checked_over types statement one) (checked_over types statement other) (checked_same types statement list one other agrees (first_covered short)) faults (gives short))

  later_same : (needs : StatementTree → Database → List Lock)
      → (IsShort statement → (checked : Checked) → checked_over types statement one ≡ Ok checked → needs (statement_tree_of checked) one ≡ needs (statement_tree_of checked) other)
      → later_list needs types statement one ≡ later_list needs types statement other
  later_same needs gives = by_check [] (λ r. list_after_check needs r one) (λ r. list_after_check needs r other) (λ fault. refl) gives

  needs_2_of_same : needs_of types statement 2 one ≡ needs_of types statement 2 other
  needs_2_of_same = later_same needs_2 (λ short checked is. needs_2_same types one other (statement_tree_of checked) (known_here checked short is).over)

  needs_3_of_same : AreNamedIn (needs_of types statement 2 one) list → needs_of types statement 3 one ≡ needs_of types statement 3 other
  needs_3_of_same second =
      later_same needs_3 (λ short checked is. needs_3_same types one other list agrees (statement_tree_of checked) (known_here checked short is).over
      (later_covered needs_2 checked short is second))

  needs_4_of_same : AreNamedIn (needs_of types statement 2 one) list → AreNamedIn (needs_of types statement 3 one) list → needs_of types statement 4 one ≡ needs_of types statement 4 other
  needs_4_of_same second third =
      later_same needs_4 (λ short checked is. needs_4_same types one other list agrees (statement_tree_of checked) (known_here checked short is).over (known_here checked short is).condition
      (later_covered needs_2 checked short is second) (later_covered needs_3 checked short is third))

pub needs_agree : LawOfNeeds
needs_agree types statement one other list zero setting valid agrees covers = refl
needs_agree types statement one other list (suc zero) setting valid agrees covers = refl
needs_agree types statement one other list (suc (suc zero)) setting valid agrees covers =
    needs_2_of_same types statement one other list setting valid agrees (covers 1 (omega arith))
needs_agree types statement one other list (suc (suc (suc zero))) setting valid agrees covers =
    needs_3_of_same types statement one other list setting valid agrees (covers 1 (omega arith)) (covers 2 (omega arith))
needs_agree types statement one other list (suc (suc (suc (suc zero)))) setting valid agrees covers =
    needs_4_of_same types statement one other list setting valid agrees (covers 1 (omega arith)) (covers 2 (omega arith)) (covers 3 (omega arith))
needs_agree types statement one other list (suc (suc (suc (suc (suc phase))))) setting valid agrees covers = refl
