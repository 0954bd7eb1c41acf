-- Where a statement ends with an answer, and what it writes.
use Rattle.std.proofs.Common.{◌≡◌, ℕ, zero, suc, ◌≤◌, true, false, Bool, if◌then◌else◌, List, [], map, Result, Ok, Err, refl, sym, ap, ◌∙◌, arith}
use Rattle.ras_catalog.specs.declared.fault.CheckError.{CheckError}
use Rattle.ras_catalog.specs.declared.fault.CheckError.TheVariants as checks
use Rattle.ras_catalog.specs.Outcome.{IsChecked}
use Rattle.ras_course.specs.Courses.{ComesOf, IsAnswerOf, NeedsNothing}
use Rattle.ras_course.specs.Steps.{coming_of_check, coming_of_fault, coming_of_stop}
use Rattle.ras_course.specs.declared.course.Course.{Course}
use Rattle.ras_course.proofs.Replies.{asked_leaves, asked_on, named_on, values_leave}
use Rattle.ras_reach.proofs.AskedReplies.{asked_reply, reply_as_checked}
use Rattle.ras_reach.specs.Asked.{asked_at}
use Rattle.ras_reach.specs.Needs.{StopsAsNeeds, first_asked}
use Rattle.ras_reach.specs.declared.first.NeedsFault.{NeedsFault}
use Rattle.ras_reach.specs.declared.first.NeedsFault.TheVariants as faults
use Rattle.ras_rows.specs.declared.stop.Stop.{Stop}
use Rattle.ras_rows.specs.declared.stop.Stop.TheVariants as stops
use Rattle.ras_rows.specs.Stops.{IsStop}
use Rattle.ras_syntax.specs.declared.answer.Answer.{Answer}
use Rattle.ras_syntax.specs.declared.answer.Answer.TheVariants.{Value, Check}
use Rattle.ras_syntax.specs.declared.answer.RowValue.{RowValue}
use Rattle.ras_syntax.specs.declared.faults.CheckFault.{CheckFault}
use Rattle.ras_syntax.specs.declared.faults.ShapeFault.TheVariants.{TooManyLocks}
use Rattle.ras_syntax.specs.declared.span.Span.{Span}
use Rattle.ras_syntax.specs.declared.statement.Statement.{Statement}
use Rattle.ras_syntax.specs.declared.types.SetType.{SetType}
use Rattle.ras_syntax.specs.declared.typed.Checked.{Checked}
use Rattle.spec_expressions.specs.Database.{Database}
use Rattle.spec_statements.specs.Effects.{effect_of_checked}
use Rattle.spec_statements.specs.Locks.{Lock}
use Rattle.spec_statements.specs.Machine.{checked_over, effect_after_check, effect_of, first_list, is_too_long, list_after_check, needs_of, reply_after_check, reply_of}
use Rattle.spec_statements.specs.Phases.{list_or_none, needs_2, needs_3, needs_4}
use Rattle.spec_statements.specs.Reply.{Reply, misfit, reply_of_answer, row_reply_of, unchecked, values}
use Rattle.spec_statements.specs.Statement.{StatementTree, statement_tree_of}
use Rattle.spec_statements.specs.Validity.{IsValidFor}
use Rattle.spec_views.specs.Holdings.{Holdings, passing_by}
use Rattle.spec_views.specs.Writings.{applied_in, written_by}
use Rattle.law_effects.proofs.Phases.{first_is, later_is}
use Rattle.law_shapes.proofs.Outcomes.{same_ok, unless_ok}
use Rattle.law_views.proofs.Applied.{effect_as_written}

if-err : {A : Type 0} (b : Bool) (fault : Reply) (a : A) (reply : Reply) → (let r : Result A Reply = if b then Err fault else Ok a in r ≡ Err reply) → (b ≡ true) × (fault ≡ reply)
if-err true fault a reply is = (refl, cc)
if-err false fault a reply is = absurd cc

module _ (types : List SetType) (statement : Statement) (database : Database) where
  -- ---- the first list

  pub first_short : (list : List Lock) → first_asked statement ≡ Ok list → (is_too_long (first_list statement) ≡ false) × (first_list statement ≡ list)
  first_short list is =
      let (short, same) = unless_ok (is_too_long (first_list statement)) _ (Ok (first_list statement)) list is in
      (short, same_ok (first_list statement) list same)

  pub first_needed : (list : List Lock) → first_asked statement ≡ Ok list → needs_of types statement 1 database ≡ list
  first_needed list is = let first = first_short list is in first_is types statement database first.0 ∙ first.1

  module _ (long : is_too_long (first_list statement) ≡ true) where
    long-reply : reply_of types statement database ≡ misfit 0 (record { from = 0; to = statement.length }) TooManyLocks
    long-reply = ap (λ b. if b then misfit 0 (record { from = 0; to = statement.length }) TooManyLocks else reply_after_check (checked_over types statement database) database) long

    long-effect : effect_of types statement database ≡ database
    long-effect = ap (λ b. if b then database else effect_after_check (checked_over types statement database) database) long

    long-needs : (phase : ℕ) → needs_of types statement phase database ≡ []
    long-needs zero = refl
    long-needs (suc zero) = ap (λ b. if b then [] else first_list statement) long
    long-needs (suc (suc zero)) = ap (λ b. if b then [] else list_after_check needs_2 (checked_over types statement database) database) long
    long-needs (suc (suc (suc zero))) = ap (λ b. if b then [] else list_after_check needs_3 (checked_over types statement database) database) long
    long-needs (suc (suc (suc (suc zero)))) = ap (λ b. if b then [] else list_after_check needs_4 (checked_over types statement database) database) long
    long-needs (suc (suc (suc (suc (suc phase))))) = refl

  pub first_ends : (old : Course) (answer : Answer) → first_asked statement ≡ Err (reply_of_answer answer) → IsAnswerOf types statement database old answer
  first_ends old answer is =
      let (long, same) = if-err (is_too_long (first_list statement)) (misfit 0 (record { from = 0; to = statement.length }) TooManyLocks) (first_list statement) (reply_of_answer answer) is in
      record { passed = λ q from to. long-needs long q; reply = sym same ∙ sym (long-reply long); effect = long-effect long }

  pub first_comes : (holdings : Holdings) (old : Course) (fault : NeedsFault) → StopsAsNeeds (first_asked statement) fault
      → ComesOf types statement holdings database old old (coming_of_fault fault)
  first_comes holdings old (faults.Answer answer) is = first_ends old answer is
  first_comes holdings old faults.Memory is = tt

  -- ---- the check

  module _ (short : is_too_long (first_list statement) ≡ false) where
    module _ (span : Span) (fault : CheckFault) (is : checked_over types statement database ≡ Err (span, fault)) where
      check-reply : reply_of types statement database ≡ unchecked span fault
      check-reply = λ i. if short i then misfit 0 (record { from = 0; to = statement.length }) TooManyLocks else reply_after_check (is i) database

      check-effect : effect_of types statement database ≡ database
      check-effect = λ i. if short i then database else effect_after_check (is i) database

      check-needs : (phase : ℕ) → 2 ≤ phase → needs_of types statement phase database ≡ []
      check-needs zero later = refl
      check-needs (suc zero) later = absurd (omega (arith, later))
      check-needs (suc (suc zero)) later = λ i. if short i then [] else list_after_check needs_2 (is i) database
      check-needs (suc (suc (suc zero))) later = λ i. if short i then [] else list_after_check needs_3 (is i) database
      check-needs (suc (suc (suc (suc zero)))) later = λ i. if short i then [] else list_after_check needs_4 (is i) database
      check-needs (suc (suc (suc (suc (suc phase))))) later = refl

      check_ends : (old : Course) → 2 ≤ old.next → IsAnswerOf types statement database old (Check span fault)
      check_ends old later = record { passed = λ q from to. check-needs q (omega (arith, later, from)); reply = sym check-reply; effect = check-effect }

    pub check_comes : (holdings : Holdings) (old : Course) (error : CheckError) → 2 ≤ old.next → (let outcome : Result Checked CheckError = Err error in IsChecked (checked_over types statement database) outcome)
        → ComesOf types statement holdings database old old (coming_of_check error)
    check_comes holdings old (checks.Fault span fault) later is = check_ends span fault is.tells old later
    check_comes holdings old checks.Memory later is = tt

    -- ---- behind the check

    module _ (checked : Checked) (check : checked_over types statement database ≡ Ok checked) where
      abbrev tree : StatementTree
      tree = statement_tree_of checked

      effect-as_checked : effect_of types statement database ≡ effect_of_checked tree database
      effect-as_checked = λ i. if short i then database else effect_after_check (check i) database

      asked-needs : (reply : Reply) (phase : ℕ) → 2 ≤ phase → asked_at phase tree database ≡ Err reply → needs_of types statement phase database ≡ []
      asked-needs reply zero later is = refl
      asked-needs reply (suc zero) later is = absurd (omega (arith, later))
      asked-needs reply (suc (suc zero)) later is = later_is needs_2 types statement database checked short check ∙ ap list_or_none is
      asked-needs reply (suc (suc (suc zero))) later is = later_is needs_3 types statement database checked short check ∙ ap list_or_none is
      asked-needs reply (suc (suc (suc (suc zero)))) later is = later_is needs_4 types statement database checked short check ∙ ap list_or_none is
      asked-needs reply (suc (suc (suc (suc (suc phase))))) later is = refl

      asked_ends : (old : Course) (answer : Answer) (phase : ℕ) → 2 ≤ phase → phase ≤ 4 → phase ≤ old.next → asked_at phase tree database ≡ Err (reply_of_answer answer)
          → IsAnswerOf types statement database old answer
      asked_ends old answer phase from within before is = record {
        passed = λ q after few. asked-needs (reply_of_answer answer) q (omega (arith, from, before, after))
            (asked_on tree database (reply_of_answer answer) phase q from (omega (arith, before, after)) (omega (arith, few)) is);
        reply = sym (reply_as_checked types statement checked database short check ∙ asked_reply tree database (reply_of_answer answer) phase is);
        effect = effect-as_checked ∙ asked_leaves tree database (reply_of_answer answer) phase from within is;
      }

      pub asked_comes : (holdings : Holdings) (old : Course) (phase : ℕ) (fault : NeedsFault) → 2 ≤ phase → phase ≤ 4 → phase ≤ old.next
          → StopsAsNeeds (asked_at phase tree database) fault → ComesOf types statement holdings database old old (coming_of_fault fault)
      asked_comes holdings old phase (faults.Answer answer) from within before is = asked_ends old answer phase from within before is
      asked_comes holdings old phase faults.Memory from within before is = tt

      pub passing_comes : (holdings : Holdings) (old : Course) (stop : Stop) → 4 ≤ old.next → IsStop (passing_by tree database) stop
          → ComesOf types statement holdings database old old (coming_of_stop stop)
      passing_comes holdings old (stops.Answer answer) later is =
          asked_ends old answer 4 (omega arith) (omega arith) later (named_on tree database (reply_of_answer answer) is)
      passing_comes holdings old stops.Memory later is = tt

      -- ---- behind the phases

      nothing-left : (old : Course) → 5 ≤ old.next → NeedsNothing types statement old.next 5 database
      nothing-left old last q from to = absurd (omega (arith, last, from, to))

      pub rows_end : (old : Course) (rows : List RowValue) → 5 ≤ old.next → reply_of types statement database ≡ values (map row_reply_of rows)
          → IsAnswerOf types statement database old (Value rows)
      rows_end old rows last is = record {
        passed = nothing-left old last;
        reply = sym is;
        effect = effect-as_checked
            ∙ values_leave tree database (map row_reply_of rows) (sym (reply_as_checked types statement checked database short check) ∙ is);
      }

      pub stop_ends : (old : Course) (answer : Answer) → 5 ≤ old.next → IsValidFor types database → reply_of types statement database ≡ reply_of_answer answer
          → written_by tree database ≡ Err (reply_of_answer answer) → IsAnswerOf types statement database old answer
      stop_ends old answer last valid is written = record {
        passed = nothing-left old last;
        reply = sym is;
        effect = effect-as_checked ∙ effect_as_written types statement database checked valid check ∙ ap (λ w. applied_in tree.request w database) written;
      }
