-- The steps of a course, by what each call gives.
use Rattle.std.proofs.Common.{◌≡◌, ◌≢◌, ℕ, suc, ◌≤◌, inl, inr, false, List, [], Option, Some, None, Result, Ok, Err, refl, sym, ap, ◌∙◌, subst, arith}
use Rattle.std.specs.Option.{is_some}
use Rattle.std.proofs.lemmas.Bool.{cases_lt}
use Rattle.ras_catalog.specs.declared.fault.CheckError.{CheckError}
use Rattle.ras_catalog.specs.Outcome.{IsChecked}
use Rattle.ras_course.specs.Courses.{ComesOf, HasCheck, HasRows, IsAskedFor, IsComeTo, IsKnown, IsKnownTo, NeedsNothing}
use Rattle.ras_course.specs.Steps.{GoesOver, IsFinish, IsHandedOut, IsPast, IsStep, coming_of_check, coming_of_fault, coming_of_stop}
use Rattle.ras_course.specs.declared.course.Coming.{Coming}
use Rattle.ras_course.specs.declared.course.Coming.TheVariants as comings
use Rattle.ras_course.specs.declared.course.Course.{Course}
use Rattle.ras_course.proofs.Ends.{asked_comes, check_comes, first_comes, first_needed, first_short, passing_comes, rows_end, stop_ends}
use Rattle.ras_course.proofs.Known.{course_over, known_behind, known_behind_first, seen_next}
use Rattle.ras_eval.specs.Seen.{IsComputedAs, IsSeenOne, too_many_locks}
use Rattle.ras_reach.proofs.AskedReplies.{asked_list}
use Rattle.ras_reach.specs.Asked.{IsAskedOne, asked_at}
use Rattle.ras_reach.specs.Needs.{GivesLocks, StopsAsNeeds, first_asked}
use Rattle.ras_reach.specs.declared.first.NeedsFault.{NeedsFault}
use Rattle.ras_rows.specs.declared.stop.Stop.{Stop}
use Rattle.ras_rows.specs.declared.stop.Stop.TheVariants as stops
use Rattle.ras_rows.specs.Stops.{GivesOrStops}
use Rattle.ras_store.specs.declared.write.Computed.{Computed}
use Rattle.ras_store.specs.declared.write.Computed.TheVariants.{Rows, Writes}
use Rattle.ras_store.specs.declared.write.Write.{Write}
use Rattle.ras_syntax.specs.declared.answer.Answer.TheVariants.{Value}
use Rattle.ras_syntax.specs.declared.answer.RowValue.{RowValue}
use Rattle.ras_syntax.specs.declared.statement.Statement.{Statement}
use Rattle.ras_syntax.specs.declared.types.SetType.{SetType}
use Rattle.ras_syntax.specs.declared.typed.Checked.{Checked}
use Rattle.spec_expressions.specs.Database.{Database}
use Rattle.spec_statements.specs.Locks.{Lock}
use Rattle.spec_statements.specs.Machine.{checked_over, first_list, is_too_long, needs_of, reply_of}
use Rattle.spec_statements.specs.ReachLaw.{AreNamedIn}
use Rattle.spec_statements.specs.Statement.{statement_tree_of}
use Rattle.spec_views.specs.Holdings.{Holdings, IsSeenBy, StandsFor, lists_before, passing_by}
use Rattle.law_effects.proofs.Phases.{first_is}
use Rattle.law_views.proofs.Seen.{earlier_listed}
use Rattle.law_views.proofs.Standing.{stands-fewer}

-- ---- what the calls give, over each database for which the view stands

abbrev pub HasNeeds : Holdings → Checked → ℕ → List (ℕ × List ℕ) → Result (List Lock) NeedsFault → Type 0
HasNeeds holdings checked phase rows result =
    (types : List SetType) (statement : Statement) (one other : Database) → IsAskedOne types statement holdings checked phase one
    → IsSeenBy types holdings statement phase other → (phase ≡ 4 → passing_by (statement_tree_of checked) other ≡ Ok rows)
    → GivesLocks (asked_at phase (statement_tree_of checked) other) result

abbrev pub HasPassing : Holdings → Checked → Result (List (ℕ × List ℕ)) Stop → Type 0
HasPassing holdings checked result =
    (types : List SetType) (statement : Statement) (one other : Database) → IsSeenOne types statement holdings checked 4 one
    → (passing_by (statement_tree_of checked) one ≡ Err (too_many_locks (statement_tree_of checked)) → ⊥)
    → IsSeenBy types holdings statement 4 other → GivesOrStops (λ set. set) (passing_by (statement_tree_of checked) other) result

abbrev pub HasComputed : Holdings → Checked → List (ℕ × List ℕ) → Result Computed Stop → Type 0
HasComputed holdings checked rows result =
    (types : List SetType) (statement : Statement) (one other : Database) → IsSeenOne types statement holdings checked 5 one
    → (reply_of types statement one ≡ too_many_locks (statement_tree_of checked) → ⊥) → IsSeenBy types holdings statement 5 other
    → passing_by (statement_tree_of checked) other ≡ Ok rows → IsComputedAs types statement checked other result

pub none_of : {A : Type 0} (a : Option A) → is_some a ≡ false → a ≡ None
none_of None is = refl
none_of (Some x) is = absurd cc

module _ (types : List SetType) (statement : Statement) (holdings : Holdings) where
  -- ---- steps one after another

  nothing-joined : (database : Database) (a b c : ℕ) → NeedsNothing types statement a b database → NeedsNothing types statement b c database
      → NeedsNothing types statement a c database
  nothing-joined database a b c first second q from to =
      elim (cases_lt q b) [ inl before ↦ first q from before | inr behind ↦ second q behind to ]

  comes-before : (other : Database) (old middle new : Course) → old.next ≤ middle.next → NeedsNothing types statement old.next middle.next other → (coming : Coming)
      → ComesOf types statement holdings other middle new coming → ComesOf types statement holdings other old new coming
  comes-before other old middle new on passed (comings.Asks phase list) comes = record {
    behind = omega (arith, on, comes.behind);
    within = comes.within;
    passed = nothing-joined other old.next middle.next phase passed comes.passed;
    list_is = comes.list_is;
    some = comes.some;
    next = comes.next;
    known = comes.known;
  }
  comes-before other old middle new on passed (comings.Answers answer) comes =
      record { passed = nothing-joined other old.next middle.next 5 passed comes.passed; reply = comes.reply; effect = comes.effect }
  comes-before other old middle new on passed (comings.Writes computed) comes = record {
    passed = nothing-joined other old.next middle.next 5 passed comes.passed;
    seen = comes.seen;
    checked = comes.checked;
    kept = comes.kept;
    short = comes.short;
    check = comes.check;
    written = comes.written;
  }
  comes-before other old middle new on passed comings.Memory comes = tt

  goes-joined : (to : ℕ) (one other : Database) (old middle new : Course) → old.next ≤ middle.next → NeedsNothing types statement old.next middle.next other
      → (result : Result (Unit {0}) Coming) → GoesOver to types statement holdings one other middle new result → GoesOver to types statement holdings one other old new result
  goes-joined to one other old middle new on passed (Ok none) goes = record {
    on = omega (arith, on, goes.on);
    reached = goes.reached;
    passed = nothing-joined other old.next middle.next new.next passed goes.passed;
    come = goes.come;
    seen = goes.seen;
  }
  goes-joined to one other old middle new on passed (Err coming) goes = comes-before other old middle new on passed coming goes

module _ {types : List SetType} {statement : Statement} {holdings : Holdings} {old : Course} where
  -- one after another
  pub joined : {from mid to : ℕ} {middle new : Course} {result : Result (Unit {0}) Coming} → IsStep from mid types statement holdings old middle (Ok tt)
      → IsStep mid to types statement holdings middle new result → IsStep from to types statement holdings old new result
  joined {mid = mid} {to = to} {middle = middle} {new = new} {result = result} first second = record {
    goes = λ one other come seen least.
        let past : IsPast mid types statement holdings one other old middle = first.goes one other come seen least in
        goes-joined types statement holdings to one other old middle new past.on past.passed result (second.goes one other past.come past.seen past.reached);
  }

  -- what stops a step stops it, however far it was to go
  pub stopped : {from to further : ℕ} {new : Course} {coming : Coming} → IsStep from to types statement holdings old new (Err coming)
      → IsStep from further types statement holdings old new (Err coming)
  stopped step = record { goes = step.goes }

module _ (types : List SetType) (statement : Statement) (holdings : Holdings) where
  -- ---- the whole way

  pub comes_last : (old new : Course) (coming : Coming) → IsStep 1 5 types statement holdings old new (Ok tt) → IsFinish types statement holdings new coming
      → (one other : Database) → IsComeTo types statement holdings old one → IsSeenBy types holdings statement old.next other
      → ComesOf types statement holdings other old new coming
  comes_last old new coming step finish one other come seen =
      let past : IsPast 5 types statement holdings one other old new = step.goes one other come seen come.known.some in
      comes-before types statement holdings other old new new past.on past.passed coming (finish.finishes one other past.come past.seen past.reached)

  -- ---- past a phase

  come-next : (old new : Course) (database : Database) → IsComeTo types statement holdings old database → needs_of types statement old.next database ≡ []
      → new.next ≡ suc old.next → IsKnown types statement new database → IsComeTo types statement holdings new database
  come-next old new database come none next known = record {
    setting = come.setting;
    seen = subst (λ p. IsSeenBy types holdings statement p database) (sym next) (seen_next types statement holdings database old.next none come.seen);
    part = come.part;
    known = known;
  }

  module _ (phase : ℕ) (old new : Course) (list : List Lock) (within : phase ≤ 4) (at : old.next ≡ phase) (next : new.next ≡ suc phase)
      (listed : (one other : Database) → IsComeTo types statement holdings old one → IsSeenBy types holdings statement old.next other
      → (needs_of types statement phase other ≡ list) × IsKnown types statement new other) where
    nothing-here : (database : Database) → list ≡ [] → needs_of types statement phase database ≡ list → needs_of types statement old.next database ≡ []
    nothing-here database none here = subst (λ p. needs_of types statement p database ≡ []) (sym at) (here ∙ none)

    past-here : list ≡ [] → (one other : Database) → IsComeTo types statement holdings old one → IsSeenBy types holdings statement old.next other
        → IsPast (suc phase) types statement holdings one other old new
    past-here none one other come seen =
        let here = listed one other come seen in
        let itself = listed one one come come.seen in
        let on : new.next ≡ suc old.next = next ∙ ap suc (sym at) in
        record {
          on = omega (arith, on);
          reached = omega (arith, next);
          passed = λ q after before.
              let same : phase ≡ q = omega (arith, at, next, after, before) in
              subst (λ p. needs_of types statement p other ≡ []) same (here.0 ∙ none);
          come = come-next old new one come (nothing-here one none itself.0) on itself.1;
          seen = subst (λ p. IsSeenBy types holdings statement p other) (sym on)
              (seen_next types statement holdings other old.next (nothing-here other none here.0) seen);
        }

    asks-here : list ≢ [] → (one other : Database) → IsComeTo types statement holdings old one → IsSeenBy types holdings statement old.next other
        → IsAskedFor types statement other old new phase list
    asks-here some one other come seen =
        let here = listed one other come seen in
        record {
          behind = omega (arith, at);
          within = within;
          passed = λ q after before. absurd (omega (arith, at, after, before));
          list_is = sym here.0;
          some = some;
          next = next;
          known = here.1;
        }

    goes-past : (result : Result (Unit {0}) Coming) → IsHandedOut phase list result → IsStep phase (suc phase) types statement holdings old new result
    goes-past (Ok passed) none = record { goes = λ one other come seen least. past-here none one other come seen }
    goes-past (Err coming) out = record {
      goes = λ one other come seen least. subst (λ c. ComesOf types statement holdings other old new c) (sym out.0) (asks-here out.1 one other come seen);
    }

  -- ---- the first

  pub first_stops : (old : Course) (fault : NeedsFault) → StopsAsNeeds (first_asked statement) fault
      → IsStep 1 2 types statement holdings old old (Err (coming_of_fault fault))
  first_stops old fault is = record { goes = λ one other come seen least. first_comes types statement other holdings old fault is }

  pub first_goes : (old new : Course) (list : List Lock) (result : Result (Unit {0}) Coming) → old.next ≡ 1 → first_asked statement ≡ Ok list
      → new ≡ record { next = 2; checked = old.checked; rows = old.rows } → IsHandedOut 1 list result → IsStep 1 2 types statement holdings old new result
  first_goes old new list result at asked is out =
      goes-past 1 old new list (omega arith) at (ap (λ (c : Course). c.next) is)
      (λ one other come seen. (
        first_needed types statement other list asked,
        (let known : IsKnownTo types statement 2 old.checked old.rows other =
            subst (λ p. IsKnownTo types statement (suc p) old.checked old.rows other) at
            (known_behind_first types statement other old.next old.checked old.rows at (first_short types statement other list asked).0
            (course_over types statement holdings old one other come seen)) in
            subst (λ c. IsKnown types statement c other) (sym is) known),
      )) result out

  -- ---- the check

  first-stands : (database : Database) (next : ℕ) → is_too_long (first_list statement) ≡ false → 2 ≤ next → IsSeenBy types holdings statement next database
      → StandsFor types holdings (first_list statement) database
  first-stands database next short later seen =
      stands-fewer types holdings (first_list statement) (lists_before types statement next database) database
      (subst (λ l. AreNamedIn l (lists_before types statement next database)) (first_is types statement database short)
      (earlier_listed types statement database 1 next (omega (arith, later)))) seen.stands

  pub check_stops : (old : Course) (error : CheckError)
      → ((database : Database) → StandsFor types holdings (first_list statement) database
      → (let outcome : Result Checked CheckError = Err error in IsChecked (checked_over types statement database) outcome))
      → IsStep 2 2 types statement holdings old old (Err (coming_of_check error))
  check_stops old error given = record {
    goes = λ one other come seen later.
        let short : is_too_long (first_list statement) ≡ false = come.known.short later in
        check_comes types statement other short holdings old error later (given other (first-stands other old.next short later seen));
  }

  found-rows : (next : ℕ) (checked : Checked) (rows : Option (List (ℕ × List ℕ))) (database : Database) → next ≤ 2 → HasRows types statement next None rows database
      → HasRows types statement next (Some checked) rows database
  found-rows next checked None database few has = (has, λ fourth. absurd (omega (arith, few, fourth)))
  found-rows next checked (Some rows) database few has = absurd has

  pub check_found : (old : Course) (found : Option Checked) (checked : Checked) → old.checked ≡ None
      → ((database : Database) → StandsFor types holdings (first_list statement) database
      → (let outcome : Result Checked CheckError = Ok checked in IsChecked (checked_over types statement database) outcome))
      → found ≡ Some checked → IsStep 2 2 types statement holdings old (record { next = old.next; checked = found; rows = old.rows }) (Ok tt)
  check_found old found checked none given is = record {
    goes = λ one other come seen later.
        let short : is_too_long (first_list statement) ≡ false = come.known.short later in
        let few : old.next ≤ 2 = subst (λ c. HasCheck types statement old.next c one) none come.known.has_check in
        let known : IsKnownTo types statement old.next (Some checked) old.rows one = record {
          some = come.known.some;
          within = come.known.within;
          short = come.known.short;
          has_check = (later, (given one (first-stands one old.next short later come.seen)).tells);
          has_rows = found-rows old.next checked old.rows one few (subst (λ c. HasRows types statement old.next c old.rows one) none come.known.has_rows);
        } in
        record {
          on = omega arith;
          reached = later;
          passed = λ q after before. absurd (omega (arith, after, before));
          come = record {
            setting = come.setting;
            seen = come.seen;
            part = come.part;
            known = subst (λ c. IsKnownTo types statement old.next c old.rows one) (sym is) known;
          };
          seen = seen;
        };
  }

  -- ---- behind the check

  module _ (old : Course) (checked : Checked) (kept : old.checked ≡ Some checked) where
    known-here : (database : Database) → IsKnown types statement old database → IsKnownTo types statement old.next (Some checked) old.rows database
    known-here database known = subst (λ c. IsKnownTo types statement old.next c old.rows database) kept known

    passing-here : (rows : List (ℕ × List ℕ)) (database : Database) → old.rows ≡ Some rows → IsKnown types statement old database
        → HasRows types statement old.next (Some checked) (Some rows) database
    passing-here rows database some known =
        subst (λ r. HasRows types statement old.next (Some checked) r database) some (known-here database known).has_rows

    -- ---- the lists of the later phases

    module _ (phase : ℕ) (rows : List (ℕ × List ℕ)) (later : 2 ≤ phase) (within : phase ≤ 4) (at : old.next ≡ phase) (some : phase ≡ 4 → old.rows ≡ Some rows) where
      gives-over : (result : Result (List Lock) NeedsFault) → HasNeeds holdings checked phase rows result → (one other : Database)
          → IsComeTo types statement holdings old one → IsSeenBy types holdings statement old.next other
          → GivesLocks (asked_at phase (statement_tree_of checked) other) result
      gives-over result needs one other come seen =
          needs types statement one other
          (record {
            setting = come.setting;
            short = come.known.short (omega (arith, later, at));
            check = (known-here one come.known).has_check.1;
            seen = subst (λ p. IsSeenBy types holdings statement p one) at come.seen;
            part = come.part;
          })
          (subst (λ p. IsSeenBy types holdings statement p other) at seen)
          (λ fourth. (passing-here rows other (some fourth) (course_over types statement holdings old one other come seen)).1)

      pub later_stops : (fault : NeedsFault) → HasNeeds holdings checked phase rows (Err fault)
          → IsStep phase (suc phase) types statement holdings old old (Err (coming_of_fault fault))
      later_stops fault needs = record {
        goes = λ one other come seen least.
            let known = known-here other (course_over types statement holdings old one other come seen) in
            asked_comes types statement other (known.short (omega (arith, later, at))) checked known.has_check.1 holdings old phase fault later within (omega (arith, at))
            (gives-over (Err fault) needs one other come seen);
      }

      pub later_goes : (new : Course) (list : List Lock) (result : Result (Unit {0}) Coming) → HasNeeds holdings checked phase rows (Ok list)
          → new ≡ record { next = suc phase; checked = old.checked; rows = old.rows } → IsHandedOut phase list result
          → IsStep phase (suc phase) types statement holdings old new result
      later_goes new list result needs is out =
          goes-past phase old new list within at (ap (λ (c : Course). c.next) is)
          (λ one other come seen.
          let known = known-here other (course_over types statement holdings old one other come seen) in
          let short : is_too_long (first_list statement) ≡ false = known.short (omega (arith, later, at)) in
          let asked : asked_at phase (statement_tree_of checked) other ≡ Ok list = gives-over (Ok list) needs one other come seen in
          let behind : IsKnownTo types statement (suc phase) (Some checked) old.rows other =
          known_behind types statement other phase checked list later within short known.has_check.1 asked old.rows
          (λ fourth none. let both : (let r : Option (List (ℕ × List ℕ)) = Some rows in r ≡ None) = sym (some fourth) ∙ none in absurd cc)
          (subst (λ p. IsKnownTo types statement p (Some checked) old.rows other) at known) in
          let kept_behind : IsKnownTo types statement (suc phase) old.checked old.rows other =
          subst (λ c. IsKnownTo types statement (suc phase) c old.rows other) (sym kept) behind in
          (asked_list types statement checked other short known.has_check.1 phase list later asked, subst (λ c. IsKnown types statement c other) (sym is) kept_behind))
          result out

    -- ---- the rows that pass

    seen-one : (phase : ℕ) (one : Database) → old.next ≡ phase → 2 ≤ phase → IsComeTo types statement holdings old one
        → IsSeenOne types statement holdings checked phase one
    seen-one phase one at later come = record {
      setting = come.setting;
      short = come.known.short (omega (arith, later, at));
      check = (known-here one come.known).has_check.1;
      seen = subst (λ p. IsSeenBy types holdings statement p one) at come.seen;
      part = come.part;
    }

    module _ (none : old.rows ≡ None) where
      none-here : (one : Database) → IsComeTo types statement holdings old one → HasRows types statement old.next (Some checked) None one
      none-here one come = subst (λ r. HasRows types statement old.next (Some checked) r one) none (known-here one come.known).has_rows

      passes-over : (result : Result (List (ℕ × List ℕ)) Stop) → HasPassing holdings checked result → (one other : Database) → IsComeTo types statement holdings old one
          → IsSeenBy types holdings statement old.next other → 4 ≤ old.next → GivesOrStops (λ set. set) (passing_by (statement_tree_of checked) other) result
      passes-over result passing one other come seen later =
          let here = none-here one come in
          let at : old.next ≡ 4 = omega (arith, later, here.0) in
          passing types statement one other (seen-one 4 one at (omega arith) come) (here.1 at) (subst (λ p. IsSeenBy types holdings statement p other) at seen)

      pub rows_stop : (stop : Stop) → HasPassing holdings checked (Err stop) → IsStep 4 4 types statement holdings old old (Err (coming_of_stop stop))
      rows_stop stop passing = record {
        goes = λ one other come seen later.
            let known = known-here other (course_over types statement holdings old one other come seen) in
            passing_comes types statement other (known.short (omega (arith, later))) checked known.has_check.1 holdings old stop later
            (passes-over (Err stop) passing one other come seen later);
      }

      pub rows_found : (found : Option (List (ℕ × List ℕ))) (rows : List (ℕ × List ℕ)) → HasPassing holdings checked (Ok rows) → found ≡ Some rows
          → IsStep 4 4 types statement holdings old (record { next = old.next; checked = old.checked; rows = found }) (Ok tt)
      rows_found found rows passing is = record {
        goes = λ one other come seen later.
            let known = known-here one come.known in
            let few : old.next ≤ 4 = (none-here one come).0 in
            let passes : IsKnownTo types statement old.next (Some checked) (Some rows) one = record {
              some = known.some;
              within = known.within;
              short = known.short;
              has_check = known.has_check;
              has_rows = (later, passes-over (Ok rows) passing one one come come.seen later, λ last. absurd (omega (arith, few, last)));
            } in
            record {
              on = omega arith;
              reached = later;
              passed = λ q after before. absurd (omega (arith, after, before));
              come = record {
                setting = come.setting;
                seen = come.seen;
                part = come.part;
                known = subst (λ r. IsKnownTo types statement old.next old.checked r one) (sym is)
                    (subst (λ c. IsKnownTo types statement old.next c (Some rows) one) (sym kept) passes);
              };
              seen = seen;
            };
      }

    -- ---- behind the phases

    module _ (rows : List (ℕ × List ℕ)) (some : old.rows ≡ Some rows) where
      computed-over : (result : Result Computed Stop) → HasComputed holdings checked rows result → (one other : Database) → IsComeTo types statement holdings old one
          → IsSeenBy types holdings statement old.next other → 5 ≤ old.next → IsComputedAs types statement checked other result
      computed-over result computed one other come seen last =
          let at : old.next ≡ 5 = omega (arith, last, come.known.within) in
          computed types statement one other (seen-one 5 one at (omega arith) come) ((passing-here rows one some come.known).2 at)
          (subst (λ p. IsSeenBy types holdings statement p other) at seen)
          (passing-here rows other some (course_over types statement holdings old one other come seen)).1

      pub rows_finish : (list : List RowValue) → HasComputed holdings checked rows (Ok (Rows list)) → IsFinish types statement holdings old (comings.Answers (Value list))
      rows_finish list computed = record {
        finishes = λ one other come seen last.
            let known = known-here other (course_over types statement holdings old one other come seen) in
            rows_end types statement other (known.short (omega (arith, last))) checked known.has_check.1 old list last
            (computed-over (Ok (Rows list)) computed one other come seen last);
      }

      pub writes_finish : (writes : List Write) → HasComputed holdings checked rows (Ok (Writes writes)) → IsFinish types statement holdings old (comings.Writes (Writes writes))
      writes_finish writes computed = record {
        finishes = λ one other come seen last.
            let known = known-here other (course_over types statement holdings old one other come seen) in
            let at : old.next ≡ 5 = omega (arith, last, known.within) in
            record {
              passed = λ q from to. absurd (omega (arith, last, from, to));
              seen = subst (λ p. IsSeenBy types holdings statement p other) at seen;
              checked = checked;
              kept = kept;
              short = known.short (omega (arith, last));
              check = known.has_check.1;
              written = computed-over (Ok (Writes writes)) computed one other come seen last;
            };
      }

      pub stop_finish : (stop : Stop) → HasComputed holdings checked rows (Err stop) → IsFinish types statement holdings old (coming_of_stop stop)
      stop_finish (stops.Answer answer) computed = record {
        finishes = λ one other come seen last.
            let known = known-here other (course_over types statement holdings old one other come seen) in
            let both = computed-over (Err (stops.Answer answer)) computed one other come seen last in
            stop_ends types statement other (known.short (omega (arith, last))) checked known.has_check.1 old answer last seen.valid both.0 both.1;
      }
      stop_finish stops.Memory computed = record { finishes = λ one other come seen last. tt }
