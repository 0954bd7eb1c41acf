-- What is asked for in a phase, or the reply in its place, is the same over two databases that the earlier phases show alike.
use Rattle.std.proofs.Common.{◌≡◌, ℕ, zero, suc, ◌≤◌, true, false, Bool, if◌then◌else◌, List, [], ◌∷◌, Contains, length, nat_lt, Result, Ok, Err, refl, sym, ap, ◌∙◌, subst, arith}
use Rattle.std.specs.List.{AllByRecursion, AllZip}
use Rattle.std.proofs.lemmas.Slice.Zip.{AllZip-long}
use Rattle.ras_cells.specs.declared.cell.CellFault.{CellFault}
use Rattle.ras_cells.specs.Outcomes.{◌>>=◌}
use Rattle.ras_domain.specs.declared.lock.LockName.TheVariants.{Domain}
use Rattle.ras_domain.specs.declared.lock.Mode.TheVariants.{Shared}
use Rattle.ras_syntax.specs.declared.faults.ShapeFault.TheVariants.{TooManyLocks}
use Rattle.ras_syntax.specs.declared.limits.TheConstants.{MAX_LOCKS, MAX_ROWS}
use Rattle.ras_syntax.specs.declared.statement.Statement.{Statement}
use Rattle.ras_syntax.specs.declared.types.SetType.{SetType}
use Rattle.ras_syntax.specs.declared.typed.Checked.{Checked}
use Rattle.ras_syntax.specs.declared.typed.CheckedSource.{CheckedSource}
use Rattle.spec_expressions.specs.Database.{Database}
use Rattle.spec_expressions.specs.Eval.{domains_in}
use Rattle.spec_expressions.specs.Shape.{Shape, ShapeMisfit, shape_of}
use Rattle.spec_expressions.specs.Tree.{Condition, always, only_where}
use Rattle.spec_expressions.specs.WellTyped.{IsWellTypedCondition}
use Rattle.spec_shown.specs.Standing.{IsShown}
use Rattle.spec_statements.specs.Agree.{Agrees}
use Rattle.spec_statements.specs.Limits.{limited_locks, whole_text}
use Rattle.spec_statements.specs.Locks.{Lock, lock_list}
use Rattle.spec_statements.specs.Machine.{first_list, is_too_long, needs_of}
use Rattle.spec_statements.specs.Phases.{domain_locks, first_failing, list_or_none, needs_2, needs_3, needs_4, passing_rows, phase_2_list, phase_3_list}
use Rattle.spec_statements.specs.Phases.{phase_4_list, shaped_condition, until_bodies, until_condition, until_domains, until_passing, until_plans, until_rows}
use Rattle.spec_statements.specs.Plans.{Plan, misfit_in}
use Rattle.spec_statements.specs.ReachLaw.{AreNamedIn}
use Rattle.spec_statements.specs.Reply.{Reply, values, done, faulty, misfit, unchecked}
use Rattle.spec_statements.specs.Rows.{Row, asked_of, environment_of, passing_of, rows_of, sources_of, where_of, with_row_numbers}
use Rattle.spec_statements.specs.Statement.{StatementTree, statement_tree_of}
use Rattle.spec_views.specs.Holdings.{Holdings, IsSeenBy, lists_before}
use Rattle.law_locks.proofs.Lists.{known_here, later_covered}
use Rattle.law_locks.proofs.Pairs.{ArePairs, IsOver, rows_pair, zip-numbered}
use Rattle.law_locks.proofs.Planned.{IsBodyPair, bodies_same, needs_4_same}
use Rattle.law_locks.proofs.Sides.{Alike, Alike-bind, Alike-same, same-Alike, zip-same_flat_map}
use Rattle.law_locks.proofs.Steps.{IsRowAlike, if_alike, needs_3_same, passing_same}
use Rattle.law_views.proofs.Seen.{earlier_listed, seen_agree}
use Rattle.ras_reach.specs.Asked.{asked_at, asked_in_4}
use Rattle.ras_reach.specs.PhaseLists.{asked_in_2, asked_in_3}

-- ---- replies that come before a phase

-- what holds of the reply, where there is one
abbrev pub Stops : {A : Type 0} → (Reply → Type 0) → Result A Reply → Type 0
Stops P (Ok a) = Unit {0}
Stops P (Err reply) = P reply

stops-bind : {A B : Type 0} (P : Reply → Type 0) (r : Result A Reply) (f : A → Result B Reply) → Stops P r → ((a : A) → Stops P (f a)) → Stops P (r >>= f)
stops-bind P (Ok a) f first later = later a
stops-bind P (Err reply) f first later = first

stops-if : {A : Type 0} (P : Reply → Type 0) (b : Bool) (reply : Reply) (a : A) → P reply → Stops P (if b then Err reply else Ok a)
stops-if P true reply a is = is
stops-if P false reply a is = tt

pub the-stop : {A : Type 0} (P : Reply → Type 0) (r : Result A Reply) (reply : Reply) → Stops P r → r ≡ Err reply → P reply
the-stop P (Ok a) reply stops is = absurd cc
the-stop P (Err other) reply stops is = let same : other ≡ reply = cc in subst P same stops

-- a shape or a limit is missed
abbrev pub IsMisfit : Reply → Type 0
IsMisfit (values rows) = ⊥
IsMisfit (done n) = ⊥
IsMisfit (faulty k p fault) = ⊥
IsMisfit (misfit k span fault) = Unit {0}
IsMisfit (unchecked span fault) = ⊥

-- a cell is missed
abbrev pub IsFaulty : Reply → Type 0
IsFaulty (values rows) = ⊥
IsFaulty (done n) = ⊥
IsFaulty (faulty k p fault) = Unit {0}
IsFaulty (misfit k span fault) = ⊥
IsFaulty (unchecked span fault) = ⊥

pub never-both : (reply : Reply) → IsMisfit reply → IsFaulty reply → ⊥
never-both (values rows) one other = one
never-both (done n) one other = one
never-both (faulty k p fault) one other = one
never-both (misfit k span fault) one other = other
never-both (unchecked span fault) one other = one

misfit-stops : (k : ℕ) (r : Result Shape ShapeMisfit) → Stops IsMisfit (misfit_in k r)
misfit-stops k (Ok shape) = tt
misfit-stops k (Err fault) = tt

shaped-stops : (condition : Condition) (rows : List (ℕ × Row)) → Stops IsMisfit (shaped_condition condition rows)
shaped-stops always rows = tt
shaped-stops (only_where c) [] = tt
shaped-stops (only_where c) (row ∷ rows) =
    stops-bind IsMisfit (misfit_in row.0 (shape_of (domains_in (environment_of row.1)) c)) _ (misfit-stops row.0 (shape_of (domains_in (environment_of row.1)) c))
    (λ shape. stops-bind IsMisfit (shaped_condition (only_where c) rows) (λ others. Ok (row ∷ others)) (shaped-stops (only_where c) rows) (λ others. tt))

failing-stops : (r : Result (List (ℕ × Row)) (ℕ × CellFault)) → Stops IsFaulty (first_failing r)
failing-stops (Ok rows) = tt
failing-stops (Err fault) = tt

module _ (tree : StatementTree) where
  pub locks-stop : (list : List Lock) → Stops IsMisfit (limited_locks tree list)
  locks-stop list = stops-if IsMisfit (nat_lt MAX_LOCKS (length list)) (misfit 0 (whole_text tree) TooManyLocks) list tt

  pub passing-stops : (rows : List (ℕ × Row)) → Stops IsFaulty (passing_rows (where_of tree.request) rows)
  passing-stops rows = failing-stops (passing_of (where_of tree.request) rows)

  module _ (database : Database) where
    rows-stop : Stops IsMisfit (until_rows tree database)
    rows-stop = stops-if IsMisfit (nat_lt MAX_ROWS (length (rows_of tree.request database))) _ (with_row_numbers 1 (rows_of tree.request database)) tt

    domains-stop : Stops IsMisfit (until_domains tree database)
    domains-stop =
        stops-bind IsMisfit (until_rows tree database) _ rows-stop
        (λ rows. stops-bind IsMisfit (limited_locks tree (phase_2_list tree rows)) (λ asked. Ok rows) (locks-stop (phase_2_list tree rows)) (λ asked. tt))

    condition-stops : Stops IsMisfit (until_condition tree database)
    condition-stops = stops-bind IsMisfit (until_domains tree database) (shaped_condition (where_of tree.request)) domains-stop (shaped-stops (where_of tree.request))

    pub third-stops : Stops IsMisfit (asked_in_3 tree database)
    third-stops =
        stops-bind IsMisfit (until_condition tree database) (λ rows. limited_locks tree (phase_3_list tree rows)) condition-stops (λ rows. locks-stop (phase_3_list tree rows))

-- ---- a list that is asked for, and what comes after it

module _ {A : Type 0} (r : Result A Reply) (asked : A → Result (List Lock) Reply) (reply : Reply) where
  pub stop-after : {B : Type 0} (more : A → Result B Reply) → (r >>= asked) ≡ Err reply → (r >>= λ a. asked a >>= λ list. more a) ≡ Err reply
  stop-after {B = B} more is = by r refl is
    where
      by : (s : Result A Reply) → r ≡ s → (s >>= asked) ≡ Err reply → (r >>= λ a. asked a >>= λ list. more a) ≡ Err reply
      by (Ok a) same e = ap (λ (s : Result A Reply). s >>= λ a. asked a >>= λ list. more a) same ∙ ap (λ (l : Result (List Lock) Reply). l >>= λ list. more a) e
      by (Err other) same e = let one : other ≡ reply = cc in ap (λ (s : Result A Reply). s >>= λ a. asked a >>= λ list. more a) same ∙ ap Err one

  -- a reply that doesn't come after the list comes before it
  pub stop-before : {B : Type 0} (more : A → Result B Reply) → ((a : A) → more a ≡ Err reply → ⊥) → (r >>= λ a. asked a >>= λ list. more a) ≡ Err reply → (r >>= asked) ≡ Err reply
  stop-before more never is = by r refl is
    where
      at : (a : A) (l : Result (List Lock) Reply) → asked a ≡ l → (l >>= λ list. more a) ≡ Err reply → asked a ≡ Err reply
      at a (Ok list) same e = absurd (never a e)
      at a (Err other) same e = let one : other ≡ reply = cc in same ∙ ap Err one

      by : (s : Result A Reply) → r ≡ s → (s >>= λ a. asked a >>= λ list. more a) ≡ Err reply → (r >>= asked) ≡ Err reply
      by (Ok a) same e = ap (λ (s : Result A Reply). s >>= asked) same ∙ at a (asked a) refl e
      by (Err other) same e = let one : other ≡ reply = cc in ap (λ (s : Result A Reply). s >>= asked) same ∙ ap Err one

-- ---- two outcomes

-- lists are the same where each reply of the one comes in the other
outcomes_same : (r s : Result (List Lock) Reply) → list_or_none r ≡ list_or_none s → ((reply : Reply) → r ≡ Err reply → s ≡ Err reply)
    → ((reply : Reply) → s ≡ Err reply → r ≡ Err reply) → r ≡ s
outcomes_same (Ok x) (Ok y) lists there back = ap Ok lists
outcomes_same (Err reply) s lists there back = sym (there reply refl)
outcomes_same (Ok x) (Err reply) lists there back = back reply refl

alike-stop : {A B : Type 0} (R : A → B → Type 0) (r : Result A Reply) (s : Result B Reply) (reply : Reply) → Alike R r s → r ≡ Err reply → s ≡ Err reply
alike-stop R (Ok a) s reply both is = absurd cc
alike-stop R (Err e) (Ok b) reply both is = absurd both
alike-stop R (Err e) (Err f) reply both is = let one : e ≡ reply = cc in let other : e ≡ f = both in ap Err (sym other ∙ one)

alike-back : {A B : Type 0} (R : A → B → Type 0) (r : Result A Reply) (s : Result B Reply) (reply : Reply) → Alike R r s → s ≡ Err reply → r ≡ Err reply
alike-back R r (Ok b) reply both is = absurd cc
alike-back R (Ok a) (Err f) reply both is = absurd both
alike-back R (Err e) (Err f) reply both is = let one : f ≡ reply = cc in let other : e ≡ f = both in ap Err (other ∙ one)

names-none : (list : List Lock) (none : List Lock) → none ≡ [] → AreNamedIn none list
names-none list none is name named = let has : Contains [] (name, named.0) = subst (λ l. Contains l (name, named.0)) is named.1 in absurd (omega (arith, has.1))

-- ---- the second phase

module _ (types : List SetType) (one other : Database) where
  -- rows with the same number, of members with the same identifiers
  abbrev IsRowPair : List CheckedSource → ℕ × Row → ℕ × Row → Type 0
  IsRowPair sources a b = (a.0 ≡ b.0) × ArePairs types one other sources a.1 b.1

  rows_same : (tree : StatementTree) → AllByRecursion (IsOver types one other) (sources_of tree.request)
      → Alike (AllZip (IsRowPair (sources_of tree.request))) (until_rows tree one) (until_rows tree other)
  rows_same tree over =
      let rows = rows_pair types one other (sources_of tree.request) (asked_of (where_of tree.request)) over in
      if_alike (AllZip (IsRowPair (sources_of tree.request))) (nat_lt MAX_ROWS (length (rows_of tree.request one)))
      (nat_lt MAX_ROWS (length (rows_of tree.request other))) _ (with_row_numbers 1 (rows_of tree.request one)) (with_row_numbers 1 (rows_of tree.request other))
      (ap (nat_lt MAX_ROWS) (sym (AllZip-long (ArePairs types one other (sources_of tree.request)) (rows_of tree.request one) (rows_of tree.request other) rows)))
      (zip-numbered (ArePairs types one other (sources_of tree.request)) 1 (rows_of tree.request one) (rows_of tree.request other) rows)

  domain_locks_same : (sources : List CheckedSource) (k l : ℕ) (r s : Row) → ArePairs types one other sources r s → domain_locks sources (k, r) ≡ domain_locks sources (l, s)
  domain_locks_same [] k l [] [] pairs = refl
  domain_locks_same [] k l [] (b ∷ bs) pairs = absurd pairs
  domain_locks_same [] k l (a ∷ as_) bs pairs = absurd pairs
  domain_locks_same (source ∷ sources) k l [] bs pairs = absurd pairs
  domain_locks_same (source ∷ sources) k l (a ∷ as_) [] pairs = absurd pairs
  domain_locks_same (source ∷ sources) k l (a ∷ as_) (b ∷ bs) pairs =
      λ i. (Domain source.collection (pairs.0.oid i), Shared) ∷ domain_locks_same sources k l as_ bs pairs.1 i

  second-list_same : (tree : StatementTree) (rows others : List (ℕ × Row)) → AllZip (IsRowPair (sources_of tree.request)) rows others
      → phase_2_list tree rows ≡ phase_2_list tree others
  second-list_same tree rows others pairs =
      ap lock_list (zip-same_flat_map (IsRowPair (sources_of tree.request)) (domain_locks (sources_of tree.request)) (domain_locks (sources_of tree.request))
      (λ a b pair. domain_locks_same (sources_of tree.request) a.0 b.0 a.1 b.1 pair.1) rows others pairs)

  second_same : (tree : StatementTree) → AllByRecursion (IsOver types one other) (sources_of tree.request) → asked_in_2 tree one ≡ asked_in_2 tree other
  second_same tree over =
      same-Alike (asked_in_2 tree one) (asked_in_2 tree other)
      (Alike-bind (AllZip (IsRowPair (sources_of tree.request))) (λ x y. x ≡ y) (until_rows tree one) (until_rows tree other)
      (λ rows. limited_locks tree (phase_2_list tree rows)) (λ rows. limited_locks tree (phase_2_list tree rows)) (rows_same tree over)
      (λ rows others left right pairs. Alike-same (λ x y. x ≡ y) (limited_locks tree (phase_2_list tree rows)) (limited_locks tree (phase_2_list tree others))
      (ap (limited_locks tree) (second-list_same tree rows others pairs)) (λ x is. refl)))

  -- ---- the third and the fourth

  module _ (list : List Lock) (agrees : Agrees types list one other) (tree : StatementTree) (over : AllByRecursion (IsOver types one other) (sources_of tree.request))
      (typed : IsWellTypedCondition (sources_of tree.request) [] (where_of tree.request)) (covers : AreNamedIn (needs_2 tree one) list) where
    -- a reply in place of the list comes in the other too, since nothing is asked for
    third-alike : needs_3 tree one ≡ [] → Alike (AllZip (IsRowAlike types one other (sources_of tree.request))) (until_passing tree one) (until_passing tree other)
    third-alike none = passing_same types one other list agrees tree over typed covers (names-none list (needs_3 tree one) none)

    third-after : (database : Database) (reply : Reply) → asked_in_3 tree database ≡ Err reply → until_passing tree database ≡ Err reply
    third-after database reply is =
        stop-after (until_condition tree database) (λ rows. limited_locks tree (phase_3_list tree rows)) reply (passing_rows (where_of tree.request)) is

    third-before : (database : Database) (reply : Reply) → IsMisfit reply → until_passing tree database ≡ Err reply → asked_in_3 tree database ≡ Err reply
    third-before database reply misses is =
        stop-before (until_condition tree database) (λ rows. limited_locks tree (phase_3_list tree rows)) reply (passing_rows (where_of tree.request))
        (λ rows e. never-both reply misses (the-stop IsFaulty (passing_rows (where_of tree.request) rows) reply (passing-stops tree rows) e)) is

    third_same : asked_in_3 tree one ≡ asked_in_3 tree other
    third_same =
        let lists : needs_3 tree one ≡ needs_3 tree other = needs_3_same types one other list agrees tree over covers in
        outcomes_same (asked_in_3 tree one) (asked_in_3 tree other) lists
        (λ reply is. third-before other reply (the-stop IsMisfit (asked_in_3 tree one) reply (third-stops tree one) is)
        (alike-stop (AllZip (IsRowAlike types one other (sources_of tree.request))) (until_passing tree one) (until_passing tree other) reply
        (third-alike (ap list_or_none is)) (third-after one reply is)))
        (λ reply is. third-before one reply (the-stop IsMisfit (asked_in_3 tree other) reply (third-stops tree other) is)
        (alike-back (AllZip (IsRowAlike types one other (sources_of tree.request))) (until_passing tree one) (until_passing tree other) reply
        (third-alike (lists ∙ ap list_or_none is)) (third-after other reply is)))

    module _ (third : AreNamedIn (needs_3 tree one) list) where
      fourth-alike : needs_4 tree one ≡ [] → Alike (AllZip (IsBodyPair types one other tree.request)) (until_bodies tree one) (until_bodies tree other)
      fourth-alike none = bodies_same types one other list agrees tree over typed covers third (names-none list (needs_4 tree one) none)

      fourth-after : (database : Database) (reply : Reply) → asked_in_4 tree database ≡ Err reply → until_bodies tree database ≡ Err reply
      fourth-after database reply is = stop-after (until_plans tree database) (λ plans. limited_locks tree (phase_4_list tree plans)) reply (λ (plans : List Plan). Ok plans) is

      fourth-before : (database : Database) (reply : Reply) → until_bodies tree database ≡ Err reply → asked_in_4 tree database ≡ Err reply
      fourth-before database reply is =
          stop-before (until_plans tree database) (λ plans. limited_locks tree (phase_4_list tree plans)) reply (λ (plans : List Plan). Ok plans) (λ plans e. cc) is

      fourth_same : asked_in_4 tree one ≡ asked_in_4 tree other
      fourth_same =
          let lists : needs_4 tree one ≡ needs_4 tree other = needs_4_same types one other list agrees tree over typed covers third in
          outcomes_same (asked_in_4 tree one) (asked_in_4 tree other) lists
          (λ reply is. fourth-before other reply (alike-stop (AllZip (IsBodyPair types one other tree.request)) (until_bodies tree one) (until_bodies tree other) reply
          (fourth-alike (ap list_or_none is)) (fourth-after one reply is)))
          (λ reply is. fourth-before one reply (alike-back (AllZip (IsBodyPair types one other tree.request)) (until_bodies tree one) (until_bodies tree other) reply
          (fourth-alike (lists ∙ ap list_or_none is)) (fourth-after other reply is)))

-- ---- over what a view shows

module _ (types : List SetType) (statement : Statement) (holdings : Holdings) (checked : Checked) (shown other : Database) (short : is_too_long (first_list statement) ≡ false) where
  abbrev tree : StatementTree
  tree = statement_tree_of checked

  pub asked_seen : (phase : ℕ) → 2 ≤ phase → IsShown types statement holdings checked phase shown → IsSeenBy types holdings statement phase other
      → asked_at phase tree other ≡ asked_at phase tree shown
  asked_seen phase later is seen = sym (by phase later (λ earlier before. earlier_listed types statement shown earlier phase before))
    where
      list : List Lock
      list = lists_before types statement phase shown

      agrees : Agrees types list shown other
      agrees = seen_agree types statement holdings shown other is.setting phase is.seen seen

      by : (p : ℕ) → 2 ≤ p → ((earlier : ℕ) → suc earlier ≤ p → AreNamedIn (needs_of types statement earlier shown) list) → asked_at p tree shown ≡ asked_at p tree other
      by zero from covers = refl
      by (suc zero) from covers = refl
      by (suc (suc zero)) from covers =
          second_same types shown other tree (known_here types statement shown other list is.setting seen.valid agrees (covers 1 (omega arith)) checked short is.check).over
      by (suc (suc (suc zero))) from covers =
          let first = covers 1 (omega arith) in
          let facts = known_here types statement shown other list is.setting seen.valid agrees first checked short is.check in
          third_same types shown other list agrees tree facts.over facts.condition
          (later_covered types statement shown other list is.setting seen.valid agrees first needs_2 checked short is.check (covers 2 (omega arith)))
      by (suc (suc (suc (suc zero)))) from covers =
          let first = covers 1 (omega arith) in
          let facts = known_here types statement shown other list is.setting seen.valid agrees first checked short is.check in
          let covered = later_covered types statement shown other list is.setting seen.valid agrees first in
          fourth_same types shown other list agrees tree facts.over facts.condition (covered needs_2 checked short is.check (covers 2 (omega arith)))
          (covered needs_3 checked short is.check (covers 3 (omega arith)))
      by (suc (suc (suc (suc (suc p))))) from covers = refl
