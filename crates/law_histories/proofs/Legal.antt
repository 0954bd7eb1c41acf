-- What holds of each legal history.
use Rattle.std.proofs.Common.{◌≡◌, ◌≢◌, ℕ, suc, ◌+◌, ◌<◌, ◌≤◌, inl, inr, true, List, [], ◌∷◌, ◌++◌, length, refl, sym, subst, ap, ◌∙◌, arith, length-append, cond}
use Rattle.std.specs.Prelude.{Contains, IsTrue, count_by, is_some, not, ◌||◌}
use Rattle.std.specs.List.{list_any}
use Rattle.std.proofs.lemmas.Bool.{and_parts, cases_lt, false≢true}
use Rattle.std.proofs.lemmas.List.Elements.{Contains-append_cases}
use Rattle.std.proofs.lemmas.List.Sums.{sum_by-cons}
use Rattle.ras_domain.specs.declared.lock.Mode.TheVariants.{Exclusive}
use Rattle.ras_syntax.specs.declared.statement.Statement.{Statement}
use Rattle.spec_expressions.specs.Database.{Database}
use Rattle.spec_statements.specs.Agree.{Agrees}
use Rattle.spec_statements.specs.Reply.{Reply}
use Rattle.spec_statements.specs.Locks.{Lock}
use Rattle.ras_syntax.specs.declared.event.Event.{Event}
use Rattle.ras_syntax.specs.declared.event.Event.TheVariants.{Begun, Granted, Refused, Answered, GaveUp, Committed, Aborted}
use Rattle.spec_histories.specs.History.{History, Programs, database_after, answered_statements, committed_database, begun_at, ends, granted_locks, is_live, events_of, owner_of, program_replies}
use Rattle.spec_histories.specs.Legal.{IsDueList, IsFree, IsLegal, is_begun}
use Rattle.spec_histories.specs.Serializable.{ArePrograms, HasRoom, committed_replies, committed_statements}
use Rattle.law_histories.proofs.Counts.{live-few, room-before}
use Rattle.law_histories.proofs.Good.{IsAsked, IsGood, IsMoved, good-answered, good-begun, good-gave_up, good-granted, good-moved, good-refused}
use Rattle.law_histories.proofs.Grants.{none_within}
use Rattle.law_histories.proofs.Owners.{each_lives, lives, mine-other, no_events-dead}
use Rattle.law_histories.proofs.Runs.{after-append, replies-append, run-leaves, run-ready}
use Rattle.law_histories.proofs.Statements.{IsApart, IsReady}

-- the committed database is ready, each live transaction is good over it, what one locks exclusively no other locks, the committed
-- statements are a run, and no transaction beyond the number of those begun has an event
pub record AreGoodOver (programs : Programs) (bound : ℕ) (past : History) (database : Database) (statements : List Statement) (answers : List Reply) : Type 0 where
  pub ready : IsReady programs (bound + length statements) database
  pub good : (t : ℕ) → IsTrue (is_live t past) → IsGood programs (events_of t past) database
  pub apart : (t u : ℕ) → t ≢ u → IsTrue (is_live t past) → IsTrue (is_live u past)
      → IsApart (granted_locks (events_of t past)) (granted_locks (events_of u past))
  pub same_answers : program_replies programs statements programs.base ≡ answers
  pub last : database_after programs statements programs.base ≡ database
  pub fresh : (t : ℕ) → count_by is_begun past < t → events_of t past ≡ []

abbrev pub AreGood : Programs → ℕ → History → Type 0
AreGood programs bound past =
    AreGoodOver programs bound past (committed_database programs past) (committed_statements programs past) (committed_replies past)

-- ---- transactions that have not begun

begun-more : (event : Event) (past : History) → count_by is_begun (event ∷ past) ≡ cond (is_begun event) 1 0 + count_by is_begun past
begun-more event past = sum_by-cons (λ e. cond (is_begun e) 1 0) event past

fresh-later : (event : Event) (past : History) → owner_of event ≤ count_by is_begun (event ∷ past) → ((t : ℕ) → count_by is_begun past < t → events_of t past ≡ [])
    → (t : ℕ) → count_by is_begun (event ∷ past) < t → events_of t (event ∷ past) ≡ []
fresh-later event past begun fresh t beyond =
    mine-other t event past (λ is. absurd (omega arith)) ∙ fresh t (omega (arith, begun-more event past))

-- a live transaction has begun
live-begun : (past : History) (t : ℕ) → ((u : ℕ) → count_by is_begun past < u → events_of u past ≡ []) → IsTrue (is_live t past) → t ≤ count_by is_begun past
live-begun past t fresh live = elim (cases_lt (count_by is_begun past) t) [
  | inl beyond ↦ absurd (no_events-dead (events_of t past) live (fresh t beyond))
  | inr begun ↦ begun
]

-- and its events are those of one that has begun
known : (event : Event) (past : History) → owner_of event ≤ count_by is_begun past → owner_of event ≤ count_by is_begun (event ∷ past)
known event past begun = omega (arith, begun-more event past)

-- and not when it has ended
dead-after : (event : Event) (own_events : History) → ends event ≡ true → IsTrue (lives (event ∷ own_events)) → ⊥
dead-after event own_events end live =
    false≢true (sym (ap (λ b. not (b || list_any ends own_events)) end) ∙ (and_parts (is_some (begun_at (event ∷ own_events))) (not (list_any ends (event ∷ own_events))) live).1)

-- ---- locks of one and of others

-- the transaction's locks with its new event are apart from those of each other live one, both ways
pub record IsApartFrom (own_events others : History) : Type 0 where
  pub of_others : IsApart (granted_locks own_events) (granted_locks others)
  pub of_own : IsApart (granted_locks others) (granted_locks own_events)

abbrev pub AreNewApart : Event → History → Type 0
AreNewApart event past =
    IsTrue (lives (event ∷ events_of (owner_of event) past)) → (u : ℕ) → owner_of event ≢ u → IsTrue (is_live u past)
    → IsApartFrom (event ∷ events_of (owner_of event) past) (events_of u past)

apart-later : (event : Event) (past : History) → ((t u : ℕ) → t ≢ u → IsTrue (is_live t past) → IsTrue (is_live u past)
    → IsApart (granted_locks (events_of t past)) (granted_locks (events_of u past))) → AreNewApart event past → (t u : ℕ) → t ≢ u → IsTrue (is_live t (event ∷ past))
    → IsTrue (is_live u (event ∷ past)) → IsApart (granted_locks (events_of t (event ∷ past))) (granted_locks (events_of u (event ∷ past)))
apart-later event past apart new t u other live_t live_u =
    each_lives (λ v m. v ≢ u → IsApart (granted_locks m) (granted_locks (events_of u (event ∷ past)))) event past old own t live_t other
  where
    old : (v : ℕ) → owner_of event ≢ v → IsTrue (is_live v past) → v ≢ u → IsApart (granted_locks (events_of v past)) (granted_locks (events_of u (event ∷ past)))
    old v foreign live = each_lives (λ w m. v ≢ w → IsApart (granted_locks (events_of v past)) (granted_locks m)) event past
        (λ w not_own live_w apart_w. apart v w apart_w live live_w) (λ live_own apart_own. (new live_own v foreign live).of_own) u live_u

    own : IsTrue (lives (event ∷ events_of (owner_of event) past)) → owner_of event ≢ u
        → IsApart (granted_locks (event ∷ events_of (owner_of event) past)) (granted_locks (events_of u (event ∷ past)))
    own live = each_lives (λ w m. owner_of event ≢ w → IsApart (granted_locks (event ∷ events_of (owner_of event) past)) (granted_locks m)) event past
        (λ w not_own live_w apart_w. (new live w apart_w live_w).of_others) (λ live_own apart_own. absurd (apart_own refl)) u live_u

-- ---- one event more

-- one that commits nothing
pub step : (programs : Programs) (bound : ℕ) (event : Event) (past : History) (database : Database) (statements : List Statement) (answers : List Reply)
    → AreGoodOver programs bound past database statements answers → owner_of event ≤ count_by is_begun (event ∷ past)
    → (IsTrue (lives (event ∷ events_of (owner_of event) past)) → IsGood programs (event ∷ events_of (owner_of event) past) database) → AreNewApart event past
    → AreGoodOver programs bound (event ∷ past) database statements answers
step programs bound event past database statements answers all begun own apart = record {
  ready = all.ready;
  good = each_lives (λ t m. IsGood programs m database) event past (λ t other live. all.good t live) own;
  apart = apart-later event past all.apart apart;
  same_answers = all.same_answers;
  last = all.last;
  fresh = fresh-later event past begun all.fresh;
}

-- an event of a live transaction that grants nothing
pub step-plain : (programs : Programs) (bound : ℕ) (event : Event) (past : History) (database : Database) (statements : List Statement) (answers : List Reply)
    → AreGoodOver programs bound past database statements answers → IsTrue (is_live (owner_of event) past)
    → granted_locks (event ∷ events_of (owner_of event) past) ≡ granted_locks (events_of (owner_of event) past)
    → (IsTrue (lives (event ∷ events_of (owner_of event) past)) → IsGood programs (event ∷ events_of (owner_of event) past) database)
    → AreGoodOver programs bound (event ∷ past) database statements answers
step-plain programs bound event past database statements answers all live same own =
    step programs bound event past database statements answers all (known event past (live-begun past (owner_of event) all.fresh live)) own
    (λ live_own u other live_u. record {
      of_others = subst (λ list. IsApart list (granted_locks (events_of u past))) (sym same) (all.apart (owner_of event) u other live live_u);
      of_own = subst (λ list. IsApart (granted_locks (events_of u past)) list) (sym same) (all.apart u (owner_of event) (λ is. other (sym is)) live_u live);
    })

-- a new transaction has no events before
pub step-begun : (programs : Programs) (bound t session k : ℕ) (past : History) (database : Database) (statements : List Statement) (answers : List Reply)
    → AreGoodOver programs bound past database statements answers → t ≡ suc (count_by is_begun past) → AreGoodOver programs bound (Begun t session k ∷ past) database statements answers
step-begun programs bound t session k past database statements answers all is =
    step programs bound (Begun t session k) past database statements answers all (omega (arith, begun-more (Begun t session k) past))
    (λ live. subst (λ m. IsGood programs (Begun t session k ∷ m) database) (sym none) (good-begun programs t session k database))
    (λ live u other live_u. record {
      of_others = λ name held named. absurd (none_within (name, Exclusive) (subst (λ m. Contains (granted_locks m) (name, Exclusive)) none held));
      of_own = λ name held named. absurd (none_within (name, named.0) (subst (λ m. Contains (granted_locks m) (name, named.0)) none named.1));
    })
  where
    none : events_of t past ≡ []
    none = all.fresh t (omega arith)

-- a grant is free of what others hold
pub step-granted : (programs : Programs) (bound t k p : ℕ) (list : List Lock) (past : History) (database : Database) (statements : List Statement)
    (answers : List Reply) → AreGoodOver programs bound past database statements answers → IsTrue (is_live t past)
    → (IsGood programs (events_of t past) database → IsGood programs (Granted t k p list ∷ events_of t past) database)
    → ((lock : Lock) → Contains list lock → IsFree past t lock) → AreGoodOver programs bound (Granted t k p list ∷ past) database statements answers
step-granted programs bound t k p list past database statements answers all live own free =
    step programs bound (Granted t k p list) past database statements answers all (known (Granted t k p list) past (live-begun past t all.fresh live))
    (λ still. own (all.good t live))
    (λ still u other live_u. record { of_others = of_others u other live_u; of_own = of_own u other live_u })
  where
    of_others : (u : ℕ) → t ≢ u → IsTrue (is_live u past) → IsApart (list ++ granted_locks (events_of t past)) (granted_locks (events_of u past))
    of_others u other live_u name held named = elim (Contains-append_cases list (granted_locks (events_of t past)) (name, Exclusive) held) [
      | inl new ↦ free (name, Exclusive) new u (record {
        held = (name, named.0);
        holds = record { live = live_u; granted = named.1 };
        conflicts = record
            { same_name = refl; others = other; not_shared = inl refl };
      })
      | inr old ↦ all.apart t u other live live_u name old named
    ]

    of_own : (u : ℕ) → t ≢ u → IsTrue (is_live u past) → IsApart (granted_locks (events_of u past)) (list ++ granted_locks (events_of t past))
    of_own u other live_u name held named = elim (Contains-append_cases list (granted_locks (events_of t past)) (name, named.0) named.1) [
      | inl new ↦ free (name, named.0) new u (record {
        held = (name, Exclusive);
        holds = record { live = live_u; granted = held };
        conflicts = record
            { same_name = refl; others = other; not_shared = inr refl };
      })
      | inr old ↦ all.apart u t (λ is. other (sym is)) live_u live name held (named.0, old)
    ]

-- ---- a commit

-- it leaves what another live transaction has locks on
pub commit-leaves : (programs : Programs) (bound : ℕ) (past : History) (t other : ℕ) → AreGood programs bound past → IsTrue (is_live t past)
    → IsTrue (is_live other past) → other ≢ t → Agrees programs.types (granted_locks (events_of other past)) (committed_database programs past)
    (database_after programs (answered_statements programs (events_of t past)) (committed_database programs past))
commit-leaves programs bound past t other all live live_other apart name mode has =
    sym (run-leaves programs (answered_statements programs (events_of t past)) (bound + length (committed_statements programs past)) (committed_database programs past)
    (granted_locks (events_of t past)) (granted_locks (events_of other past)) all.ready (all.good other live_other).parents (all.good t live).covered
    (all.apart t other (λ is. apart (sym is)) live live_other) name mode has)

-- what another live transaction's run needs to be moved to the next committed database
pub commit-moves : (programs : Programs) (bound : ℕ) (past : History) (t other : ℕ) → AreGood programs bound past → HasRoom bound past → IsLegal programs past
    → IsTrue (is_live t past) → IsTrue (is_live other past) → other ≢ t
    → IsMoved programs (bound + length (committed_statements programs past)) (events_of other past) (committed_database programs past)
    (database_after programs (answered_statements programs (events_of t past)) (committed_database programs past))
commit-moves programs bound past t other all room legal live live_other apart = record {
  ready = all.ready;
  valid = (run-ready programs (answered_statements programs (events_of t past)) (bound + length (committed_statements programs past)) (committed_database programs past) all.ready).valid;
  room = omega (arith, live-few programs past other legal live_other);
  agrees = commit-leaves programs bound past t other all live live_other apart;
}

pub step-committed : (programs : Programs) (bound t number : ℕ) (past : History) → ArePrograms programs bound → AreGood programs bound past → HasRoom bound past
    → IsLegal programs past → IsTrue (is_live t past) → AreGood programs bound (Committed t number ∷ past)
step-committed programs bound t number past are all room legal live = record {
  ready = subst (λ b. IsReady programs b next) longer (run-ready programs run (bound + length committed) (committed_database programs past) all.ready);
  good = each_lives (λ u m. IsGood programs m next) (Committed t number) past
      (λ u other live_u. good-moved programs (bound + length committed) bound (events_of u past) (committed_database programs past) next are
      (commit-moves programs bound past t u all room legal live live_u (λ is. other (sym is))) (all.good u live_u))
      (λ dead. absurd (ended dead));
  apart = apart-later (Committed t number) past all.apart (λ dead. absurd (ended dead));
  same_answers = replies-append programs committed run programs.base
      ∙ ap (λ r. r ++ program_replies programs run (database_after programs committed programs.base)) all.same_answers
      ∙ ap (λ d. committed_replies past ++ program_replies programs run d) all.last
      ∙ ap (λ r. committed_replies past ++ r) (all.good t live).answers;
  last = after-append programs committed run programs.base ∙ ap (λ d. database_after programs run d) all.last;
  fresh = fresh-later (Committed t number) past (known (Committed t number) past (live-begun past t all.fresh live)) all.fresh;
}
  where
    committed : List Statement
    committed = committed_statements programs past

    run : List Statement
    run = answered_statements programs (events_of t past)

    next : Database
    next = database_after programs run (committed_database programs past)

    longer : bound + length committed + length run ≡ bound + length (committed ++ run)
    longer = simp length-append (omega arith)

    ended : IsTrue (lives (Committed t number ∷ events_of t past)) → ⊥
    ended live_after = dead-after (Committed t number) (events_of t past) refl live_after

-- ---- all events

asked-due : (programs : Programs) (past : History) (t k p : ℕ) (list : List Lock) (due : IsDueList programs past t k p list)
    → IsAsked programs (events_of t past) (committed_database programs past) k p list due.statement
asked-due programs past t k p list due = record { text = due.going_on.text; not_closed = due.going_on.not_closed; needed = due.needed; earlier = due.earlier }

pub legal_good : (programs : Programs) (bound : ℕ) (past : History) → ArePrograms programs bound → HasRoom bound past → IsLegal programs past → AreGood programs bound past
legal_good programs bound [] are room legal = record {
  ready = subst (λ b. IsReady programs b programs.base) (omega arith) (record { types_fit = are.types_fit; valid = are.valid; identifiers = are.identifiers });
  good = λ t live. absurd (false≢true live);
  apart = λ t u other live live_u. absurd (false≢true live);
  same_answers = refl;
  last = refl;
  fresh = λ t beyond. refl;
}
legal_good programs bound (Begun t session k ∷ past) are room (may, legal) =
    step-begun programs bound t session k past (committed_database programs past) (committed_statements programs past) (committed_replies past)
    (legal_good programs bound past are room legal) may.0
legal_good programs bound (Granted t k p list ∷ past) are room (may, legal) =
    step-granted programs bound t k p list past (committed_database programs past) (committed_statements programs past) (committed_replies past)
    (legal_good programs bound past are room legal) may.0.going_on.live
    (λ good. good-granted programs (events_of t past) (committed_database programs past) t k p list may.0.statement good (asked-due programs past t k p list may.0)) may.1
legal_good programs bound (Refused t k p name mode holder ∷ past) are room (may, legal) =
    let all = legal_good programs bound past are room legal in
    step-plain programs bound (Refused t k p name mode holder) past (committed_database programs past) (committed_statements programs past) (committed_replies past) all
    may.1.going_on.live refl
    (λ live. good-refused programs (events_of t past) (committed_database programs past) t k p name mode holder (all.good t may.1.going_on.live))
legal_good programs bound (Answered t k answer ∷ past) are room (may, legal) =
    let all = legal_good programs bound past are (room-before bound (Answered t k answer) past room) legal in
    step-plain programs bound (Answered t k answer) past (committed_database programs past) (committed_statements programs past) (committed_replies past) all may.1.live refl
    (λ live. good-answered programs (events_of t past) (committed_database programs past) t k answer may.0 (all.good t may.1.live)
    (record { text = may.1.text; not_closed = may.1.not_closed; alone = may.1.alone; asked = may.2; reply_told = may.3 }))
legal_good programs bound (GaveUp t k ∷ past) are room (may, legal) =
    let all = legal_good programs bound past are room legal in
    step-plain programs bound (GaveUp t k) past (committed_database programs past) (committed_statements programs past) (committed_replies past) all may.0 refl
    (λ live. good-gave_up programs (events_of t past) (committed_database programs past) t k (all.good t may.0))
legal_good programs bound (Committed t number ∷ past) are room (may, legal) =
    step-committed programs bound t number past are (legal_good programs bound past are room legal) room legal may.0
legal_good programs bound (Aborted t ∷ past) are room (may, legal) =
    let all = legal_good programs bound past are room legal in
    step-plain programs bound (Aborted t) past (committed_database programs past) (committed_statements programs past) (committed_replies past) all may refl
    (λ live. absurd (dead-after (Aborted t) (events_of t past) refl live))
