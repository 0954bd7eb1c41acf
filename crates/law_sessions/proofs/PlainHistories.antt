-- A history stays legal where its answers lose their room: no rule looks at it.
use Rattle.std.proofs.Common.{◌≡◌, ℕ, Bool, true, false, not, ◌&&◌, ◌||◌, ◌==◌, if◌then◌else◌, List, [], ◌∷◌, ◌++◌, map, Contains, cond, ◌+◌, refl, sym, ap, ◌∙◌, subst}
use Rattle.std.specs.Prelude.{count_by, is_some}
use Rattle.std.specs.List.{list_any}
use Rattle.ras_syntax.specs.declared.answer.Answer.{Answer}
use Rattle.ras_syntax.specs.declared.answer.Answer.TheVariants as answers
use Rattle.ras_syntax.specs.declared.answer.RowValue.{RowValue}
use Rattle.ras_syntax.specs.declared.answer.RowValue.TheVariants as rows
use Rattle.ras_syntax.specs.declared.event.Event.{Event}
use Rattle.ras_syntax.specs.declared.event.Event.TheVariants.{Begun, Granted, Refused, Answered, GaveUp, Committed, Aborted}
use Rattle.ras_syntax.specs.declared.statement.Statement.{Statement}
use Rattle.spec_histories.specs.History.{History, Programs, answered_statements, begun_at, closes, committed_database, database_after, ends, events_of, granted_locks, grants, grants_phase, has_phase, is_closed, is_live, is_open, numbered_replies_in, own_database, owner_of, program_needs, program_reply, statement_from, statement_numbered, statements_of, with_statement}
use Rattle.spec_histories.specs.Legal.{IsBlockedBy, IsDueList, IsFirstBlocked, IsFree, IsGoingOn, MayFollow, is_begun, is_committed}
use Rattle.spec_statements.specs.Locks.{Lock}
use Rattle.spec_statements.specs.Reply.{reply_of_answer, row_reply_of}
use Rattle.std.proofs.lemmas.List.Sums.{sum_by-cons}
use Rattle.law_sessions.specs.Plain.{plain_answer, plain_event, plain_row}

-- ---- answers

row-reply : (row : RowValue) → row_reply_of (plain_row row) ≡ row_reply_of row
row-reply (rows.Scalar cell) = refl
row-reply (rows.Domain axes) = refl
row-reply (rows.Array axes cells) = refl

rows-reply : (xs : List RowValue) → map row_reply_of (map plain_row xs) ≡ map row_reply_of xs
rows-reply [] = refl
rows-reply (x ∷ xs) = let e = row-reply x in let f = rows-reply xs in λ i. e i ∷ f i

pub plain-reply : (answer : Answer) → reply_of_answer (plain_answer answer) ≡ reply_of_answer answer
plain-reply (answers.Value xs) = let e = rows-reply xs in cc
plain-reply (answers.Done n) = refl
plain-reply (answers.Fault row point fault) = refl
plain-reply (answers.Shape row span fault) = refl
plain-reply (answers.Check span fault) = refl

row-again : (row : RowValue) → plain_row (plain_row row) ≡ plain_row row
row-again (rows.Scalar cell) = refl
row-again (rows.Domain axes) = refl
row-again (rows.Array axes cells) = refl

rows-again : (xs : List RowValue) → map plain_row (map plain_row xs) ≡ map plain_row xs
rows-again [] = refl
rows-again (x ∷ xs) = let e = row-again x in let f = rows-again xs in λ i. e i ∷ f i

answer-again : (answer : Answer) → plain_answer (plain_answer answer) ≡ plain_answer answer
answer-again (answers.Value xs) = ap answers.Value (rows-again xs)
answer-again (answers.Done n) = refl
answer-again (answers.Fault row point fault) = refl
answer-again (answers.Shape row span fault) = refl
answer-again (answers.Check span fault) = refl

pub plain-again : (event : Event) → plain_event (plain_event event) ≡ plain_event event
plain-again (Begun t session k) = refl
plain-again (Granted t k p list) = refl
plain-again (Refused t k p name mode holder) = refl
plain-again (Answered t k answer) = ap (Answered t k) (answer-again answer)
plain-again (GaveUp t k) = refl
plain-again (Committed t n) = refl
plain-again (Aborted t) = refl

-- ---- tests of events

owner-plain : (event : Event) → owner_of (plain_event event) ≡ owner_of event
owner-plain (Begun t session k) = refl
owner-plain (Granted t k p list) = refl
owner-plain (Refused t k p name mode holder) = refl
owner-plain (Answered t k answer) = refl
owner-plain (GaveUp t k) = refl
owner-plain (Committed t n) = refl
owner-plain (Aborted t) = refl

ends-plain : (event : Event) → ends (plain_event event) ≡ ends event
ends-plain (Begun t session k) = refl
ends-plain (Granted t k p list) = refl
ends-plain (Refused t k p name mode holder) = refl
ends-plain (Answered t k answer) = refl
ends-plain (GaveUp t k) = refl
ends-plain (Committed t n) = refl
ends-plain (Aborted t) = refl

closes-plain : (j : ℕ) (event : Event) → closes j (plain_event event) ≡ closes j event
closes-plain j (Begun t session k) = refl
closes-plain j (Granted t k p list) = refl
closes-plain j (Refused t k p name mode holder) = refl
closes-plain j (Answered t k answer) = refl
closes-plain j (GaveUp t k) = refl
closes-plain j (Committed t n) = refl
closes-plain j (Aborted t) = refl

grants-plain : (j : ℕ) (event : Event) → grants j (plain_event event) ≡ grants j event
grants-plain j (Begun t session k) = refl
grants-plain j (Granted t k p list) = refl
grants-plain j (Refused t k p name mode holder) = refl
grants-plain j (Answered t k answer) = refl
grants-plain j (GaveUp t k) = refl
grants-plain j (Committed t n) = refl
grants-plain j (Aborted t) = refl

phase-plain : (j q : ℕ) (event : Event) → grants_phase j q (plain_event event) ≡ grants_phase j q event
phase-plain j q (Begun t session k) = refl
phase-plain j q (Granted t k p list) = refl
phase-plain j q (Refused t k p name mode holder) = refl
phase-plain j q (Answered t k answer) = refl
phase-plain j q (GaveUp t k) = refl
phase-plain j q (Committed t n) = refl
phase-plain j q (Aborted t) = refl

begun-plain : (event : Event) → is_begun (plain_event event) ≡ is_begun event
begun-plain (Begun t session k) = refl
begun-plain (Granted t k p list) = refl
begun-plain (Refused t k p name mode holder) = refl
begun-plain (Answered t k answer) = refl
begun-plain (GaveUp t k) = refl
begun-plain (Committed t n) = refl
begun-plain (Aborted t) = refl

committed-plain : (event : Event) → is_committed (plain_event event) ≡ is_committed event
committed-plain (Begun t session k) = refl
committed-plain (Granted t k p list) = refl
committed-plain (Refused t k p name mode holder) = refl
committed-plain (Answered t k answer) = refl
committed-plain (GaveUp t k) = refl
committed-plain (Committed t n) = refl
committed-plain (Aborted t) = refl

-- ---- words of histories

abbrev pub plains : History → History
plains = map plain_event

any-plain : (p : Event → Bool) → ((event : Event) → p (plain_event event) ≡ p event) → (past : History) → list_any p (plains past) ≡ list_any p past
any-plain p same [] = refl
any-plain p same (event ∷ past) = let e = same event in let f = any-plain p same past in λ i. e i || f i

count-plain : (p : Event → Bool) → ((event : Event) → p (plain_event event) ≡ p event) → (past : History) → count_by p (plains past) ≡ count_by p past
count-plain p same [] = refl
count-plain p same (event ∷ past) =
    sum_by-cons (λ e. cond (p e) 1 0) (plain_event event) (plains past) ∙ (let e = same event in let f = count-plain p same past in λ i. cond (e i) 1 0 + f i)
    ∙ sym (sum_by-cons (λ e. cond (p e) 1 0) event past)

own-plain : (t : ℕ) (past : History) → events_of t (plains past) ≡ plains (events_of t past)
own-plain t [] = refl
own-plain t (event ∷ past) =
    (let e = owner-plain event in let f = own-plain t past in λ i. if e i == t then plain_event event ∷ f i else f i) ∙ at (owner_of event == t)
  where
    at : (b : Bool) → (if b then plain_event event ∷ plains (events_of t past) else plains (events_of t past)) ≡ plains (if b then event ∷ events_of t past else events_of t past)
    at true = refl
    at false = refl

begun_at-plain : (own_events : History) → begun_at (plains own_events) ≡ begun_at own_events
begun_at-plain [] = refl
begun_at-plain (Begun t session k ∷ past) = refl
begun_at-plain (Granted t k p list ∷ past) = begun_at-plain past
begun_at-plain (Refused t k p name mode holder ∷ past) = begun_at-plain past
begun_at-plain (Answered t k answer ∷ past) = begun_at-plain past
begun_at-plain (GaveUp t k ∷ past) = begun_at-plain past
begun_at-plain (Committed t n ∷ past) = begun_at-plain past
begun_at-plain (Aborted t ∷ past) = begun_at-plain past

locks-plain : (own_events : History) → granted_locks (plains own_events) ≡ granted_locks own_events
locks-plain [] = refl
locks-plain (Begun t session k ∷ past) = locks-plain past
locks-plain (Granted t k p list ∷ past) = ap (λ l. list ++ l) (locks-plain past)
locks-plain (Refused t k p name mode holder ∷ past) = locks-plain past
locks-plain (Answered t k answer ∷ past) = locks-plain past
locks-plain (GaveUp t k ∷ past) = locks-plain past
locks-plain (Committed t n ∷ past) = locks-plain past
locks-plain (Aborted t ∷ past) = locks-plain past

replies-plain : (own_events : History) → numbered_replies_in (plains own_events) ≡ numbered_replies_in own_events
replies-plain [] = refl
replies-plain (Begun t session k ∷ past) = replies-plain past
replies-plain (Granted t k p list ∷ past) = replies-plain past
replies-plain (Refused t k p name mode holder ∷ past) = replies-plain past
replies-plain (Answered t k answer ∷ past) =
    let e = replies-plain past in let f = plain-reply answer in λ i. e i ++ (k, f i) ∷ []
replies-plain (GaveUp t k ∷ past) = replies-plain past
replies-plain (Committed t n ∷ past) = replies-plain past
replies-plain (Aborted t ∷ past) = replies-plain past

module _ (programs : Programs) where
  numbered-plain : (own_events : History) (k : ℕ) → statement_numbered programs (plains own_events) k ≡ statement_numbered programs own_events k
  numbered-plain own_events k = ap (λ begun. statement_from programs begun k) (begun_at-plain own_events)

  statements-plain : (own_events : History) (replies : List _) → statements_of programs (plains own_events) replies ≡ statements_of programs own_events replies
  statements-plain own_events [] = refl
  statements-plain own_events (one ∷ more) =
      let e = numbered-plain own_events one.0 in let f = statements-plain own_events more in λ i. with_statement (e i) (f i)

  answered-plain : (own_events : History) → answered_statements programs (plains own_events) ≡ answered_statements programs own_events
  answered-plain own_events = ap (statements_of programs (plains own_events)) (replies-plain own_events) ∙ statements-plain own_events (numbered_replies_in own_events)

  base-plain : (past : History) → committed_database programs (plains past) ≡ committed_database programs past
  base-plain [] = refl
  base-plain (Begun t session k ∷ past) = base-plain past
  base-plain (Granted t k p list ∷ past) = base-plain past
  base-plain (Refused t k p name mode holder ∷ past) = base-plain past
  base-plain (Answered t k answer ∷ past) = base-plain past
  base-plain (GaveUp t k ∷ past) = base-plain past
  base-plain (Committed t n ∷ past) =
      let e = ap (answered_statements programs) (own-plain t past) ∙ answered-plain (events_of t past) in
      let f = base-plain past in
      λ i. database_after programs (e i) (f i)
  base-plain (Aborted t ∷ past) = base-plain past

  database-plain : (past : History) (t : ℕ) → own_database programs (plains past) t ≡ own_database programs past t
  database-plain past t =
      let e = ap (answered_statements programs) (own-plain t past) ∙ answered-plain (events_of t past) in
      let f = base-plain past in
      λ i. database_after programs (e i) (f i)

-- what a transaction's events tell
live-plain : (past : History) (t : ℕ) → is_live t (plains past) ≡ is_live t past
live-plain past t =
    ap (λ m. is_some (begun_at m) && not (list_any ends m)) (own-plain t past)
    ∙ (let e = begun_at-plain (events_of t past) in let f = any-plain ends ends-plain (events_of t past) in λ i. is_some (e i) && not (f i))

home-plain : (past : History) (t : ℕ) → begun_at (events_of t (plains past)) ≡ begun_at (events_of t past)
home-plain past t = ap begun_at (own-plain t past) ∙ begun_at-plain (events_of t past)

closed-plain : (past : History) (t k : ℕ) → is_closed k (events_of t (plains past)) ≡ is_closed k (events_of t past)
closed-plain past t k = ap (is_closed k) (own-plain t past) ∙ any-plain (closes k) (closes-plain k) (events_of t past)

has_phase-plain : (past : History) (t k p : ℕ) → has_phase k p (events_of t (plains past)) ≡ has_phase k p (events_of t past)
has_phase-plain past t k p = ap (has_phase k p) (own-plain t past) ∙ any-plain (grants_phase k p) (phase-plain k p) (events_of t past)

open-plain : (past : History) (t k : ℕ) → is_open k (events_of t (plains past)) ≡ is_open k (events_of t past)
open-plain past t k =
    ap (is_open k) (own-plain t past)
    ∙ (let e = any-plain (grants k) (grants-plain k) (events_of t past) in let f = any-plain (closes k) (closes-plain k) (events_of t past) in λ i. e i && not (f i))

held-plain : (past : History) (t : ℕ) → granted_locks (events_of t (plains past)) ≡ granted_locks (events_of t past)
held-plain past t = ap granted_locks (own-plain t past) ∙ locks-plain (events_of t past)

-- ---- what may follow

module _ (programs : Programs) (past : History) where
  text-plain : (t k : ℕ) → statement_numbered programs (events_of t (plains past)) k ≡ statement_numbered programs (events_of t past) k
  text-plain t k = ap (λ begun. statement_from programs begun k) (home-plain past t)

  going-plain : (t k : ℕ) (statement : Statement) → IsGoingOn programs past t k statement → IsGoingOn programs (plains past) t k statement
  going-plain t k statement is = record {
    live = live-plain past t ∙ is.live;
    text = text-plain t k ∙ is.text;
    data_statement = is.data_statement;
    not_closed = closed-plain past t k ∙ is.not_closed;
    alone = λ other apart. open-plain past t other ∙ is.alone other apart;
  }

  needs-plain : (statement : Statement) (p t : ℕ) → program_needs programs statement p (own_database programs (plains past) t) ≡ program_needs programs statement p (own_database programs past t)
  needs-plain statement p t = ap (program_needs programs statement p) (database-plain programs past t)

  due-plain : (t k p : ℕ) (list : List Lock) → IsDueList programs past t k p list → IsDueList programs (plains past) t k p list
  due-plain t k p list is = record {
    statement = is.statement;
    going_on = going-plain t k is.statement is.going_on;
    needed = is.needed ∙ sym (needs-plain is.statement p t);
    some_locks = is.some_locks;
    earlier = λ q before some. has_phase-plain past t k q ∙ is.earlier q before (λ none. some (needs-plain is.statement q t ∙ none));
    not_granted = has_phase-plain past t k p ∙ is.not_granted;
  }

  blocked-plain : (t holder : ℕ) (lock : Lock) → IsBlockedBy past t lock holder → IsBlockedBy (plains past) t lock holder
  blocked-plain t holder lock is = record {
    held = is.held;
    holds = record {
      live = live-plain past holder ∙ is.holds.live;
      granted = subst (λ l. Contains {X = Lock} l is.held) (sym (held-plain past holder)) is.holds.granted;
    };
    conflicts = is.conflicts;
  }

  blocked-before : (t holder : ℕ) (lock : Lock) → IsBlockedBy (plains past) t lock holder → IsBlockedBy past t lock holder
  blocked-before t holder lock is = record {
    held = is.held;
    holds = record {
      live = sym (live-plain past holder) ∙ is.holds.live;
      granted = subst (λ l. Contains {X = Lock} l is.held) (held-plain past holder) is.holds.granted;
    };
    conflicts = is.conflicts;
  }

  free-plain : (t : ℕ) (lock : Lock) → IsFree past t lock → IsFree (plains past) t lock
  free-plain t lock free holder blocked = free holder (blocked-before t holder lock blocked)

  first-plain : (t holder : ℕ) (list : List Lock) (lock : Lock) → IsFirstBlocked past t list lock holder → IsFirstBlocked (plains past) t list lock holder
  first-plain t holder list lock is = record {
    before = is.before;
    behind = is.behind;
    parts = is.parts;
    free_before = λ other has. free-plain t other (is.free_before other has);
    blocked = blocked-plain t holder lock is.blocked;
    least = λ other blocked. is.least other (blocked-before t other lock blocked);
  }

  pub may-plain : (event : Event) → MayFollow programs past event → MayFollow programs (plains past) (plain_event event)
  may-plain (Begun t session k) may = (
    may.0 ∙ ap ℕ.suc (sym (count-plain is_begun begun-plain past)),
    may.1,
    (λ other at live home. may.2 other at (sym (live-plain past other) ∙ live) (sym (home-plain past other) ∙ home)),
  )
  may-plain (Granted t k p list) may = (due-plain t k p list may.0, (λ lock has. free-plain t lock (may.1 lock has)))
  may-plain (Refused t k p name mode holder) may = (may.0, due-plain t k p may.0 may.1, first-plain t holder may.0 (name, mode) may.2)
  may-plain (Answered t k answer) may = (
    may.0,
    going-plain t k may.0 may.1,
    (λ p some. has_phase-plain past t k p ∙ may.2 p (λ none. some (needs-plain may.0 p t ∙ none))),
    plain-reply answer ∙ may.3 ∙ ap (program_reply programs may.0) (sym (database-plain programs past t)),
  )
  may-plain (GaveUp t k) may = (live-plain past t ∙ may.0, closed-plain past t k ∙ may.1)
  may-plain (Committed t n) may = (live-plain past t ∙ may.0, may.1 ∙ ap ℕ.suc (sym (count-plain is_committed committed-plain past)))
  may-plain (Aborted t) may = live-plain past t ∙ may
