-- What holds of a live transaction's events over the committed database, and that each event of its own keeps it.
use Rattle.std.proofs.Common.{◌≡◌, ◌≢◌, ℕ, ◌+◌, ◌<◌, ◌≤◌, ◌⊎◌, inl, inr, false, eqb, List, [], ◌∷◌, ◌++◌, length, Some, refl, sym, subst, ap, ◌∙◌, arith}
use Rattle.std.specs.Prelude.{Contains, IsTrue, not, ℤ}
use Rattle.std.specs.List.{list_any}
use Rattle.std.proofs.lemmas.List.{map_push}
use Rattle.std.proofs.lemmas.Bool.{or_parts, false≢true, cases_order, eq-eqb, not_from_false, and_from}
use Rattle.std.proofs.lemmas.List.Elements.{Contains-append_left, Contains-append_right, Contains-append_cases}
use Rattle.arrayvec.specs.ArrayVec.{ArrayVec}
use Rattle.ras_domain.specs.declared.lock.LockName.{LockName}
use Rattle.ras_domain.specs.declared.lock.LockName.TheVariants.{Collection, Domain, Tile}
use Rattle.ras_domain.specs.declared.lock.Mode.{Mode}
use Rattle.ras_syntax.specs.declared.answer.Answer.{Answer}
use Rattle.ras_syntax.specs.declared.statement.Statement.{Statement}
use Rattle.spec_expressions.specs.Database.{Database}
use Rattle.spec_statements.specs.Agree.{Agrees}
use Rattle.spec_statements.specs.Reply.{Reply, reply_of_answer}
use Rattle.spec_statements.specs.Locks.{Lock}
use Rattle.spec_statements.specs.ReachLaw.{HasParents, Names}
use Rattle.spec_statements.specs.Validity.{IsValidFor}
use Rattle.law_lists.proofs.Elements.{first_or_later}
use Rattle.ras_syntax.specs.declared.event.Event.{Event}
use Rattle.ras_syntax.specs.declared.event.Event.TheVariants.{Begun, Granted, Refused, Answered, GaveUp}
use Rattle.spec_histories.specs.History.{History, Programs, database_after, answered_statements, numbered_replies_in, closes, granted_locks, grants, has_phase, is_closed, is_open, program_needs, program_replies, replies_in, statement_numbered, program_reply}
use Rattle.spec_histories.specs.Serializable.{ArePrograms}
use Rattle.law_histories.proofs.Grants.{answered-fit, answered-push, grant_of, granted-within, grants_from, none_within, statement_of-fits}
use Rattle.law_histories.proofs.Runs.{IsCovered, IsSameRun, covered-append, covered-more, replies-append, run-ready, run-same, run-valid}
use Rattle.law_histories.proofs.Statements.{IsReady, Within, needs-domains, needs-same, needs-tiles}
use Rattle.ras_syntax.specs.declared.limits.TheConstants.{MAX_IDENTIFIER}

-- the transaction's own database
abbrev pub left_of : Programs → History → Database → Database
left_of programs own_events database = database_after programs (answered_statements programs own_events) database

-- a list that is granted to an open statement
pub record IsOpenGrant (programs : Programs) (own_events : History) (k p : ℕ) (list : List Lock) (statement : Statement) : Type 0 where
  pub t : ℕ
  pub there : Contains own_events (Granted t k p list)
  pub not_closed : is_closed k own_events ≡ false
  pub text : statement_numbered programs own_events k ≡ Some statement

-- the answers are those of a run over the committed database, which the granted locks cover; lists that are granted to an open
-- statement are those that it needs, and the granted locks cover its earlier phases
pub record IsGood (programs : Programs) (own_events : History) (database : Database) : Type 0 where
  pub answers : program_replies programs (answered_statements programs own_events) database ≡ replies_in own_events
  pub covered : IsCovered programs (answered_statements programs own_events) database (granted_locks own_events)
  pub lists : (k p : ℕ) (list : List Lock) (statement : Statement) → IsOpenGrant programs own_events k p list statement
      → list ≡ program_needs programs statement p (left_of programs own_events database)
  pub lower : (k p : ℕ) (list : List Lock) (statement : Statement) → IsOpenGrant programs own_events k p list statement
      → (q : ℕ) → q < p → Within (program_needs programs statement q (left_of programs own_events database)) (granted_locks own_events)
  pub parents : HasParents (granted_locks own_events)

-- an event that grants nothing is none of the grants
later_grant : (event : Event) (past : History) (t k p : ℕ) (list : List Lock) → (event ≡ Granted t k p list → ⊥) → Contains (event ∷ past) (Granted t k p list)
    → Contains past (Granted t k p list)
later_grant event past t k p list other has = elim (first_or_later (Granted t k p list) event past has) [ inl is ↦ absurd (other is) | inr later ↦ later ]

-- the locks of a phase that has its grant, if it needs some, are granted
pub asked-within : (programs : Programs) (own_events : History) (database : Database) (k q : ℕ) (statement : Statement) → IsGood programs own_events database
    → is_closed k own_events ≡ false → statement_numbered programs own_events k ≡ Some statement
    → (program_needs programs statement q (left_of programs own_events database) ≢ [] → IsTrue (has_phase k q own_events))
    → Within (program_needs programs statement q (left_of programs own_events database)) (granted_locks own_events)
asked-within programs own_events database k q statement good not_closed text asked lock has =
    let found = grant_of own_events k q (asked (λ none. none_within lock (subst (λ l. Contains l lock) none has))) in
    granted-within own_events found.t k q found.list found.there lock
    (subst (λ l. Contains l lock) (sym (good.lists k q found.list statement (record { t = found.t; there = found.there; not_closed = not_closed; text = text }))) has)

-- ---- the transaction's own events

pub good-begun : (programs : Programs) (t session k : ℕ) (database : Database) → IsGood programs (Begun t session k ∷ []) database
good-begun programs t session k database = record {
  answers = refl;
  covered = tt;
  lists = λ n p list statement grant. absurd (none_within _ (later_grant (Begun t session k) [] grant.t n p list (λ is. cc) grant.there));
  lower = λ n p list statement grant. absurd (none_within _ (later_grant (Begun t session k) [] grant.t n p list (λ is. cc) grant.there));
  parents = record { domains = λ name id named. absurd (none_within _ named.1); tiles = λ name id place named. absurd (none_within _ named.1) };
}

-- an open statement's grant was there before an event that grants nothing
open-before : (programs : Programs) (event : Event) (past : History) (k p : ℕ) (list : List Lock) (statement : Statement) → ((t : ℕ) → event ≡ Granted t k p list → ⊥)
    → statement_numbered programs (event ∷ past) k ≡ statement_numbered programs past k → IsOpenGrant programs (event ∷ past) k p list statement
    → IsOpenGrant programs past k p list statement
open-before programs event past k p list statement other same grant = record {
  t = grant.t;
  there = later_grant event past grant.t k p list (other grant.t) grant.there;
  not_closed = (or_parts (closes k event) (is_closed k past) grant.not_closed).1;
  text = sym same ∙ grant.text;
}

pub good-refused : (programs : Programs) (past : History) (database : Database) (t k p : ℕ) (name : LockName) (mode : Mode) (holder : ℕ) → IsGood programs past database
    → IsGood programs (Refused t k p name mode holder ∷ past) database
good-refused programs past database t k p name mode holder good = record {
  answers = good.answers;
  covered = good.covered;
  lists = λ n q list statement grant. good.lists n q list statement (open-before programs (Refused t k p name mode holder) past n q list statement (λ u is. cc) refl grant);
  lower = λ n q list statement grant. good.lower n q list statement (open-before programs (Refused t k p name mode holder) past n q list statement (λ u is. cc) refl grant);
  parents = good.parents;
}

pub good-gave_up : (programs : Programs) (past : History) (database : Database) (t k : ℕ) → IsGood programs past database → IsGood programs (GaveUp t k ∷ past) database
good-gave_up programs past database t k good = record {
  answers = good.answers;
  covered = good.covered;
  lists = λ n q list statement grant. good.lists n q list statement (open-before programs (GaveUp t k) past n q list statement (λ u is. cc) refl grant);
  lower = λ n q list statement grant. good.lower n q list statement (open-before programs (GaveUp t k) past n q list statement (λ u is. cc) refl grant);
  parents = good.parents;
}

-- ---- a grant

-- what is asked for and may be granted next
pub record IsAsked (programs : Programs) (past : History) (database : Database) (k p : ℕ) (list : List Lock) (statement : Statement) : Type 0 where
  pub text : statement_numbered programs past k ≡ Some statement
  pub not_closed : is_closed k past ≡ false
  pub needed : list ≡ program_needs programs statement p (left_of programs past database)
  pub earlier : (q : ℕ) → q < p → program_needs programs statement q (left_of programs past database) ≢ [] → IsTrue (has_phase k q past)

-- a name of the list, or of an earlier phase's, is granted then
asked-named : (programs : Programs) (past : History) (database : Database) (k p q : ℕ) (list : List Lock) (statement : Statement) (name : LockName)
    → IsGood programs past database → IsAsked programs past database k p list statement → q ≤ p
    → Names (program_needs programs statement q (left_of programs past database)) name → Names (list ++ granted_locks past) name
asked-named programs past database k p q list statement name good asked before named = elim (cases_order q p) [
  | inl is ↦ (
    named.0,
    Contains-append_left list (granted_locks past) (name, named.0)
        (subst (λ l. Contains l (name, named.0)) (sym asked.needed) (subst (λ n. Contains (program_needs programs statement n (left_of programs past database)) (name, named.0)) is named.1)),
  )
  | inr (inl less) ↦ (
    named.0,
    Contains-append_right list (granted_locks past) (name, named.0)
        (asked-within programs past database k q statement good asked.not_closed asked.text (asked.earlier q less) (name, named.0) named.1),
  )
  | inr (inr more) ↦ absurd (omega arith)
]

parents-granted : (programs : Programs) (past : History) (database : Database) (k p : ℕ) (list : List Lock) (statement : Statement) → IsGood programs past database
    → IsAsked programs past database k p list statement → HasParents (list ++ granted_locks past)
parents-granted programs past database k p list statement good asked = record { domains = domains; tiles = tiles }
  where
    domains : (name : List ℕ) (id : ℕ) → Names (list ++ granted_locks past) (Domain name id) → Names (list ++ granted_locks past) (Collection name)
    domains name id named = elim (Contains-append_cases list (granted_locks past) (Domain name id, named.0) named.1) [
      | inl here ↦ (let above = needs-domains programs statement (left_of programs past database) p name id
          (named.0, subst (λ l. Contains l (Domain name id, named.0)) asked.needed here) in asked-named programs past database k p above.0 list statement
          (Collection name) good asked above.1 above.2)
      | inr old ↦ (let above = good.parents.domains name id (named.0, old) in (above.0, Contains-append_right list (granted_locks past) (Collection name, above.0) above.1))
    ]

    tiles : (name : List ℕ) (id : ℕ) (place : ArrayVec ℤ) → Names (list ++ granted_locks past) (Tile name id place) → Names (list ++ granted_locks past) (Domain name id)
    tiles name id place named = elim (Contains-append_cases list (granted_locks past) (Tile name id place, named.0) named.1) [
      | inl here ↦ (let above = needs-tiles programs statement (left_of programs past database) p name id place
          (named.0, subst (λ l. Contains l (Tile name id place, named.0)) asked.needed here) in asked-named programs past database k p above.0 list statement
          (Domain name id) good asked above.1 above.2)
      | inr old ↦ (let above = good.parents.tiles name id place (named.0, old) in (above.0, Contains-append_right list (granted_locks past) (Domain name id, above.0) above.1))
    ]

-- the open statement's grant is the new one or an old one
abbrev IsNewOrOld : Programs → History → ℕ → ℕ → List Lock → Statement → ℕ → ℕ → List Lock → Statement → Type 0
IsNewOrOld programs past k p list asked n q other statement =
    ((k ≡ n) × (p ≡ q) × (list ≡ other) × (asked ≡ statement)) ⊎ IsOpenGrant programs past n q other statement

new_or_old : (programs : Programs) (past : History) (t k p : ℕ) (list : List Lock) (asked : Statement) (n q : ℕ) (other : List Lock) (statement : Statement)
    → statement_numbered programs past k ≡ Some asked → IsOpenGrant programs (Granted t k p list ∷ past) n q other statement → IsNewOrOld programs past k p list asked n q other statement
new_or_old programs past t k p list asked n q other statement text grant = elim (first_or_later (Granted grant.t n q other) (Granted t k p list) past grant.there) [
  | inl is ↦ (let same : k ≡ n = cc in
      let same_text : Some asked ≡ Some statement = sym text ∙ (subst (λ m. statement_numbered programs past m ≡ Some statement) (sym same) grant.text) in
      inl (same, cc, cc, cc))
  | inr later ↦ inr (record { t = grant.t; there = later; not_closed = grant.not_closed; text = grant.text })
]

pub good-granted : (programs : Programs) (past : History) (database : Database) (t k p : ℕ) (list : List Lock) (statement : Statement) → IsGood programs past database
    → IsAsked programs past database k p list statement → IsGood programs (Granted t k p list ∷ past) database
good-granted programs past database t k p list statement good asked = record {
  answers = good.answers;
  covered = covered-more programs (answered_statements programs past) database (granted_locks past) (list ++ granted_locks past) more good.covered;
  lists = λ n q other text grant. elim (new_or_old programs past t k p list statement n q other text asked.text grant) [
    | inl same ↦ sym same.2 ∙ asked.needed ∙ ap (λ m. program_needs programs statement m (left_of programs past database)) same.1
        ∙ ap (λ s. program_needs programs s q (left_of programs past database)) same.3
    | inr old ↦ good.lists n q other text old
  ];
  lower = λ n q other text grant r less. elim (new_or_old programs past t k p list statement n q other text asked.text grant) [
    | inl same ↦ (λ lock has. more lock (asked-within programs past database k r statement good asked.not_closed asked.text (asked.earlier r (omega arith)) lock
        (subst (λ s. Contains (program_needs programs s r (left_of programs past database)) lock) (sym same.3) has)))
    | inr old ↦ (λ lock has. more lock (good.lower n q other text old r less lock has))
  ];
  parents = parents-granted programs past database k p list statement good asked;
}
  where
    more : Within (granted_locks past) (list ++ granted_locks past)
    more lock has = Contains-append_right list (granted_locks past) lock has

-- ---- an answer

-- a statement that has the locks of all its phases
pub record IsReadyToAnswer (programs : Programs) (past : History) (database : Database) (k : ℕ) (reply : Reply) (statement : Statement) : Type 0 where
  pub text : statement_numbered programs past k ≡ Some statement
  pub not_closed : is_closed k past ≡ false
  pub alone : (other : ℕ) → other ≢ k → is_open other past ≡ false
  pub asked : (p : ℕ) → program_needs programs statement p (left_of programs past database) ≢ [] → IsTrue (has_phase k p past)
  pub reply_told : reply ≡ program_reply programs statement (left_of programs past database)

-- no other statement is open, and this one is closed
none_open : (programs : Programs) (past : History) (t k : ℕ) (answer : Answer) (n p : ℕ) (list : List Lock) (statement : Statement)
    → ((other : ℕ) → other ≢ k → is_open other past ≡ false) → IsOpenGrant programs (Answered t k answer ∷ past) n p list statement → ⊥
none_open programs past t k answer n p list statement alone grant =
    let before = later_grant (Answered t k answer) past grant.t n p list (λ is. cc) grant.there in
    let apart = or_parts (eqb k n) (is_closed n past) grant.not_closed in
    false≢true (sym (alone n (λ is. false≢true (sym apart.0 ∙ eq-eqb k n (sym is))))
    ∙ and_from (list_any (grants n) past) (not (is_closed n past)) (grants_from past grant.t n p list before) (not_from_false (is_closed n past) apart.1))

pub good-answered : (programs : Programs) (past : History) (database : Database) (t k : ℕ) (answer : Answer) (statement : Statement) → IsGood programs past database
    → IsReadyToAnswer programs past database k (reply_of_answer answer) statement → IsGood programs (Answered t k answer ∷ past) database
good-answered programs past database t k answer statement good ready = record {
  answers = ap (λ s. program_replies programs s database) pushed
      ∙ replies-append programs (answered_statements programs past) (statement ∷ []) database
      ∙ ap (λ r. r ++ program_reply programs statement (left_of programs past database) ∷ []) good.answers
      ∙ ap (λ r. replies_in past ++ r ∷ []) (sym ready.reply_told)
      ∙ sym (map_push (λ (one : ℕ × Reply). one.1) (numbered_replies_in past) (k, reply_of_answer answer));
  covered =
      subst (λ s. IsCovered programs s database (granted_locks past)) (sym pushed)
      (covered-append programs (answered_statements programs past) (statement ∷ []) database (granted_locks past) good.covered (within, tt));
  lists = λ n p list text grant. absurd (none_open programs past t k answer n p list text ready.alone grant);
  lower = λ n p list text grant. absurd (none_open programs past t k answer n p list text ready.alone grant);
  parents = good.parents;
}
  where
    pushed : answered_statements programs (Answered t k answer ∷ past) ≡ answered_statements programs past ++ statement ∷ []
    pushed = answered-push programs past k (reply_of_answer answer) statement ready.text

    within : (phase : ℕ) → Within (program_needs programs statement phase (left_of programs past database)) (granted_locks past)
    within phase = asked-within programs past database k phase statement good ready.not_closed ready.text (ready.asked phase)

-- ---- another's commit

-- another database that agrees with the committed one on the granted locks
pub record IsMoved (programs : Programs) (bound : ℕ) (past : History) (one other : Database) : Type 0 where
  pub ready : IsReady programs bound one
  pub valid : IsValidFor programs.types other
  pub room : bound + length (answered_statements programs past) ≤ MAX_IDENTIFIER
  pub agrees : Agrees programs.types (granted_locks past) one other

pub moved-run : (programs : Programs) (bound least : ℕ) (past : History) (one other : Database) → ArePrograms programs least → IsMoved programs bound past one other
    → IsGood programs past one → IsSameRun programs (answered_statements programs past) one other (granted_locks past)
moved-run programs bound least past one other are moved good =
    run-same programs (answered_statements programs past) bound one other (granted_locks past) moved.ready moved.valid moved.room (answered-fit programs least past are)
    moved.agrees good.covered

pub good-moved : (programs : Programs) (bound least : ℕ) (past : History) (one other : Database) → ArePrograms programs least → IsMoved programs bound past one other
    → IsGood programs past one → IsGood programs past other
good-moved programs bound least past one other are moved good = record {
  answers = sym same.answers ∙ good.answers;
  covered = same.covered;
  lists = λ k p list statement grant. good.lists k p list statement grant ∙ needed k p list statement grant p (omega arith);
  lower = λ k p list statement grant q less. subst (λ l. Within l (granted_locks past)) (needed k p list statement grant q (omega arith)) (good.lower k p list statement grant q less);
  parents = good.parents;
}
  where
    same : IsSameRun programs (answered_statements programs past) one other (granted_locks past)
    same = moved-run programs bound least past one other are moved good

    needed : (k p : ℕ) (list : List Lock) (statement : Statement) → IsOpenGrant programs past k p list statement → (q : ℕ) → q ≤ p
        → program_needs programs statement q (left_of programs past one) ≡ program_needs programs statement q (left_of programs past other)
    needed k p list statement grant q before =
        needs-same programs (bound + length (answered_statements programs past)) statement (left_of programs past one) (left_of programs past other) (granted_locks past) q
        (run-ready programs (answered_statements programs past) bound one moved.ready) moved.room
        (run-valid programs (answered_statements programs past) other moved.ready.types_fit moved.valid)
        (statement_of-fits programs least past k statement are grant.text) same.agrees
        (λ r less. good.lower k p list statement grant r (omega arith))
