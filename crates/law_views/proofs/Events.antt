-- A live transaction's work follows its events: it begins with nothing, takes what it is granted, and goes on by what it is
-- answered. Its other events leave it as it is.
use Rattle.std.proofs.Common.{◌≡◌, ◌≢◌, ℕ, ◌+◌, List, [], ◌∷◌, ◌++◌, length, Some, refl, sym, ap, ◌∙◌, subst, arith, inl, inr}
use Rattle.std.specs.Prelude.{IsTrue}
use Rattle.std.proofs.lemmas.List.Elements.{Contains-append_cases, Contains-append_left, Contains-append_right}
use Rattle.ras_domain.specs.declared.lock.LockName.{LockName}
use Rattle.ras_domain.specs.declared.lock.Mode.{Mode}
use Rattle.ras_syntax.specs.declared.answer.Answer.{Answer}
use Rattle.ras_syntax.specs.declared.event.Event.{Event}
use Rattle.ras_syntax.specs.declared.event.Event.TheVariants.{Begun, Granted, Refused, Answered, GaveUp}
use Rattle.ras_syntax.specs.declared.statement.Statement.{Statement}
use Rattle.spec_expressions.specs.Database.{Database}
use Rattle.spec_statements.specs.Locks.{Lock}
use Rattle.spec_statements.specs.Machine.{effect_of}
use Rattle.spec_statements.specs.ReachLaw.{AreNamedIn, IsSetting, Names}
use Rattle.spec_statements.specs.Reply.{reply_of_answer}
use Rattle.spec_histories.specs.History.{History, Programs, answered_statements, committed_database, events_of, granted_locks, has_phase, own_database, owner_of, program_needs, statement_numbered}
use Rattle.spec_histories.specs.Legal.{IsGoingOn, IsLegal}
use Rattle.spec_histories.specs.Serializable.{ArePrograms, HasRoom, committed_statements}
use Rattle.law_histories.proofs.Counts.{live-few}
use Rattle.law_histories.proofs.Good.{asked-within}
use Rattle.law_histories.proofs.Grants.{answered-push, statement_of-fits}
use Rattle.law_histories.proofs.Legal.{AreGood, legal_good}
use Rattle.law_histories.proofs.Owners.{lives, mine-own}
use Rattle.law_histories.proofs.Runs.{run-ready}
use Rattle.law_histories.proofs.Statements.{setting_of}
use Rattle.spec_views.specs.Holdings.{Holdings, IsSeenBy, StandsFor, lists_before}
use Rattle.spec_views.specs.Sessions.{IsWorkOf}
use Rattle.spec_views.specs.Work.{AllStandFor, IsWork, Rewrites, RewritesTo, TakenPiece, Work, taken_locks}
use Rattle.law_views.proofs.Room.{fresh}
use Rattle.law_views.proofs.Seen.{listed_before}
use Rattle.law_views.proofs.Sessions.{own_seen}
use Rattle.law_views.proofs.Work.{work_applies, work_skips, work_starts, work_takes}

-- ---- the beginning

pub work_begun : (programs : Programs) (past : History) (t session k : ℕ) (view : Holdings) → IsLegal programs (Begun t session k ∷ past)
    → IsWorkOf programs (Begun t session k ∷ past) t (record { pieces = []; rewrites = λ name held. held; view = view })
work_begun programs past t session k view legal = record {
  live = subst (λ m. IsTrue (lives m)) (sym alone) refl;
  is_work = subst (λ m. IsWork programs (answered_statements programs m) (record { pieces = []; rewrites = λ name held. held; view = view }))
      (sym alone) (work_starts programs view);
  pieces = tt;
  all_granted = λ name named. absurd (omega (arith, named.1.1));
  all_taken = λ name named. absurd (none name (subst (λ m. Names (granted_locks m) name) alone named));
}
  where
    alone : events_of t (Begun t session k ∷ past) ≡ Begun t session k ∷ []
    alone = mine-own t (Begun t session k) past refl ∙ ap (λ m. Begun t session k ∷ m) (fresh programs past t legal.1 (omega (arith, legal.0.0)))

    none : (name : LockName) → Names [] name → ⊥
    none name named = absurd (omega (arith, named.1.1))

-- ---- a grant

pub work_granted : (programs : Programs) (past : History) (t k p : ℕ) (work : Work) (piece : TakenPiece) (view : Holdings) → IsWorkOf programs past t work
    → StandsFor programs.types piece.holdings piece.list (committed_database programs past)
    → ((name : LockName) → Names (taken_locks work.pieces) name → view name ≡ work.view name)
    → ((name : LockName) → Names piece.list name → view name ≡ work.rewrites name (piece.holdings name))
    → IsWorkOf programs (Granted t k p piece.list ∷ past) t (record { pieces = piece ∷ work.pieces; rewrites = work.rewrites; view = view })
work_granted programs past t k p work piece view is stands old new = record {
  live = subst (λ m. IsTrue (lives m)) (sym own) is.live;
  is_work = subst (λ m. IsWork programs (answered_statements programs m) (record { pieces = piece ∷ work.pieces; rewrites = work.rewrites; view = view }))
      (sym own) (work_takes programs (answered_statements programs (events_of t past)) work piece view is.is_work old new);
  pieces = (stands, is.pieces);
  all_granted = λ name named. subst (λ m. Names (granted_locks m) name) (sym own)
      (both (taken_locks work.pieces) (granted_locks (events_of t past)) is.all_granted name named);
  all_taken = λ name named. both (granted_locks (events_of t past)) (taken_locks work.pieces) is.all_taken name
      (subst (λ m. Names (granted_locks m) name) own named);
}
  where
    own : events_of t (Granted t k p piece.list ∷ past) ≡ Granted t k p piece.list ∷ events_of t past
    own = mine-own t (Granted t k p piece.list) past refl

    both : (few many : List Lock) → AreNamedIn few many → AreNamedIn (piece.list ++ few) (piece.list ++ many)
    both few many within name named = elim (Contains-append_cases piece.list few (name, named.0) named.1) [
      | inl here ↦ (named.0, Contains-append_left piece.list many (name, named.0) here)
      | inr there ↦ (let found = within name (named.0, there) in (found.0, Contains-append_right piece.list many (name, found.0) found.1))
    ]

-- ---- an event that neither grants nor answers

-- what the events tell of locks and answered statements, and that the transaction lives
record TellsTheSame (programs : Programs) (one other : History) : Type 0 where
  answered : answered_statements programs other ≡ answered_statements programs one
  granted : granted_locks other ≡ granted_locks one
  live : lives other ≡ lives one

same_work : (programs : Programs) (event : Event) (past : History) (work : Work)
    → committed_database programs (event ∷ past) ≡ committed_database programs past
    → TellsTheSame programs (events_of (owner_of event) past) (event ∷ events_of (owner_of event) past)
    → IsWorkOf programs past (owner_of event) work → IsWorkOf programs (event ∷ past) (owner_of event) work
same_work programs event past work base same is = record {
  live = subst (λ m. IsTrue (lives m)) (sym own) (subst (λ b. IsTrue b) (sym same.live) is.live);
  is_work = subst (λ m. IsWork programs (answered_statements programs m) work) (sym own) (subst (λ s. IsWork programs s work) (sym same.answered) is.is_work);
  pieces = subst (λ d. AllStandFor programs.types work.pieces d) (sym base) is.pieces;
  all_granted = subst (λ m. AreNamedIn (taken_locks work.pieces) (granted_locks m)) (sym own)
      (subst (λ l. AreNamedIn (taken_locks work.pieces) l) (sym same.granted) is.all_granted);
  all_taken = subst (λ m. AreNamedIn (granted_locks m) (taken_locks work.pieces)) (sym own)
      (subst (λ l. AreNamedIn l (taken_locks work.pieces)) (sym same.granted) is.all_taken);
}
  where
    own : events_of (owner_of event) (event ∷ past) ≡ event ∷ events_of (owner_of event) past
    own = mine-own (owner_of event) event past refl

pub work_refused : (programs : Programs) (past : History) (t k p holder : ℕ) (lock : LockName) (mode : Mode) (work : Work) → IsWorkOf programs past t work
    → IsWorkOf programs (Refused t k p lock mode holder ∷ past) t work
work_refused programs past t k p holder lock mode work is =
    same_work programs (Refused t k p lock mode holder) past work refl (record { answered = refl; granted = refl; live = refl }) is

pub work_gave_up : (programs : Programs) (past : History) (t k : ℕ) (work : Work) → IsWorkOf programs past t work
    → IsWorkOf programs (GaveUp t k ∷ past) t work
work_gave_up programs past t k work is =
    same_work programs (GaveUp t k) past work refl (record { answered = refl; granted = refl; live = refl }) is

-- ---- an answer

module _ (programs : Programs) (bound : ℕ) (past : History) (t : ℕ) (work : Work) (are : ArePrograms programs bound) (room : HasRoom bound past)
    (legal : IsLegal programs past) (is : IsWorkOf programs past t work) where
  good : AreGood programs bound past
  good = legal_good programs bound past are room legal

  -- the laws speak of each statement over the transaction's own database
  pub own_setting : (k : ℕ) (statement : Statement) → statement_numbered programs (events_of t past) k ≡ Some statement
      → IsSetting programs.types statement (own_database programs past t)
  own_setting k statement text =
      setting_of programs (bound + length (committed_statements programs past) + length (answered_statements programs (events_of t past))) statement
      (own_database programs past t)
      (run-ready programs (answered_statements programs (events_of t past)) (bound + length (committed_statements programs past))
      (committed_database programs past) good.ready)
      (omega (arith, live-few programs past t legal is.live, room)) (statement_of-fits programs bound (events_of t past) k statement are text)

  module _ (k : ℕ) (answer : Answer) (statement : Statement) (going_on : IsGoingOn programs past t k statement)
      (asked : (q : ℕ) → program_needs programs statement q (own_database programs past t) ≢ [] → IsTrue (has_phase k q (events_of t past))) where
    own : events_of t (Answered t k answer ∷ past) ≡ Answered t k answer ∷ events_of t past
    own = mine-own t (Answered t k answer) past refl

    seen : IsSeenBy programs.types work.view statement 5 (own_database programs past t)
    seen = own_seen programs bound past t work are room legal is k 5 statement going_on.text going_on.not_closed (λ q before. asked q)

    covered : AreNamedIn (lists_before programs.types statement 5 (own_database programs past t)) (taken_locks work.pieces)
    unfolding program_needs
    covered name named =
        let found = listed_before programs.types statement (own_database programs past t) 5 name named in
        is.all_taken name (
          found.2.0,
          asked-within programs (events_of t past) (committed_database programs past) k found.0 statement (good.good t is.live) going_on.not_closed
              going_on.text (asked found.0) (name, found.2.0) found.2.1,
        )

    answered : answered_statements programs (Answered t k answer ∷ events_of t past) ≡ answered_statements programs (events_of t past) ++ statement ∷ []
    answered = answered-push programs (events_of t past) k (reply_of_answer answer) statement going_on.text

    after : (next : Work) → IsWork programs (answered_statements programs (events_of t past) ++ statement ∷ []) next → next.pieces ≡ work.pieces
        → IsWorkOf programs (Answered t k answer ∷ past) t next
    after next done same = record {
      live = subst (λ m. IsTrue (lives m)) (sym own) is.live;
      is_work = subst (λ m. IsWork programs (answered_statements programs m) next) (sym own) (subst (λ s. IsWork programs s next) (sym answered) done);
      pieces = subst (λ ps. AllStandFor programs.types ps (committed_database programs past)) (sym same) is.pieces;
      all_granted = subst (λ m. AreNamedIn (taken_locks next.pieces) (granted_locks m)) (sym own)
          (subst (λ ps. AreNamedIn (taken_locks ps) (granted_locks (events_of t past))) (sym same) is.all_granted);
      all_taken = subst (λ m. AreNamedIn (granted_locks m) (taken_locks next.pieces)) (sym own)
          (subst (λ ps. AreNamedIn (granted_locks (events_of t past)) (taken_locks ps)) (sym same) is.all_taken);
    }

    -- what the statement rewrites is rewritten after what was
    pub work_answered : (more : Rewrites)
        → ((database : Database) → IsSeenBy programs.types work.view statement 5 database
        → RewritesTo programs.types more database (effect_of programs.types statement database))
        → IsWorkOf programs (Answered t k answer ∷ past) t
        (record { pieces = work.pieces; rewrites = λ name held. more name (work.rewrites name held); view = λ name. more name (work.view name) })
    work_answered more changes =
        after (record { pieces = work.pieces; rewrites = λ name held. more name (work.rewrites name held); view = λ name. more name (work.view name) })
        (work_applies programs (answered_statements programs (events_of t past)) work statement more (own_database programs past t) are.types_fit is.is_work
        (own_setting k statement going_on.text) seen covered changes) refl

    -- a statement without an effect leaves the work as it is
    pub work_answered_only : ((database : Database) → IsSeenBy programs.types work.view statement 5 database
        → effect_of programs.types statement database ≡ database) → IsWorkOf programs (Answered t k answer ∷ past) t work
    work_answered_only none =
        after work (work_skips programs (answered_statements programs (events_of t past)) work statement (own_database programs past t) are.types_fit is.is_work
        (own_setting k statement going_on.text) seen covered none) refl
