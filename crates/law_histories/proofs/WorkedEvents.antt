-- The events of the worked histories, one after another: what is asked of each, and that it is so.
use Rattle.std.proofs.Common.{◌≡◌, ◌≢◌, ℕ, zero, suc, ◌<◌, ◌≤◌, inl, inr, true, false, List, [], ◌∷◌, Some, None, get_or, refl, sym, subst, ap, ◌∙◌, arith}
use Rattle.std.specs.Prelude.{Contains, IsTrue, codes, count_by}
use Rattle.std.specs.List.{list_any}
use Rattle.std.proofs.lemmas.Bool.{false≢true, ne_eqb}
use Rattle.ras_domain.specs.declared.lock.LockName.TheVariants.{Collection}
use Rattle.ras_domain.specs.declared.lock.Mode.TheVariants.{Exclusive}
use Rattle.ras_syntax.specs.declared.answer.Answer.{Answer}
use Rattle.ras_syntax.specs.declared.answer.Answer.TheVariants.{Done}
use Rattle.ras_syntax.specs.declared.statement.Statement.{Statement}
use Rattle.spec_expressions.specs.Database.{Database}
use Rattle.spec_statements.specs.WorkedChecks.{H_}
use Rattle.spec_statements.specs.Reply.{done}
use Rattle.spec_statements.specs.Locks.{Lock, collection_in}
use Rattle.spec_statements.specs.WorkedStatements.{create_H, drop_H}
use Rattle.law_lists.proofs.Elements.{Contains-here, first_or_later}
use Rattle.ras_syntax.specs.declared.event.Event.TheVariants.{Begun, Granted, Refused, Answered, Committed}
use Rattle.spec_histories.specs.History.{History, begun_at, has_phase, is_live, program_effect, events_of, program_needs, own_database, statement_numbered, program_reply}
use Rattle.spec_histories.specs.Legal.{IsBlockedBy, IsDueList, IsFree, IsGoingOn, IsLegal, MayFollow, is_begun}
use Rattle.spec_histories.specs.Worked.{begin_word, committed_once, create_K, on_H, on_K, programs, under_way}
use Rattle.law_histories.proofs.Among.{all_grants, begins_in, begun-among, granted-among}
use Rattle.law_histories.proofs.Grants.{none_within}

-- ---- what is asked of events

-- no transaction lives in a session where none has begun
no_session : (s : ℕ) (past : History) → list_any (begins_in s) past ≡ false → (other at : ℕ) → IsTrue (is_live other past) → begun_at (events_of other past) ≡ Some (s, at) → ⊥
no_session s past none other at live begun = let some : list_any (begins_in s) past ≡ true = begun-among other s at past begun in absurd cc

-- the one lock of a list is free where no live transaction was granted one of its name
free_alone : (past : History) (t : ℕ) (lock : Lock) → ((holder : ℕ) (held : Lock) → Contains (all_grants past) (holder, held) → IsTrue (is_live holder past)
    → lock.0 ≢ held.0) → (one : Lock) → Contains (lock ∷ []) one → IsFree past t one
free_alone past t lock apart one has holder blocked = elim (first_or_later one lock [] has) [
  | inl is ↦ apart holder blocked.held (granted-among holder past blocked.held blocked.holds.granted) blocked.holds.live
      (subst (λ l. l.0 ≡ blocked.held.0) (sym is) blocked.conflicts.same_name)
  | inr later ↦ none_within one later
]

-- a list of the first phase is due
due_first : (past : History) (t k : ℕ) (list : List Lock) (statement : Statement) → IsGoingOn programs past t k statement
    → list ≡ program_needs programs statement 1 (own_database programs past t) → list ≢ [] → has_phase k 1 (events_of t past) ≡ false → IsDueList programs past t k 1 list
unfolding program_needs
due_first past t k list statement going needed some not_granted = record {
  statement = statement;
  going_on = going;
  needed = needed;
  some_locks = some;
  earlier = none_before;
  not_granted = not_granted;
}
  where
    none_before : (q : ℕ) → q < 1 → program_needs programs statement q (own_database programs past t) ≢ [] → IsTrue (has_phase k q (events_of t past))
    none_before zero before asked = absurd (asked refl)
    none_before (suc q) before asked = absurd (omega (arith, before))

-- a statement that asks for locks in the first phase alone needs no other grant
asked_first : (statement : Statement) (database : Database) (k : ℕ) (own_events : History) → program_needs programs statement 2 database ≡ []
    → program_needs programs statement 3 database ≡ [] → program_needs programs statement 4 database ≡ [] → has_phase k 1 own_events ≡ true → (p : ℕ)
    → program_needs programs statement p database ≢ [] → IsTrue (has_phase k p own_events)
unfolding program_needs
asked_first statement database k own_events second third fourth has zero asked = absurd (asked refl)
asked_first statement database k own_events second third fourth has (suc zero) asked = has
asked_first statement database k own_events second third fourth has (suc (suc zero)) asked = absurd (asked second)
asked_first statement database k own_events second third fourth has (suc (suc (suc zero))) asked = absurd (asked third)
asked_first statement database k own_events second third fourth has (suc (suc (suc (suc zero)))) asked = absurd (asked fourth)
asked_first statement database k own_events second third fourth has (suc (suc (suc (suc (suc p))))) asked = absurd (asked refl)

-- ---- under way

abbrev one_begun : History
one_begun = Begun 1 1 1 ∷ []

abbrev two_begun : History
two_begun = Begun 2 2 1 ∷ one_begun

abbrev one_granted : History
one_granted = Granted 1 2 1 on_H ∷ two_begun

abbrev two_granted : History
two_granted = Granted 2 1 1 on_K ∷ one_granted

begun_1 : MayFollow programs [] (Begun 1 1 1)
begun_1 = (refl, (Some begin_word ∷ Some create_H ∷ Some drop_H ∷ [], refl, omega arith, omega arith), no_session 1 [] refl)

begun_2 : MayFollow programs one_begun (Begun 2 2 1)
begun_2 = (refl, (Some create_K ∷ None ∷ [], refl, omega arith, omega arith), no_session 2 one_begun refl)

granted_1 : MayFollow programs two_begun (Granted 1 2 1 on_H)
unfolding program_needs
granted_1 = (
  due_first two_begun 1 2 on_H create_H
      (record { live = refl; text = refl; data_statement = refl; not_closed = refl; alone = λ other apart. refl })
      refl (λ is. absurd cc) refl,
  free_alone two_begun 1 (Collection H_, Exclusive) (λ holder held has. absurd (none_within (holder, held) has)),
)

-- the locks on H and K have two names
K_not_H : Collection (codes "K") ≢ Collection H_
K_not_H same = let e : 75 ≡ 72 = ap (λ name. get_or (collection_in name) 0 0) same in omega (arith, e)

K_free : (holder : ℕ) (held : Lock) → Contains (all_grants one_granted) (holder, held) → IsTrue (is_live holder one_granted) → Collection (codes "K") ≢ held.0
K_free holder held has live same = elim (first_or_later (holder, held) (1, (Collection H_, Exclusive)) [] has) [
  | inl is ↦ K_not_H (same ∙ sym (ap (λ one. one.1.0) is))
  | inr later ↦ none_within (holder, held) later
]

granted_2 : MayFollow programs one_granted (Granted 2 1 1 on_K)
unfolding program_needs
granted_2 = (
  due_first one_granted 2 1 on_K create_K
      (record { live = refl; text = refl; data_statement = refl; not_closed = refl; alone = λ other apart. refl })
      refl (λ is. absurd cc) refl,
  free_alone one_granted 2 (Collection (codes "K"), Exclusive) K_free,
)

answered_1 : MayFollow programs two_granted (Answered 1 2 (Done 0))
unfolding program_needs program_reply
answered_1 = (
  create_H,
  record { live = refl; text = refl; data_statement = refl; not_closed = refl; alone = λ other apart. rw (ne_eqb 2 other (λ is. apart (sym is))) refl },
  asked_first create_H (own_database programs two_granted 1) 2 (events_of 1 two_granted) refl refl refl refl,
  refl,
)

legal_under_way : IsLegal programs under_way
legal_under_way = (answered_1, (granted_2, (granted_1, (begun_2, (begun_1, tt)))))

-- ---- committed once

abbrev committed_1 : History
committed_1 = Committed 1 1 ∷ under_way

abbrev two_answered : History
two_answered = Answered 2 1 (Done 0) ∷ committed_1

abbrev three_begun : History
three_begun = Begun 3 3 1 ∷ two_answered

answered_2 : MayFollow programs committed_1 (Answered 2 1 (Done 0))
unfolding program_needs program_reply program_effect
answered_2 = (
  create_K,
  record { live = refl; text = refl; data_statement = refl; not_closed = refl; alone = λ other apart. rw (ne_eqb 1 other (λ is. apart (sym is))) refl },
  asked_first create_K (own_database programs committed_1 2) 1 (events_of 2 committed_1) refl refl refl refl,
  refl,
)

begun_3 : (past : History) → 3 ≡ suc (count_by is_begun past) → list_any (begins_in 3) past ≡ false → MayFollow programs past (Begun 3 3 1)
begun_3 past number none = (number, (Some drop_H ∷ [], refl, omega arith, omega arith), no_session 3 past none)

pub legal_committed_once : IsLegal programs committed_once
legal_committed_once = (refl, ((refl, refl), (begun_3 two_answered refl refl, (answered_2, ((refl, refl), legal_under_way)))))

-- ---- a lock is free after its owner's commit

H_free : (holder : ℕ) (held : Lock) → Contains (all_grants three_begun) (holder, held) → IsTrue (is_live holder three_begun) → Collection H_ ≢ held.0
H_free holder held has live same = elim (first_or_later (holder, held) (2, (Collection (codes "K"), Exclusive)) ((1, (Collection H_, Exclusive)) ∷ []) has) [
  | inl is ↦ K_not_H (ap (λ one. one.1.0) is ∙ sym same)
  | inr later ↦ elim (first_or_later (holder, held) (1, (Collection H_, Exclusive)) [] later) [
    | inl is ↦ false≢true (subst (λ one. IsTrue (is_live one.0 three_begun)) (sym is) live)
    | inr none ↦ none_within (holder, held) none
  ]
]

granted_3 : MayFollow programs three_begun (Granted 3 1 1 on_H)
unfolding program_needs
granted_3 = (
  due_first three_begun 3 1 on_H drop_H
      (record { live = refl; text = refl; data_statement = refl; not_closed = refl; alone = λ other apart. refl })
      refl (λ is. absurd cc) refl,
  free_alone three_begun 3 (Collection H_, Exclusive) H_free,
)

pub legal_grant : IsLegal programs (Granted 3 1 1 on_H ∷ three_begun)
legal_grant = (granted_3, (begun_3 two_answered refl refl, (answered_2, ((refl, refl), legal_under_way))))

-- ---- a refusal

abbrev waiting : History
waiting = Begun 3 3 1 ∷ under_way

blocked_by_1 : IsBlockedBy waiting 3 (Collection H_, Exclusive) 1
blocked_by_1 = record {
  held = (Collection H_, Exclusive);
  holds = record { live = refl; granted = Contains-here (Collection H_, Exclusive) [] };
  conflicts = record { same_name = refl; others = λ is. omega (arith, is); not_shared = inl refl };
}

-- no transaction has the number 0
least_1 : (other : ℕ) → IsBlockedBy waiting 3 (Collection H_, Exclusive) other → 1 ≤ other
least_1 zero blocked = absurd (false≢true blocked.holds.live)
least_1 (suc other) blocked = omega arith

refused_3 : MayFollow programs waiting (Refused 3 1 1 (Collection H_) Exclusive 1)
unfolding program_needs
refused_3 = (
  on_H,
  due_first waiting 3 1 on_H drop_H
      (record { live = refl; text = refl; data_statement = refl; not_closed = refl; alone = λ other apart. refl })
      refl (λ is. absurd cc) refl,
  record { before = []; behind = []; parts = refl; free_before = λ other has. absurd (none_within other has); blocked = blocked_by_1; least = least_1 },
)

pub legal_refusal : IsLegal programs (Refused 3 1 1 (Collection H_) Exclusive 1 ∷ waiting)
legal_refusal = (refused_3, (begun_3 under_way refl refl, legal_under_way))

-- ---- what may not follow

pub held_by_1 : MayFollow programs waiting (Granted 3 1 1 on_H) → ⊥
held_by_1 may = may.1 (Collection H_, Exclusive) (Contains-here (Collection H_, Exclusive) []) 1 blocked_by_1

-- the statement that goes on is that of its number
same_text : (past : History) (t k : ℕ) (one statement : Statement) → statement_numbered programs (events_of t past) k ≡ Some statement → IsGoingOn programs past t k one → one ≡ statement
same_text past t k one statement text going = let e : Some one ≡ Some statement = sym going.text ∙ text in cc

pub not_told : MayFollow programs under_way (Answered 2 1 (Done 1)) → ⊥
unfolding program_reply
not_told may =
    let e : done 1 ≡ done 0 = may.3 ∙ ap (λ s. program_reply programs s (own_database programs under_way 2)) (same_text under_way 2 1 may.0 create_K refl may.1) in
    absurd cc

pub not_granted : (answer : Answer) → MayFollow programs waiting (Answered 3 1 answer) → ⊥
unfolding program_needs
not_granted answer may =
    false≢true (may.2 1 λ none. asks (sym (ap (λ s. program_needs programs s 1 (own_database programs waiting 3)) (same_text waiting 3 1 may.0 drop_H refl may.1)) ∙ none))
  where
    asks : on_H ≢ []
    asks is = absurd cc

pub lives_in_1 : MayFollow programs under_way (Begun 3 1 1) → ⊥
lives_in_1 may = may.2 1 1 refl refl
