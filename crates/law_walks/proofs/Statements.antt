-- A transaction's events up to a statement, and what one event more makes of them.
use Rattle.std.proofs.Common.{◌≡◌, ◌≢◌, ℕ, zero, suc, ◌<◌, ◌≤◌, inl, inr, Bool, true, false, ◌&&◌, ◌||◌, not, List, [], ◌∷◌, Some, refl, sym, ap, ◌∙◌, subst, arith}
use Rattle.std.specs.Prelude.{IsTrue, ◌==◌}
use Rattle.std.specs.List.{list_any}
use Rattle.std.proofs.lemmas.Bool.{cases_eq, cases_lt, eq-eqb, ne_eqb, or_left, or_parts, or_right}
use Rattle.ras_syntax.specs.declared.answer.Answer.{Answer}
use Rattle.ras_syntax.specs.declared.event.Event.{Event}
use Rattle.ras_syntax.specs.declared.event.Event.TheVariants.{Begun, Granted, Refused, Answered, GaveUp, Committed, Aborted}
use Rattle.ras_syntax.specs.declared.statement.Statement.{Statement}
use Rattle.ras_domain.specs.declared.lock.LockName.{LockName}
use Rattle.ras_domain.specs.declared.lock.Mode.{Mode}
use Rattle.spec_expressions.specs.Database.{Database}
use Rattle.spec_statements.specs.Locks.{Lock}
use Rattle.spec_histories.specs.History.{History, Programs, closes, grants, grants_phase, has_phase, is_closed, is_open, program_needs, statement_numbered}
use Rattle.law_walks.specs.Session.{IsAtStatement}

-- ---- tests of lists of events

none_of_both : (a b : Bool) → a ≡ false → b ≡ false → (a || b) ≡ false
none_of_both a b e f = ap (λ x. x || b) e ∙ f

and_not_right : (a b : Bool) → b ≡ false → (a && b) ≡ false
and_not_right true b e = e
and_not_right false b e = refl

shut_by : (g c : Bool) → c ≡ true → (g && not c) ≡ false
shut_by true c e = ap not e
shut_by false c e = refl

no_phase_by : (event : Event) (k p : ℕ) → grants k event ≡ false → grants_phase k p event ≡ false
no_phase_by (Begun t i n) k p none = refl
no_phase_by (Granted t n q list) k p none = ap (λ b. b && (q == p)) none
no_phase_by (Refused t n q lock mode holder) k p none = refl
no_phase_by (Answered t n answer) k p none = refl
no_phase_by (GaveUp t n) k p none = refl
no_phase_by (Committed t n) k p none = refl
no_phase_by (Aborted t) k p none = refl

-- without a grant there is none of any phase
no_phase : (own_events : History) (k p : ℕ) → list_any (grants k) own_events ≡ false → has_phase k p own_events ≡ false
no_phase [] k p none = refl
no_phase (event ∷ past) k p none =
    let parts = or_parts (grants k event) (list_any (grants k) past) none in
    none_of_both (grants_phase k p event) (has_phase k p past) (no_phase_by event k p parts.0) (no_phase past k p parts.1)

-- a statement is open as before, where an event neither grants to it nor closes it
open_as_before : (event : Event) (own_events : History) (k : ℕ) → grants k event ≡ false → closes k event ≡ false
    → is_open k own_events ≡ false → is_open k (event ∷ own_events) ≡ false
open_as_before event own_events k grant close is =
    (λ i. (grant i || list_any (grants k) own_events) && not (close i || is_closed k own_events)) ∙ is

-- ---- a statement without events

pub fresh_statement : (programs : Programs) (own_events : History) (database : Database) (k : ℕ)
    → is_closed k own_events ≡ false → list_any (grants k) own_events ≡ false
    → ((other : ℕ) → other ≢ k → is_open other own_events ≡ false)
    → ((other : ℕ) → k < other → (is_closed other own_events ≡ false) × (list_any (grants other) own_events ≡ false))
    → IsAtStatement programs own_events database k 1 false
unfolding program_needs
fresh_statement programs own_events database k not_closed no_grant alone behind = record {
  not_closed = not_closed;
  has_grant = no_grant;
  alone = alone;
  behind = behind;
  earlier = first;
  later = λ q from. no_phase own_events k q no_grant;
}
  where
    first : (statement : Statement) (q : ℕ) → statement_numbered programs own_events k ≡ Some statement → q < 1
        → program_needs programs statement q database ≢ [] → IsTrue (has_phase k q own_events)
    first statement zero text before some = absurd (some refl)
    first statement (suc q) text before some = absurd (omega (arith, before))

-- ---- behind a statement

-- a statement without a grant is told by a line
pub told_moves : (programs : Programs) (own_events : History) (database : Database) (k phase : ℕ)
    → IsAtStatement programs own_events database k phase false → IsAtStatement programs own_events database (suc k) 1 false
told_moves programs own_events database k phase at =
    fresh_statement programs own_events database (suc k) (at.behind (suc k) (omega arith)).0 (at.behind (suc k) (omega arith)).1 others
    (λ other more. at.behind other (omega (arith, more)))
  where
    others : (other : ℕ) → other ≢ suc k → is_open other own_events ≡ false
    others other differs = elim (cases_eq other k) [
      | inl same ↦ subst (λ j. is_open j own_events ≡ false) (sym same) (ap (λ b. b && not (is_closed k own_events)) at.has_grant)
      | inr other_than ↦ at.alone other other_than
    ]

-- an event closes one statement alone, and grants nothing
pub record ClosesOnly (k : ℕ) (event : Event) : Type 0 where
  pub closes_it : closes k event ≡ true
  pub no_other : (other : ℕ) → other ≢ k → closes other event ≡ false
  pub no_grant : (other : ℕ) → grants other event ≡ false

pub answered-closes : (t n k : ℕ) (answer : Answer) → n ≡ k → ClosesOnly k (Answered t n answer)
answered-closes t n k answer is = record {
  closes_it = eq-eqb n k is;
  no_other = λ other differs. ne_eqb n other (λ same. differs (sym same ∙ is));
  no_grant = λ other. refl;
}

pub refused-closes : (t n k p holder : ℕ) (lock : LockName) (mode : Mode) → n ≡ k → ClosesOnly k (Refused t n p lock mode holder)
refused-closes t n k p holder lock mode is = record {
  closes_it = eq-eqb n k is;
  no_other = λ other differs. ne_eqb n other (λ same. differs (sym same ∙ is));
  no_grant = λ other. refl;
}

pub gave_up-closes : (t n k : ℕ) → n ≡ k → ClosesOnly k (GaveUp t n)
gave_up-closes t n k is = record {
  closes_it = eq-eqb n k is;
  no_other = λ other differs. ne_eqb n other (λ same. differs (sym same ∙ is));
  no_grant = λ other. refl;
}

pub closed_moves : (programs : Programs) (own_events : History) (before after : Database) (k phase : ℕ) (granted : Bool) (event : Event)
    → IsAtStatement programs own_events before k phase granted → ClosesOnly k event
    → IsAtStatement programs (event ∷ own_events) after (suc k) 1 false
closed_moves programs own_events before after k phase granted event at only =
    fresh_statement programs (event ∷ own_events) after (suc k)
    (none_of_both (closes (suc k) event) (is_closed (suc k) own_events) (only.no_other (suc k) (λ is. absurd (omega (arith, is)))) (at.behind (suc k) (omega arith)).0)
    (none_of_both (grants (suc k) event) (list_any (grants (suc k)) own_events) (only.no_grant (suc k)) (at.behind (suc k) (omega arith)).1)
    others
    (λ other more. (
      none_of_both (closes other event) (is_closed other own_events) (only.no_other other (λ is. absurd (omega (arith, is, more)))) (at.behind other (omega (arith, more))).0,
      none_of_both (grants other event) (list_any (grants other) own_events) (only.no_grant other) (at.behind other (omega (arith, more))).1,
    ))
  where
    others : (other : ℕ) → other ≢ suc k → is_open other (event ∷ own_events) ≡ false
    others other differs = elim (cases_eq other k) [
      | inl same ↦ subst (λ j. is_open j (event ∷ own_events) ≡ false) (sym same)
          (shut_by (grants k event || list_any (grants k) own_events) (closes k event || is_closed k own_events) (or_left (closes k event) (is_closed k own_events) only.closes_it))
      | inr other_than ↦ open_as_before event own_events other (only.no_grant other) (only.no_other other other_than) (at.alone other other_than)
    ]

-- ---- a grant more

pub granted_moves : (programs : Programs) (own_events : History) (database : Database) (k phase : ℕ) (granted : Bool) (t n p : ℕ) (list : List Lock)
    → IsAtStatement programs own_events database k phase granted → n ≡ k → phase ≤ p
    → ((statement : Statement) (q : ℕ) → statement_numbered programs own_events k ≡ Some statement → q < p
    → program_needs programs statement q database ≢ [] → IsTrue (has_phase k q own_events))
    → IsAtStatement programs (Granted t n p list ∷ own_events) database k (suc p) true
granted_moves programs own_events database k phase granted t n p list at is above earlier = record {
  not_closed = at.not_closed;
  has_grant = or_left (n == k) (list_any (grants k) own_events) (eq-eqb n k is);
  alone = λ other differs. open_as_before (Granted t n p list) own_events other (ne_eqb n other (λ same. differs (sym same ∙ is))) refl (at.alone other differs);
  behind = λ other more. (
    (at.behind other more).0,
    none_of_both (n == other) (list_any (grants other) own_events) (ne_eqb n other (λ same. absurd (omega (arith, same, is, more)))) (at.behind other more).1,
  );
  earlier = seen;
  later = λ q from. none_of_both ((n == k) && (p == q)) (has_phase k q own_events) (and_not_right (n == k) (p == q) (ne_eqb p q (λ same. absurd (omega (arith, same, from)))))
      (at.later q (omega (arith, from, above)));
}
  where
    both : (a b : Bool) → a ≡ true → b ≡ true → (a && b) ≡ true
    both a b e f = ap (λ x. x && b) e ∙ f

    seen : (statement : Statement) (q : ℕ) → statement_numbered programs own_events k ≡ Some statement → q < suc p
        → program_needs programs statement q database ≢ [] → IsTrue (has_phase k q (Granted t n p list ∷ own_events))
    seen statement q text before some = elim (cases_lt q p) [
      | inl less ↦ or_right ((n == k) && (p == q)) (has_phase k q own_events) (earlier statement q text less some)
      | inr more ↦ or_left ((n == k) && (p == q)) (has_phase k q own_events) (both (n == k) (p == q) (eq-eqb n k is) (eq-eqb p q (omega (arith, before, more))))
    ]

-- ---- a phase that needs nothing

pub phase_moves : (programs : Programs) (own_events : History) (database : Database) (k phase : ℕ) (granted : Bool)
    → IsAtStatement programs own_events database k phase granted
    → ((statement : Statement) → statement_numbered programs own_events k ≡ Some statement → program_needs programs statement phase database ≡ [])
    → IsAtStatement programs own_events database k (suc phase) granted
phase_moves programs own_events database k phase granted at nothing = record {
  not_closed = at.not_closed;
  has_grant = at.has_grant;
  alone = at.alone;
  behind = at.behind;
  earlier = seen;
  later = λ q from. at.later q (omega (arith, from));
}
  where
    seen : (statement : Statement) (q : ℕ) → statement_numbered programs own_events k ≡ Some statement → q < suc phase
        → program_needs programs statement q database ≢ [] → IsTrue (has_phase k q own_events)
    seen statement q text before some = elim (cases_lt q phase) [
      | inl less ↦ at.earlier statement q text less some
      | inr more ↦ absurd (some (subst (λ p. program_needs programs statement p database ≡ []) {x = phase} {y = q} (omega (arith, before, more)) (nothing statement text)))
    ]
