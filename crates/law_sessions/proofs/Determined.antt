-- Of two events on one statement of a transaction that may follow the same history, both grant or refuse the same list, or both
-- give the same answer.
use Rattle.std.proofs.Common.{◌≡◌, inl, inr, ℕ, ◌<◌, ◌≤◌, true, List, [], ◌∷◌, ◌++◌, map, Some, Contains, refl, sym, ap, ◌∙◌, subst, arith}
use Rattle.std.proofs.lemmas.Bool.{cases_order, false≢true}
use Rattle.ras_domain.specs.declared.lock.LockName.{LockName}
use Rattle.ras_domain.specs.declared.lock.Mode.{Mode}
use Rattle.ras_syntax.specs.declared.answer.Answer.{Answer}
use Rattle.ras_syntax.specs.declared.answer.Answer.TheVariants as answers
use Rattle.ras_syntax.specs.declared.answer.RowValue.{RowValue}
use Rattle.ras_syntax.specs.declared.answer.RowValue.TheVariants as rows
use Rattle.ras_syntax.specs.declared.event.Event.{Event}
use Rattle.ras_syntax.specs.declared.event.Event.TheVariants.{Begun, Granted, Refused, Answered, GaveUp, Committed, Aborted}
use Rattle.ras_syntax.specs.declared.statement.Statement.{Statement}
use Rattle.spec_histories.specs.History.{History, Programs, events_of, has_phase, own_database, program_needs, program_reply}
use Rattle.spec_histories.specs.Legal.{IsBlockedBy, IsDueList, IsFirstBlocked, IsFree, IsGoingOn, MayFollow}
use Rattle.spec_statements.specs.Locks.{Lock}
use Rattle.spec_statements.specs.Reply.{reply_of_answer, row_reply_of}
use Rattle.law_lists.proofs.Elements.{Contains-here, Contains-there}
use Rattle.law_sessions.specs.Plain.{plain_answer, plain_event, plain_row}

-- ---- answers with the same reply

row-plain : (a b : RowValue) → row_reply_of a ≡ row_reply_of b → plain_row a ≡ plain_row b
row-plain (rows.Scalar c) (rows.Scalar d) is = let e : c ≡ d = cc in ap rows.Scalar e
row-plain (rows.Domain x) (rows.Domain y) is = let e : x ≡ y = cc in ap rows.Domain e
row-plain (rows.Array x c) (rows.Array y d) is =
    let e : x ≡ y = cc in
    let f : c.cells ≡ d.cells = cc in
    λ i. rows.Array (e i) (record { width = 0; cells = f i; room = 0 })
row-plain (rows.Scalar c) (rows.Domain y) is = absurd cc
row-plain (rows.Scalar c) (rows.Array y d) is = absurd cc
row-plain (rows.Domain x) (rows.Scalar d) is = absurd cc
row-plain (rows.Domain x) (rows.Array y d) is = absurd cc
row-plain (rows.Array x c) (rows.Scalar d) is = absurd cc
row-plain (rows.Array x c) (rows.Domain y) is = absurd cc

rows-plain : (xs ys : List RowValue) → map row_reply_of xs ≡ map row_reply_of ys → map plain_row xs ≡ map plain_row ys
rows-plain [] [] is = refl
rows-plain [] (y ∷ ys) is = absurd cc
rows-plain (x ∷ xs) [] is = absurd cc
rows-plain (x ∷ xs) (y ∷ ys) is =
    let first : row_reply_of x ≡ row_reply_of y = cc in
    let later : map row_reply_of xs ≡ map row_reply_of ys = cc in
    let e = row-plain x y first in
    let f = rows-plain xs ys later in
    λ i. e i ∷ f i

pub answer-plain : (a b : Answer) → reply_of_answer a ≡ reply_of_answer b → plain_answer a ≡ plain_answer b
answer-plain (answers.Value xs) (answers.Value ys) is =
    let e : map row_reply_of xs ≡ map row_reply_of ys = cc in ap answers.Value (rows-plain xs ys e)
answer-plain (answers.Done m) (answers.Done n) is = let e : m ≡ n = cc in ap answers.Done e
answer-plain (answers.Fault m p f) (answers.Fault n q g) is =
    let e : m ≡ n = cc in
    let s : p.items ≡ q.items = cc in
    let h : f ≡ g = cc in
    λ i. answers.Fault (e i) (record { items = s i }) (h i)
answer-plain (answers.Shape m s f) (answers.Shape n t g) is =
    let e : m ≡ n = cc in
    let p : s ≡ t = cc in
    let h : f ≡ g = cc in
    λ i. answers.Shape (e i) (p i) (h i)
answer-plain (answers.Check s f) (answers.Check t g) is =
    let p : s ≡ t = cc in
    let h : f ≡ g = cc in
    λ i. answers.Check (p i) (h i)
answer-plain (answers.Value xs) (answers.Done n) is = absurd cc
answer-plain (answers.Value xs) (answers.Fault n q g) is = absurd cc
answer-plain (answers.Value xs) (answers.Shape n t g) is = absurd cc
answer-plain (answers.Value xs) (answers.Check t g) is = absurd cc
answer-plain (answers.Done m) (answers.Value ys) is = absurd cc
answer-plain (answers.Done m) (answers.Fault n q g) is = absurd cc
answer-plain (answers.Done m) (answers.Shape n t g) is = absurd cc
answer-plain (answers.Done m) (answers.Check t g) is = absurd cc
answer-plain (answers.Fault m p f) (answers.Value ys) is = absurd cc
answer-plain (answers.Fault m p f) (answers.Done n) is = absurd cc
answer-plain (answers.Fault m p f) (answers.Shape n t g) is = absurd cc
answer-plain (answers.Fault m p f) (answers.Check t g) is = absurd cc
answer-plain (answers.Shape m s f) (answers.Value ys) is = absurd cc
answer-plain (answers.Shape m s f) (answers.Done n) is = absurd cc
answer-plain (answers.Shape m s f) (answers.Fault n q g) is = absurd cc
answer-plain (answers.Shape m s f) (answers.Check t g) is = absurd cc
answer-plain (answers.Check s f) (answers.Value ys) is = absurd cc
answer-plain (answers.Check s f) (answers.Done n) is = absurd cc
answer-plain (answers.Check s f) (answers.Fault n q g) is = absurd cc
answer-plain (answers.Check s f) (answers.Shape n t g) is = absurd cc

-- ---- events on a statement

-- a grant, a refusal or an answer of the statement
abbrev pub IsDataEvent : (t k : ℕ) → Event → Type 0
IsDataEvent t k (Begun u session at) = ⊥
IsDataEvent t k (Granted u n p list) = (u ≡ t) × (n ≡ k)
IsDataEvent t k (Refused u n p name mode holder) = (u ≡ t) × (n ≡ k)
IsDataEvent t k (Answered u n answer) = (u ≡ t) × (n ≡ k)
IsDataEvent t k (GaveUp u n) = ⊥
IsDataEvent t k (Committed u n) = ⊥
IsDataEvent t k (Aborted u) = ⊥

-- ---- the list that is due

some_same : {A : Type 0} {x y : A} → Some x ≡ Some y → x ≡ y
some_same is = cc

Contains-middle : {X : Type 0} (before : List X) (x : X) (behind : List X) → Contains (before ++ x ∷ behind) x
Contains-middle [] x behind = Contains-here x behind
Contains-middle (y ∷ before) x behind = Contains-there x y (before ++ x ∷ behind) (Contains-middle before x behind)

module _ (programs : Programs) (past : History) (t k : ℕ) where
  going-same : (s u : Statement) → IsGoingOn programs past t k s → IsGoingOn programs past t k u → s ≡ u
  going-same s u one other = some_same (sym one.text ∙ other.text)

  -- an earlier phase that is due was granted, so it isn't due
  not_later : (p q : ℕ) (list more : List Lock) → IsDueList programs past t k p list → IsDueList programs past t k q more → p < q → ⊥
  not_later p q list more one other before =
      let same : one.statement ≡ other.statement = going-same one.statement other.statement one.going_on other.going_on in
      let has : has_phase k p (events_of t past) ≡ true = other.earlier p before
      (λ none. one.some_locks (one.needed ∙ ap (λ s. program_needs programs s p (own_database programs past t)) same ∙ none)) in
      false≢true (sym one.not_granted ∙ has)

  phase-same : (p q : ℕ) (list more : List Lock) → IsDueList programs past t k p list → IsDueList programs past t k q more → p ≡ q
  phase-same p q list more one other = elim (cases_order p q) [
    | inl same ↦ same
    | inr apart ↦ elim apart [ inl before ↦ absurd (not_later p q list more one other before) | inr behind ↦ absurd (not_later q p more list other one behind) ]
  ]

  list-same : (p q : ℕ) (list more : List Lock) → IsDueList programs past t k p list → IsDueList programs past t k q more → list ≡ more
  list-same p q list more one other =
      let same : one.statement ≡ other.statement = going-same one.statement other.statement one.going_on other.going_on in
      let phase : p ≡ q = phase-same p q list more one other in
      one.needed ∙ (λ i. program_needs programs (same i) (phase i) (own_database programs past t)) ∙ sym other.needed

  -- an answer comes where no list is due
  not_answered : (p : ℕ) (list : List Lock) (answer : Answer) → IsDueList programs past t k p list → MayFollow programs past (Answered t k answer) → ⊥
  not_answered p list answer due may =
      let same : due.statement ≡ may.0 = going-same due.statement may.0 due.going_on may.1 in
      let has : has_phase k p (events_of t past) ≡ true = may.2 p
      (λ none. due.some_locks (due.needed ∙ ap (λ s. program_needs programs s p (own_database programs past t)) same ∙ none)) in
      false≢true (sym due.not_granted ∙ has)

  -- the first lock that is blocked
  first-same : (before other : List Lock) (lock held : Lock) (behind more : List Lock) (h g : ℕ) → before ++ lock ∷ behind ≡ other ++ held ∷ more
      → ((l : Lock) → Contains before l → IsFree past t l) → ((l : Lock) → Contains other l → IsFree past t l) → IsBlockedBy past t lock h → IsBlockedBy past t held g → lock ≡ held
  first-same [] [] lock held behind more h g is free free_too blocked blocked_too = cc
  first-same [] (y ∷ other) lock held behind more h g is free free_too blocked blocked_too =
      let e : lock ≡ y = cc in absurd (free_too y (Contains-here y other) h (subst (λ l. IsBlockedBy past t l h) e blocked))
  first-same (x ∷ before) [] lock held behind more h g is free free_too blocked blocked_too =
      let e : held ≡ x = cc in absurd (free x (Contains-here x before) g (subst (λ l. IsBlockedBy past t l g) e blocked_too))
  first-same (x ∷ before) (y ∷ other) lock held behind more h g is free free_too blocked blocked_too =
      let e : before ++ lock ∷ behind ≡ other ++ held ∷ more = cc in
      first-same before other lock held behind more h g e (λ l has. free l (Contains-there l x before has)) (λ l has. free_too l (Contains-there l y other has)) blocked blocked_too

  blocked-same : (list more : List Lock) (lock held : Lock) (h g : ℕ) → list ≡ more → IsFirstBlocked past t list lock h → IsFirstBlocked past t more held g → lock ≡ held
  blocked-same list more lock held h g same one other =
      first-same one.before other.before lock held one.behind other.behind h g (sym one.parts ∙ same ∙ other.parts) one.free_before other.free_before one.blocked other.blocked

  holder-same : (list more : List Lock) (lock held : Lock) (h g : ℕ) → lock ≡ held → IsFirstBlocked past t list lock h → IsFirstBlocked past t more held g → h ≡ g
  holder-same list more lock held h g same one other =
      let up : h ≤ g = one.least g (subst (λ l. IsBlockedBy past t l g) (sym same) other.blocked) in
      let down : g ≤ h = other.least h (subst (λ l. IsBlockedBy past t l h) same one.blocked) in
      omega (arith, up, down)

  -- ---- the event

  granted-here : (u n p : ℕ) (list : List Lock) → (u ≡ t) × (n ≡ k) → MayFollow programs past (Granted u n p list) → MayFollow programs past (Granted t k p list)
  granted-here u n p list is may = subst (λ v. MayFollow programs past (Granted v k p list)) is.0 (subst (λ m. MayFollow programs past (Granted u m p list)) is.1 may)

  refused-here : (u n p : ℕ) (name : LockName) (mode : Mode) (holder : ℕ) → (u ≡ t) × (n ≡ k) → MayFollow programs past (Refused u n p name mode holder)
      → MayFollow programs past (Refused t k p name mode holder)
  refused-here u n p name mode holder is may =
      subst (λ v. MayFollow programs past (Refused v k p name mode holder)) is.0 (subst (λ m. MayFollow programs past (Refused u m p name mode holder)) is.1 may)

  answered-here : (u n : ℕ) (answer : Answer) → (u ≡ t) × (n ≡ k) → MayFollow programs past (Answered u n answer) → MayFollow programs past (Answered t k answer)
  answered-here u n answer is may = subst (λ v. MayFollow programs past (Answered v k answer)) is.0 (subst (λ m. MayFollow programs past (Answered u m answer)) is.1 may)

  not_refused : (p q : ℕ) (list : List Lock) (name : LockName) (mode : Mode) (holder : ℕ) → MayFollow programs past (Granted t k p list)
      → MayFollow programs past (Refused t k q name mode holder) → ⊥
  not_refused p q list name mode holder grant refusal =
      let same : refusal.0 ≡ list = list-same q p refusal.0 list refusal.1 grant.0 in
      let first = refusal.2 in
      let has : Contains list (name, mode) = subst (λ l. Contains {X = Lock} l (name, mode)) (sym first.parts ∙ same) (Contains-middle first.before (name, mode) first.behind) in
      grant.1 (name, mode) has holder first.blocked

  refusals-same : (p q : ℕ) (name other : LockName) (mode more : Mode) (h g : ℕ) → MayFollow programs past (Refused t k p name mode h)
      → MayFollow programs past (Refused t k q other more g) → (p ≡ q) × (name ≡ other) × (mode ≡ more) × (h ≡ g)
  refusals-same p q name other mode more h g one two =
      let list : one.0 ≡ two.0 = list-same p q one.0 two.0 one.1 two.1 in
      let lock : (name, mode) ≡ (other, more) = blocked-same one.0 two.0 (name, mode) (other, more) h g list one.2 two.2 in (
        phase-same p q one.0 two.0 one.1 two.1,
        ap (λ (l : Lock). l.0) lock,
        ap (λ (l : Lock). l.1) lock,
        holder-same one.0 two.0 (name, mode) (other, more) h g lock one.2 two.2,
      )

  pub data-same : (e f : Event) → IsDataEvent t k e → IsDataEvent t k f → MayFollow programs past e → MayFollow programs past f → plain_event e ≡ plain_event f
  data-same (Granted u n p list) (Granted v m q more) is also one two =
      let a : u ≡ v = is.0 ∙ sym also.0 in
      let b : n ≡ m = is.1 ∙ sym also.1 in
      let due = (granted-here u n p list is one).0 in
      let due_too = (granted-here v m q more also two).0 in
      let c : p ≡ q = phase-same p q list more due due_too in
      let d : list ≡ more = list-same p q list more due due_too in
      λ i. Granted (a i) (b i) (c i) (d i)
  data-same (Granted u n p list) (Refused v m q name mode holder) is also one two =
      absurd (not_refused p q list name mode holder (granted-here u n p list is one) (refused-here v m q name mode holder also two))
  data-same (Granted u n p list) (Answered v m answer) is also one two =
      absurd (not_answered p list answer (granted-here u n p list is one).0 (answered-here v m answer also two))
  data-same (Refused u n p name mode holder) (Granted v m q more) is also one two =
      absurd (not_refused q p more name mode holder (granted-here v m q more also two) (refused-here u n p name mode holder is one))
  data-same (Refused u n p name mode h) (Refused v m q other more g) is also one two =
      let a : u ≡ v = is.0 ∙ sym also.0 in
      let b : n ≡ m = is.1 ∙ sym also.1 in
      let same = refusals-same p q name other mode more h g (refused-here u n p name mode h is one) (refused-here v m q other more g also two) in
      λ i. Refused (a i) (b i) (same.0 i) (same.1 i) (same.2 i) (same.3 i)
  data-same (Refused u n p name mode holder) (Answered v m answer) is also one two =
      let refusal = refused-here u n p name mode holder is one in absurd (not_answered p refusal.0 answer refusal.1 (answered-here v m answer also two))
  data-same (Answered u n answer) (Granted v m q more) is also one two =
      absurd (not_answered q more answer (granted-here v m q more also two).0 (answered-here u n answer is one))
  data-same (Answered u n answer) (Refused v m q name mode holder) is also one two =
      let refusal = refused-here v m q name mode holder also two in absurd (not_answered q refusal.0 answer refusal.1 (answered-here u n answer is one))
  data-same (Answered u n x) (Answered v m y) is also one two =
      let a : u ≡ v = is.0 ∙ sym also.0 in
      let b : n ≡ m = is.1 ∙ sym also.1 in
      let one' = answered-here u n x is one in
      let two' = answered-here v m y also two in
      let statement : one'.0 ≡ two'.0 = going-same one'.0 two'.0 one'.1 two'.1 in
      let reply : reply_of_answer x ≡ reply_of_answer y = one'.3 ∙ ap (λ s. program_reply programs s (own_database programs past t)) statement ∙ sym two'.3 in
      let c : plain_answer x ≡ plain_answer y = answer-plain x y reply in
      λ i. Answered (a i) (b i) (c i)
  data-same (Begun u session at) f is also one two = absurd is
  data-same (GaveUp u n) f is also one two = absurd is
  data-same (Committed u n) f is also one two = absurd is
  data-same (Aborted u) f is also one two = absurd is
  data-same (Granted u n p list) (Begun v session at) is also one two = absurd also
  data-same (Granted u n p list) (GaveUp v m) is also one two = absurd also
  data-same (Granted u n p list) (Committed v m) is also one two = absurd also
  data-same (Granted u n p list) (Aborted v) is also one two = absurd also
  data-same (Refused u n p name mode holder) (Begun v session at) is also one two = absurd also
  data-same (Refused u n p name mode holder) (GaveUp v m) is also one two = absurd also
  data-same (Refused u n p name mode holder) (Committed v m) is also one two = absurd also
  data-same (Refused u n p name mode holder) (Aborted v) is also one two = absurd also
  data-same (Answered u n x) (Begun v session at) is also one two = absurd also
  data-same (Answered u n x) (GaveUp v m) is also one two = absurd also
  data-same (Answered u n x) (Committed v m) is also one two = absurd also
  data-same (Answered u n x) (Aborted v) is also one two = absurd also
