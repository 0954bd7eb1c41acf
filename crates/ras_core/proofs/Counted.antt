-- What is kept beside the history stays right with each event.
use Rattle.std.proofs.Common.{◌≡◌, ◌≢◌, ℕ, suc, ◌+◌, ◌<◌, ◌≤◌, inl, inr, Bool, true, false, not, ◌&&◌, ◌||◌, ◌==◌, cond, List, [], ◌∷◌, ◌++◌, length, refl, sym, subst, ap, ◌∙◌, arith, length-append}
use Rattle.std.specs.Prelude.{IsTrue, count_by, is_some, Option, Some, None}
use Rattle.std.specs.List.{list_any}
use Rattle.std.proofs.lemmas.Bool.{and_parts, cases_eq, cases_lt, eq-eqb, eqb-true, false≢true, ne_eqb, or_cases, or_left, or_right, cases_Bool}
use Rattle.std.proofs.lemmas.List.Folds.{list_any-append}
use Rattle.std.proofs.lemmas.List.Sums.{sum_by-cons}
use Rattle.std.proofs.lemmas.Map.Views.{any-filter_same}
use Rattle.ras_domain.specs.declared.lock.LockName.{LockName}
use Rattle.ras_domain.specs.declared.lock.Mode.{Mode}
use Rattle.ras_syntax.specs.declared.answer.Answer.{Answer}
use Rattle.ras_syntax.specs.declared.event.Event.{Event}
use Rattle.ras_syntax.specs.declared.event.Event.TheVariants.{Begun, Granted, Refused, Answered, GaveUp, Committed, Aborted}
use Rattle.spec_statements.specs.Locks.{Lock}
use Rattle.spec_histories.specs.History.{History, begun_at, ends, closes, grants, is_closed, is_live, is_open, events_of, owner_of}
use Rattle.spec_histories.specs.Legal.{is_begun, is_committed}
use Rattle.law_histories.proofs.Owners.{each_lives, lives, mine-other, mine-own, no_events-dead}
use Rattle.ras_core.specs.Journal.{StatementKey, is_key, is_listed_live, is_reserved, live_without, reserved_with, reserved_without, reserved_without_all_of}
use Rattle.ras_core.specs.Counts.{IsCounted}
use Rattle.ras_core.proofs.Shorter.{length-filter-lt}

-- ---- lists

listed-without : (t u : ℕ) (live : List ℕ) → is_listed_live u (live_without t live) ≡ (not (u == t) && is_listed_live u live)
listed-without t u live =
    any-filter_same (λ w. w == u) (λ w. not (w == t)) (not (u == t)) (λ w is. ap (λ v. not (v == t)) (eqb-true w u is)) live

listed-push : (t u : ℕ) (live : List ℕ) → is_listed_live u (live ++ t ∷ []) ≡ (is_listed_live u live || ((t == u) || false))
listed-push t u live = list_any-append (λ w. w == u) live (t ∷ [])

-- a key of other numbers stays
reserved-stays : (t k u j : ℕ) (reserved : List StatementKey) → (u ≡ t → j ≢ k) → is_reserved u j reserved ≡ true
    → is_reserved u j (reserved_without t k reserved) ≡ true
reserved-stays t k u j reserved differ is =
    any-filter_same (is_key u j) (λ one. not (is_key t k one)) true stays reserved ∙ is
  where
    stays : (one : StatementKey) → is_key u j one ≡ true → not (is_key t k one) ≡ true
    stays one same = at (is_key t k one) refl
      where
        at : (b : Bool) → is_key t k one ≡ b → not b ≡ true
        at false is = refl
        at true is =
            let here = and_parts (one.0 == u) (one.1 == j) same in
            let there = and_parts (one.0 == t) (one.1 == k) is in
            absurd (differ (sym (eqb-true one.0 u here.0) ∙ eqb-true one.0 t there.0) (sym (eqb-true one.1 j here.1) ∙ eqb-true one.1 k there.1))

reserved-stays_all : (t u j : ℕ) (reserved : List StatementKey) → u ≢ t → is_reserved u j reserved ≡ true
    → is_reserved u j (reserved_without_all_of t reserved) ≡ true
reserved-stays_all t u j reserved differ is =
    any-filter_same (is_key u j) (λ one. not (one.0 == t)) true stays reserved ∙ is
  where
    stays : (one : StatementKey) → is_key u j one ≡ true → not (one.0 == t) ≡ true
    stays one same = at (one.0 == t) refl
      where
        at : (b : Bool) → (one.0 == t) ≡ b → not b ≡ true
        at false is = refl
        at true is = absurd (differ (sym (eqb-true one.0 u (and_parts (one.0 == u) (one.1 == j) same).0) ∙ eqb-true one.0 t is))

pub reserved-there : (t k : ℕ) (reserved : List StatementKey) → is_reserved t k (reserved_with t k reserved) ≡ true
reserved-there t k reserved = at (is_reserved t k reserved) refl
  where
    here : is_key t k (t, k) ≡ true
    here = ap (λ b. b && (k == k)) (eq-eqb t t refl) ∙ eq-eqb k k refl

    at : (b : Bool) → is_reserved t k reserved ≡ b → is_reserved t k (cond b reserved (reserved ++ (t, k) ∷ [])) ≡ true
    at true is = is
    at false is = list_any-append (is_key t k) reserved ((t, k) ∷ []) ∙ or_right (is_reserved t k reserved) (is_key t k (t, k) || false) (or_left (is_key t k (t, k)) false here)

reserved-more : (t k u j : ℕ) (reserved : List StatementKey) → is_reserved u j reserved ≡ true → is_reserved u j (reserved_with t k reserved) ≡ true
reserved-more t k u j reserved is = at (is_reserved t k reserved)
  where
    at : (b : Bool) → is_reserved u j (cond b reserved (reserved ++ (t, k) ∷ [])) ≡ true
    at true = is
    at false = list_any-append (is_key u j) reserved ((t, k) ∷ []) ∙ or_left (is_reserved u j reserved) (is_key u j (t, k) || false) is

-- ---- who lives

-- an event that neither begins nor ends its transaction leaves all as they are
pub live-same : (event : Event) (past : History) → lives (event ∷ events_of (owner_of event) past) ≡ lives (events_of (owner_of event) past)
    → (u : ℕ) → is_live u (event ∷ past) ≡ is_live u past
live-same event past same u = elim (cases_eq (owner_of event) u) [
  | inl is ↦ subst (λ v. is_live v (event ∷ past) ≡ is_live v past) is (ap lives (mine-own (owner_of event) event past refl) ∙ same)
  | inr other ↦ ap lives (mine-other u event past other)
]

-- one that ends it leaves all others
pub live-ended : (event : Event) (past : History) → lives (event ∷ events_of (owner_of event) past) ≡ false
    → (u : ℕ) → is_live u (event ∷ past) ≡ (not (u == owner_of event) && is_live u past)
live-ended event past dead u = elim (cases_eq (owner_of event) u) [
  | inl is ↦ subst (λ v. is_live v (event ∷ past) ≡ (not (v == owner_of event) && is_live v past)) is
      (ap lives (mine-own (owner_of event) event past refl) ∙ dead
      ∙ sym (ap (λ b. not b && is_live (owner_of event) past) (eq-eqb (owner_of event) (owner_of event) refl)))
  | inr other ↦ ap lives (mine-other u event past other) ∙ sym (ap (λ b. not b && is_live u past) (ne_eqb u (owner_of event) (λ is. other (sym is))))
]

no_life : (found : Option (ℕ × ℕ)) → (is_some found && false) ≡ false
no_life None = refl
no_life (Some begun) = refl

-- a begin adds one
live-begun : (t session k : ℕ) (past : History) → events_of t past ≡ [] → (u : ℕ)
    → is_live u (Begun t session k ∷ past) ≡ (is_live u past || ((t == u) || false))
live-begun t session k past none u = elim (cases_eq t u) [
  | inl is ↦ subst (λ v. is_live v (Begun t session k ∷ past) ≡ (is_live v past || ((t == v) || false))) is
      (ap lives (mine-own t (Begun t session k) past refl) ∙ ap (λ m. lives (Begun t session k ∷ m)) none
      ∙ sym (or_right (is_live t past) ((t == t) || false) (or_left (t == t) false (eq-eqb t t refl))))
  | inr other ↦ ap lives (mine-other u (Begun t session k) past other) ∙ sym (nothing (is_live u past) (t == u) (ne_eqb t u other))
]
  where
    nothing : (a b : Bool) → b ≡ false → (a || (b || false)) ≡ a
    nothing true b is = refl
    nothing false b is = ap (λ c. c || false) is

-- ---- what is open

-- a live transaction's open statements are reserved after an event, where those of others stay reserved and its own are
open-later : (event : Event) (past : History) (reserved reserved' : List StatementKey)
    → ((u j : ℕ) → IsTrue (is_live u past) → IsTrue (is_open j (events_of u past)) → IsTrue (is_reserved u j reserved))
    → ((u j : ℕ) → owner_of event ≢ u → IsTrue (is_reserved u j reserved) → IsTrue (is_reserved u j reserved'))
    → (IsTrue (lives (event ∷ events_of (owner_of event) past)) → (j : ℕ) → IsTrue (is_open j (event ∷ events_of (owner_of event) past))
    → IsTrue (is_reserved (owner_of event) j reserved'))
    → (u j : ℕ) → IsTrue (is_live u (event ∷ past)) → IsTrue (is_open j (events_of u (event ∷ past))) → IsTrue (is_reserved u j reserved')
open-later event past reserved reserved' old others own u j live is =
    each_lives (λ v m. (i : ℕ) → IsTrue (is_open i m) → IsTrue (is_reserved v i reserved')) event past
    (λ v other live_v i opened. others v i other (old v i live_v opened)) own u live j is

-- an event that closes a statement leaves the transaction's other statements
open-closed : (t k j : ℕ) (event : Event) (own_events : History) (reserved : List StatementKey) → ((i : ℕ) → grants i event ≡ false)
    → ((i : ℕ) → closes i event ≡ (k == i))
    → (IsTrue (is_open j own_events) → IsTrue (is_reserved t j reserved)) → IsTrue (is_open j (event ∷ own_events))
    → IsTrue (is_reserved t j (reserved_without t k reserved))
open-closed t k j event own_events reserved no_grant closing old is =
    reserved-stays t k t j reserved (λ same at. different (sym at)) (old (before (k == j) (list_any (grants j) own_events) (is_closed j own_events) now))
  where
    now : (list_any (grants j) own_events && not ((k == j) || is_closed j own_events)) ≡ true
    now = sym (ap (λ b. (b || list_any (grants j) own_events) && not (closes j event || is_closed j own_events)) (no_grant j)
        ∙ ap (λ b. list_any (grants j) own_events && not (b || is_closed j own_events)) (closing j)) ∙ is

    before : (a g c : Bool) → (g && not (a || c)) ≡ true → (g && not c) ≡ true
    before true g c is = absurd (false≢true (and_parts g false is).1)
    before false g c is = is

    different : k ≢ j
    different at = at_key (k == j) (eq-eqb k j at) now
      where
        at_key : (a : Bool) → a ≡ true → (list_any (grants j) own_events && not (a || is_closed j own_events)) ≡ true → ⊥
        at_key true same is = false≢true ((and_parts (list_any (grants j) own_events) false is).1)
        at_key false same is = false≢true same

-- a grant opens its own statement
open-granted : (t k p j : ℕ) (list : List Lock) (own_events : History) (reserved : List StatementKey) → IsTrue (is_reserved t k reserved)
    → (IsTrue (is_open j own_events) → IsTrue (is_reserved t j reserved)) → IsTrue (is_open j (Granted t k p list ∷ own_events))
    → IsTrue (is_reserved t j reserved)
open-granted t k p j list own_events reserved here old is = at (k == j) refl is
  where
    at : (b : Bool) → (k == j) ≡ b → ((b || list_any (grants j) own_events) && not (is_closed j own_events)) ≡ true → is_reserved t j reserved ≡ true
    at true same is = subst (λ i. is_reserved t i reserved ≡ true) (eqb-true k j same) here
    at false same is = old is

-- ---- numbers

-- a live transaction has begun
pub begun-live : (past : History) (t begun : ℕ) → ((u : ℕ) → begun < u → events_of u past ≡ []) → IsTrue (is_live t past) → t ≤ begun
begun-live past t begun fresh live = elim (cases_lt begun t) [
  | inl beyond ↦ absurd (no_events-dead (events_of t past) live (fresh t beyond))
  | inr few ↦ few
]

fresh-later : (event : Event) (past : History) (begun begun' : ℕ) → owner_of event ≤ begun' → begun ≤ begun'
    → ((t : ℕ) → begun < t → events_of t past ≡ []) → (t : ℕ) → begun' < t → events_of t (event ∷ past) ≡ []
fresh-later event past begun begun' known more fresh t beyond =
    mine-other t event past (λ is. absurd (omega (arith, is))) ∙ fresh t (omega arith)

count-more : (test : Event → Bool) (event : Event) (past : History) → count_by test (event ∷ past) ≡ cond (test event) 1 0 + count_by test past
count-more test event past = sum_by-cons (λ e. cond (test e) 1 0) event past

count-same : (test : Event → Bool) (event : Event) (past : History) (n : ℕ) → test event ≡ false → n ≡ count_by test past → n ≡ count_by test (event ∷ past)
count-same test event past n fails is = is ∙ sym (count-more test event past ∙ ap (λ b. cond b 1 0 + count_by test past) fails ∙ omega arith)

count-next : (test : Event → Bool) (event : Event) (past : History) (n : ℕ) → test event ≡ true → n ≡ count_by test past → n + 1 ≡ count_by test (event ∷ past)
count-next test event past n passes is = omega (arith, is, count-more test event past ∙ ap (λ b. cond b 1 0 + count_by test past) passes)

-- ---- each kind of event

module _ (past : History) (live : List ℕ) (reserved : List StatementKey) (begun committed : ℕ) (old : IsCounted past live reserved begun committed) where
  -- one that neither begins nor ends a transaction
  plain : (event : Event) (reserved' : List StatementKey) → IsTrue (is_live (owner_of event) past)
      → lives (event ∷ events_of (owner_of event) past) ≡ lives (events_of (owner_of event) past) → is_begun event ≡ false → is_committed event ≡ false
      → ((u j : ℕ) → owner_of event ≢ u → IsTrue (is_reserved u j reserved) → IsTrue (is_reserved u j reserved'))
      → ((j : ℕ) → IsTrue (is_open j (event ∷ events_of (owner_of event) past)) → IsTrue (is_reserved (owner_of event) j reserved'))
      → IsCounted (event ∷ past) live reserved' begun committed
  plain event reserved' is_alive same no_begin no_commit others own = record {
    listed = λ u. old.listed u ∙ sym (live-same event past same u);
    open_reserved = open-later event past reserved reserved' old.open_reserved others (λ still. own);
    begun_counted = count-same is_begun event past begun no_begin old.begun_counted;
    committed_counted = count-same is_committed event past committed no_commit old.committed_counted;
    few = old.few;
    fit = old.fit;
    fresh = fresh-later event past begun begun (begun-live past (owner_of event) begun old.fresh is_alive) (omega arith) old.fresh;
  }

  -- one that closes a statement
  closing : (t k : ℕ) (event : Event) → owner_of event ≡ t → IsTrue (is_live t past)
      → lives (event ∷ events_of (owner_of event) past) ≡ lives (events_of (owner_of event) past) → is_begun event ≡ false → is_committed event ≡ false
      → ((i : ℕ) → grants i event ≡ false) → ((i : ℕ) → closes i event ≡ (k == i))
      → IsCounted (event ∷ past) live (reserved_without t k reserved) begun committed
  closing t k event own is_alive same no_begin no_commit no_grant closes_it =
      plain event (reserved_without t k reserved) alive same no_begin no_commit
      (λ u j other is. reserved-stays t k u j reserved (λ at. absurd (other (own ∙ sym at))) is)
      (λ j is. subst (λ v. IsTrue (is_reserved v j (reserved_without t k reserved))) (sym own)
      (open-closed t k j event (events_of (owner_of event) past) reserved no_grant closes_it
      (λ opened. subst (λ v. IsTrue (is_reserved v j reserved)) own (old.open_reserved (owner_of event) j alive opened)) is))
    where
      alive : IsTrue (is_live (owner_of event) past)
      alive = subst (λ v. IsTrue (is_live v past)) (sym own) is_alive

  pub counted-answered : (t k : ℕ) (answer : Answer) → IsTrue (is_live t past)
      → IsCounted (Answered t k answer ∷ past) live (reserved_without t k reserved) begun committed
  counted-answered t k answer alive = closing t k (Answered t k answer) refl alive refl refl refl (λ i. refl) (λ i. refl)

  pub counted-gave_up : (t k : ℕ) → IsTrue (is_live t past) → IsCounted (GaveUp t k ∷ past) live (reserved_without t k reserved) begun committed
  counted-gave_up t k alive = closing t k (GaveUp t k) refl alive refl refl refl (λ i. refl) (λ i. refl)

  pub counted-refused : (t k p holder : ℕ) (lock : LockName) (mode : Mode) → IsTrue (is_live t past)
      → IsCounted (Refused t k p lock mode holder ∷ past) live (reserved_without t k reserved) begun committed
  counted-refused t k p holder lock mode alive = closing t k (Refused t k p lock mode holder) refl alive refl refl refl (λ i. refl) (λ i. refl)

  pub counted-granted : (t k p : ℕ) (list : List Lock) → IsTrue (is_live t past) → IsTrue (is_reserved t k reserved)
      → IsCounted (Granted t k p list ∷ past) live reserved begun committed
  counted-granted t k p list alive here =
      plain (Granted t k p list) reserved alive refl refl refl (λ u j other is. is)
      (λ j is. open-granted t k p j list (events_of t past) reserved here (old.open_reserved t j alive) is)

  pub counted-begun : (t session k : ℕ) → t ≡ begun + 1 → t < 4294967296
      → IsCounted (Begun t session k ∷ past) (live ++ t ∷ []) reserved t committed
  counted-begun t session k next fits = record {
    listed = λ u. listed-push t u live ∙ ap (λ b. b || ((t == u) || false)) (old.listed u) ∙ sym (live-begun t session k past none u);
    open_reserved = open-later (Begun t session k) past reserved reserved old.open_reserved (λ u j other is. is)
        (λ still j is. absurd (nothing_open j (events_of t past) none is));
    begun_counted = next ∙ count-next is_begun (Begun t session k) past begun refl old.begun_counted;
    committed_counted = count-same is_committed (Begun t session k) past committed refl old.committed_counted;
    few = omega (arith, next, old.few, length-append live (t ∷ []));
    fit = fits;
    fresh = fresh-later (Begun t session k) past begun t (omega arith) (omega (arith, next)) old.fresh;
  }
    where
      none : events_of t past ≡ []
      none = old.fresh t (omega (arith, next))

      nothing_open : (j : ℕ) (own_events : History) → own_events ≡ [] → IsTrue (is_open j (Begun t session k ∷ own_events)) → ⊥
      nothing_open j [] is opened = false≢true opened
      nothing_open j (event ∷ own_events) is opened = absurd cc

  ended : (t committed' : ℕ) (event : Event) → owner_of event ≡ t → IsTrue (is_live t past) → lives (event ∷ events_of (owner_of event) past) ≡ false
      → is_begun event ≡ false → committed' ≡ count_by is_committed (event ∷ past) → committed' ≤ committed + 1
      → IsCounted (event ∷ past) (live_without t live) (reserved_without_all_of t reserved) begun committed'
  ended t committed' event own is_alive dead no_begin counts few = record {
    listed = λ u. listed-without t u live ∙ ap (λ b. not (u == t) && b) (old.listed u) ∙ sym
        (subst (λ v. is_live u (event ∷ past) ≡ (not (u == v) && is_live u past)) own (live-ended event past dead u));
    open_reserved = open-later event past reserved (reserved_without_all_of t reserved) old.open_reserved
        (λ u j other is. reserved-stays_all t u j reserved (λ at. other (own ∙ sym at)) is)
        (λ still j is. absurd (false≢true (sym dead ∙ still)));
    begun_counted = count-same is_begun event past begun no_begin old.begun_counted;
    committed_counted = counts;
    few = omega (arith, few, old.few, length-filter-lt (λ u. u == t) live (old.listed t ∙ is_alive));
    fit = old.fit;
    fresh = fresh-later event past begun begun (subst (λ v. v ≤ begun) (sym own) (begun-live past t begun old.fresh is_alive)) (omega arith) old.fresh;
  }

  pub counted-aborted : (t : ℕ) → IsTrue (is_live t past) → IsCounted (Aborted t ∷ past) (live_without t live) (reserved_without_all_of t reserved) begun committed
  counted-aborted t alive =
      ended t committed (Aborted t) refl alive (no_life (begun_at (events_of t past))) refl (count-same is_committed (Aborted t) past committed refl old.committed_counted) (omega arith)

  pub counted-committed : (t number : ℕ) → IsTrue (is_live t past)
      → IsCounted (Committed t number ∷ past) (live_without t live) (reserved_without_all_of t reserved) begun (committed + 1)
  counted-committed t number alive = ended t (committed + 1) (Committed t number) refl alive
      (no_life (begun_at (events_of t past))) refl (count-next is_committed
      (Committed t number) past committed refl old.committed_counted) (omega arith)

  pub counted-reserved : (t k : ℕ) → IsCounted past live (reserved_with t k reserved) begun committed
  counted-reserved t k = record {
    listed = old.listed;
    open_reserved = λ u j alive opened. reserved-more t k u j reserved (old.open_reserved u j alive opened);
    begun_counted = old.begun_counted;
    committed_counted = old.committed_counted;
    few = old.few;
    fit = old.fit;
    fresh = old.fresh;
  }

  -- there is room for one commit more
  pub committed-fits : (t : ℕ) → IsTrue (is_live t past) → committed + 1 ≤ begun
  committed-fits t alive = omega (arith, old.few, length-filter-lt (λ u. u == t) live (old.listed t ∙ alive))

pub counted-new : IsCounted [] [] [] 0 0
counted-new = record {
  listed = λ t. refl;
  open_reserved = λ t k alive opened. absurd (false≢true alive);
  begun_counted = refl;
  committed_counted = refl;
  few = omega arith;
  fit = omega arith;
  fresh = λ t beyond. refl;
}
