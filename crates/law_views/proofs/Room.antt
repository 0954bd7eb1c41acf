-- There are no more answers than begun transactions times the statements of a session.
use Rattle.std.proofs.Common.{◌≡◌, ◌≢◌, ℕ, zero, suc, ◌+◌, ◌*◌, ◌-◌, ◌<◌, ◌≤◌, inl, inr, Bool, true, false, cond, ◌||◌, nat_le, if◌then◌else◌, List, [], ◌∷◌, length, Option, Some, None, refl, sym, ap, ◌∙◌, subst, arith}
use Rattle.std.specs.Prelude.{IsTrue, count_by, slice_get}
use Rattle.std.proofs.lemmas.Bool.{cases_eq, eq-eqb}
use Rattle.std.proofs.Math.Nat.{mul-le-mul_right}
use Rattle.std.proofs.lemmas.List.Sums.{sum_by-cons}
use Rattle.std.proofs.lemmas.Option.{slice_get_within}
use Rattle.ras_syntax.specs.declared.event.Event.{Event}
use Rattle.ras_syntax.specs.declared.event.Event.TheVariants.{Begun, Granted, Refused, Answered, GaveUp, Committed, Aborted}
use Rattle.ras_syntax.specs.declared.limits.TheConstants.{MAX_IDENTIFIER}
use Rattle.ras_syntax.specs.declared.statement.Statement.{Statement}
use Rattle.spec_histories.specs.History.{History, Programs, begun_at, closes, events_of, is_closed, is_live, nth, owner_of, statement_from, statement_in, statement_numbered}
use Rattle.spec_histories.specs.Legal.{IsLegal, is_begun}
use Rattle.spec_histories.specs.Serializable.{HasRoom, answer_count, is_answered}
use Rattle.law_histories.proofs.Grants.{answer_count-cons}
use Rattle.law_histories.proofs.Owners.{mine-other, mine-own, no_events-dead}
use Rattle.spec_views.specs.Sessions.{AreShort}

-- ---- sums over numbers from 1 on

unfoldable pub sum_to : (ℕ → ℕ) → ℕ → ℕ
sum_to f zero = 0
sum_to f (suc n) = sum_to f n + f (suc n)

pub sum_to-more : (f g : ℕ → ℕ) (n : ℕ) → ((k : ℕ) → f k ≤ g k) → sum_to f n ≤ sum_to g n
unfolding sum_to
sum_to-more f g zero more = omega arith
sum_to-more f g (suc n) more = omega (arith, sum_to-more f g n more, more (suc n))

-- one of the terms is greater
pub sum_to-grows : (f g : ℕ → ℕ) (n at : ℕ) → ((k : ℕ) → f k ≤ g k) → 1 ≤ at → at ≤ n → f at + 1 ≤ g at → sum_to f n + 1 ≤ sum_to g n
unfolding sum_to
sum_to-grows f g zero at more some few grows = absurd (omega arith)
sum_to-grows f g (suc n) at more some few grows = elim (cases_eq at (suc n)) [
  | inl same ↦ (let here : f (suc n) + 1 ≤ g (suc n) = subst (λ k. f k + 1 ≤ g k) same grows in omega (arith, sum_to-more f g n more, here))
  | inr differs ↦ omega (arith, sum_to-grows f g n at more some (omega arith) grows, more (suc n))
]

sum_to-few : (f : ℕ → ℕ) (n most : ℕ) → ((k : ℕ) → f k ≤ most) → sum_to f n ≤ n * most
unfolding sum_to
sum_to-few f zero most few = omega arith
sum_to-few f (suc n) most few = omega (arith, sum_to-few f n most few, few (suc n))

sum_to-one : (f : ℕ → ℕ) (n : ℕ) → sum_to f n ≤ sum_to f (suc n)
unfolding sum_to
sum_to-one f n = omega arith

-- ---- the closed statements of each transaction

abbrev closed : ℕ → ℕ → History → ℕ
closed t k past = cond (is_closed k (events_of t past)) 1 0

closed-few : (b : Bool) → cond b 1 0 ≤ 1
closed-few true = omega arith
closed-few false = omega arith

closed-or : (a b : Bool) → cond b 1 0 ≤ cond (a || b) 1 0
closed-or true true = omega arith
closed-or true false = omega arith
closed-or false true = omega arith
closed-or false false = omega arith

closed-more : (t k : ℕ) (event : Event) (past : History) → closed t k past ≤ closed t k (event ∷ past)
closed-more t k event past = elim (cases_eq (owner_of event) t) [
  | inl own ↦ subst (λ m. cond (is_closed k (events_of t past)) 1 0 ≤ cond (is_closed k m) 1 0) (sym (mine-own t event past own))
      (closed-or (closes k event) (is_closed k (events_of t past)))
  | inr other ↦ subst (λ m. cond (is_closed k (events_of t past)) 1 0 ≤ cond (is_closed k m) 1 0) (sym (mine-other t event past other)) (omega arith)
]

abbrev all_closed : ℕ → History → ℕ → ℕ
all_closed longest past t = sum_to (λ k. closed t k past) longest

total : ℕ → ℕ → History → ℕ
total longest n past = sum_to (all_closed longest past) n

total-more : (longest n : ℕ) (event : Event) (past : History) → total longest n past ≤ total longest n (event ∷ past)
unfolding total
total-more longest n event past =
    sum_to-more (all_closed longest past) (all_closed longest (event ∷ past)) n
    (λ t. sum_to-more (λ k. closed t k past) (λ k. closed t k (event ∷ past)) longest (λ k. closed-more t k event past))

total-one : (longest n : ℕ) (past : History) → total longest n past ≤ total longest (suc n) past
unfolding total
total-one longest n past = sum_to-one (all_closed longest past) n

-- an answer closes one more
total-answered : (longest n t k : ℕ) (event : Event) (past : History) → owner_of event ≡ t → closes k event ≡ true → is_closed k (events_of t past) ≡ false
    → 1 ≤ t → t ≤ n → 1 ≤ k → k ≤ longest → total longest n past + 1 ≤ total longest n (event ∷ past)
unfolding total
total-answered longest n t k event past own closing not_closed some few some_k few_k =
    sum_to-grows (all_closed longest past) (all_closed longest (event ∷ past)) n t
    (λ u. sum_to-more (λ j. closed u j past) (λ j. closed u j (event ∷ past)) longest (λ j. closed-more u j event past)) some few
    (sum_to-grows (λ j. closed t j past) (λ j. closed t j (event ∷ past)) longest k (λ j. closed-more t j event past) some_k few_k here)
  where
    was : closed t k past ≡ 0
    was = ap (λ b. cond b 1 0) not_closed

    now : closed t k (event ∷ past) ≡ 1
    now = ap (λ m. cond (is_closed k m) 1 0) (mine-own t event past own) ∙ ap (λ b. cond (b || is_closed k (events_of t past)) 1 0) closing

    here : closed t k past + 1 ≤ closed t k (event ∷ past)
    here = omega (arith, was, now)

total-few : (longest n : ℕ) (past : History) → total longest n past ≤ n * longest
unfolding total
total-few longest n past =
    sum_to-few (all_closed longest past) n longest (λ t. let e : sum_to (λ k. closed t k past) longest ≤ longest * 1 =
    sum_to-few (λ k. closed t k past) longest 1 (λ k. closed-few (is_closed k (events_of t past))) in omega arith)

-- ---- owners have begun, and statements have places

pub begun-more : (event : Event) (past : History) → count_by is_begun (event ∷ past) ≡ cond (is_begun event) 1 0 + count_by is_begun past
begun-more event past = sum_by-cons (λ e. cond (is_begun e) 1 0) event past

abbrev HaveBegun : History → Type 0
HaveBegun past = (t : ℕ) → events_of t past ≢ [] → (1 ≤ t) × (t ≤ count_by is_begun past)

begun-later : (event : Event) (past : History) → HaveBegun past → (1 ≤ owner_of event) × (owner_of event ≤ count_by is_begun (event ∷ past)) → HaveBegun (event ∷ past)
begun-later event past all here t some = elim (cases_eq (owner_of event) t) [
  | inl own ↦ subst (λ u. (1 ≤ u) × (u ≤ count_by is_begun (event ∷ past))) own here
  | inr other ↦ (let old = all t (λ none. some (mine-other t event past other ∙ none)) in (old.0, omega (arith, old.1, begun-more event past)))
]

begun-live : (event : Event) (past : History) → HaveBegun past → IsTrue (is_live (owner_of event) past) → (1 ≤ owner_of event) × (owner_of event ≤ count_by is_begun (event ∷ past))
begun-live event past all live =
    let old = all (owner_of event) (no_events-dead (events_of (owner_of event) past) live) in (old.0, omega (arith, old.1, begun-more event past))

have_begun : (programs : Programs) (past : History) → IsLegal programs past → HaveBegun past
have_begun programs [] legal = λ t some. absurd (some refl)
have_begun programs (Begun t session k ∷ past) (may, legal) =
    begun-later (Begun t session k) past (have_begun programs past legal) (omega (arith, may.0), omega (arith, may.0, begun-more (Begun t session k) past))
have_begun programs (Granted t k p list ∷ past) (may, legal) =
    let all = have_begun programs past legal in begun-later (Granted t k p list) past all (begun-live (Granted t k p list) past all may.0.going_on.live)
have_begun programs (Refused t k p name mode holder ∷ past) (may, legal) =
    let all = have_begun programs past legal in
    begun-later (Refused t k p name mode holder) past all (begun-live (Refused t k p name mode holder) past all may.1.going_on.live)
have_begun programs (Answered t k answer ∷ past) (may, legal) =
    let all = have_begun programs past legal in begun-later (Answered t k answer) past all (begun-live (Answered t k answer) past all may.1.live)
have_begun programs (GaveUp t k ∷ past) (may, legal) =
    let all = have_begun programs past legal in begun-later (GaveUp t k) past all (begun-live (GaveUp t k) past all may.0)
have_begun programs (Committed t n ∷ past) (may, legal) =
    let all = have_begun programs past legal in begun-later (Committed t n) past all (begun-live (Committed t n) past all may.0)
have_begun programs (Aborted t ∷ past) (may, legal) =
    let all = have_begun programs past legal in begun-later (Aborted t) past all (begun-live (Aborted t) past all may)

-- a number beyond those that have begun has no events
pub fresh : (programs : Programs) (past : History) (t : ℕ) → IsLegal programs past → count_by is_begun past < t → events_of t past ≡ []
fresh programs past t legal later = at (events_of t past) refl
  where
    at : (own_events : History) → events_of t past ≡ own_events → events_of t past ≡ []
    at [] is = is
    at (event ∷ own_events) is = absurd (omega (arith, (have_begun programs past legal t (λ none. some (sym is ∙ none))).1))
      where
        some : event ∷ own_events ≢ []
        some none = absurd cc

pub nth-within : {X : Type 0} (k : ℕ) (xs : List X) (x : X) → nth k xs ≡ Some x → (1 ≤ k) × (k ≤ length xs)
nth-within zero xs x is = absurd cc
nth-within {X = X} (suc k) xs x is = at (nat_le 1 (suc k)) is
  where
    at : (b : Bool) → (if b then slice_get xs (suc k - 1) else None) ≡ Some x → (1 ≤ suc k) × (suc k ≤ length xs)
    at true is = (omega arith, omega (arith, slice_get_within xs (suc k - 1) x is))
    at false is = absurd cc

placed : (programs : Programs) (longest : ℕ) (own_events : History) (k : ℕ) (statement : Statement) → AreShort programs longest
    → statement_numbered programs own_events k ≡ Some statement → (1 ≤ k) × (k ≤ longest)
placed programs longest own_events k statement short is = of (begun_at own_events) is
  where
    in_script : (script : List (Option Statement)) (found : Option (Option Statement)) → nth k script ≡ found
        → (elim found [ None ↦ None | Some statement ↦ statement ]) ≡ Some statement → (1 ≤ k) × (k ≤ length script)
    in_script script None at is = absurd cc
    in_script script (Some found) at is = nth-within k script found at

    in_session : (session : ℕ) (found : Option (List (Option Statement))) → nth session programs.scripts ≡ found → statement_in found k ≡ Some statement
        → (1 ≤ k) × (k ≤ longest)
    in_session session None at is = absurd cc
    in_session session (Some script) at is =
        let within = in_script script (nth k script) refl is in (within.0, omega (arith, within.1, short session script at))

    of : (begun : Option (ℕ × ℕ)) → statement_from programs begun k ≡ Some statement → (1 ≤ k) × (k ≤ longest)
    of None is = absurd cc
    of (Some begun) is = in_session begun.0 (nth begun.0 programs.scripts) refl is

-- ---- all answers

-- an event that neither begins nor answers
quiet : (longest : ℕ) (event : Event) (past : History) → is_begun event ≡ false → is_answered event ≡ false
    → answer_count past ≤ total longest (count_by is_begun past) past → answer_count (event ∷ past) ≤ total longest (count_by is_begun (event ∷ past)) (event ∷ past)
quiet longest event past begins answers few =
    let n : ℕ = count_by is_begun past in
    let e : count_by is_begun (event ∷ past) ≡ n = begun-more event past ∙ ap (λ b. cond b 1 0 + n) begins ∙ omega arith in
    let same : answer_count (event ∷ past) ≡ answer_count past = answer_count-cons event past ∙ ap (λ b. cond b 1 0 + answer_count past) answers ∙ omega arith in
    subst (λ m. answer_count (event ∷ past) ≤ total longest m (event ∷ past)) (sym e) (omega (arith, same, few, total-more longest n event past))

answers_within : (programs : Programs) (longest : ℕ) (past : History) → AreShort programs longest → IsLegal programs past
    → answer_count past ≤ total longest (count_by is_begun past) past
answers_within programs longest [] short legal = omega arith
answers_within programs longest (Begun t session k ∷ past) short (may, legal) =
    let n : ℕ = count_by is_begun past in
    let e : count_by is_begun (Begun t session k ∷ past) ≡ suc n = begun-more (Begun t session k) past ∙ omega arith in
    subst (λ m. answer_count (Begun t session k ∷ past) ≤ total longest m (Begun t session k ∷ past)) (sym e)
    (omega (
      arith,
      answer_count-cons (Begun t session k) past,
      answers_within programs longest past short legal,
      total-more longest n (Begun t session k) past,
      total-one longest n (Begun t session k ∷ past),
    ))
answers_within programs longest (Granted t k p list ∷ past) short (may, legal) =
    quiet longest (Granted t k p list) past refl refl (answers_within programs longest past short legal)
answers_within programs longest (Refused t k p name mode holder ∷ past) short (may, legal) =
    quiet longest (Refused t k p name mode holder) past refl refl (answers_within programs longest past short legal)
answers_within programs longest (GaveUp t k ∷ past) short (may, legal) =
    quiet longest (GaveUp t k) past refl refl (answers_within programs longest past short legal)
answers_within programs longest (Committed t n ∷ past) short (may, legal) =
    quiet longest (Committed t n) past refl refl (answers_within programs longest past short legal)
answers_within programs longest (Aborted t ∷ past) short (may, legal) =
    quiet longest (Aborted t) past refl refl (answers_within programs longest past short legal)
answers_within programs longest (Answered t k answer ∷ past) short (may, legal) =
    let n : ℕ = count_by is_begun past in
    let begun = have_begun programs past legal t (no_events-dead (events_of t past) may.1.live) in
    let place = placed programs longest (events_of t past) k may.0 short may.1.text in
    let e : count_by is_begun (Answered t k answer ∷ past) ≡ n = begun-more (Answered t k answer) past ∙ omega arith in
    subst (λ m. answer_count (Answered t k answer ∷ past) ≤ total longest m (Answered t k answer ∷ past)) (sym e)
    (omega (
      arith,
      answer_count-cons (Answered t k answer) past,
      answers_within programs longest past short legal,
      total-answered longest n t k (Answered t k answer) past refl (eq-eqb k k refl) may.1.not_closed begun.0 begun.1 place.0 place.1,
    ))

pub answers-few : (programs : Programs) (longest : ℕ) (past : History) → AreShort programs longest → IsLegal programs past
    → answer_count past ≤ count_by is_begun past * longest
answers-few programs longest past short legal =
    omega (arith, answers_within programs longest past short legal, total-few longest (count_by is_begun past) past)

pub has_room : (programs : Programs) (longest begins bound : ℕ) (past : History) → AreShort programs longest → IsLegal programs past
    → count_by is_begun past ≤ begins → bound + begins * longest ≤ MAX_IDENTIFIER → HasRoom bound past
has_room programs longest begins bound past short legal few room =
    let more : count_by is_begun past * longest ≤ begins * longest = mul-le-mul_right longest few in
    omega (arith, answers-few programs longest past short legal, more)
