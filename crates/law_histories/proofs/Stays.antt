-- What a live transaction has seen stays, whatever others do.
use Rattle.std.proofs.Common.{◌≡◌, ◌≢◌, ℕ, ◌+◌, [], ◌∷◌, ◌++◌, length, refl, sym, subst, ap, ◌∙◌, arith, cond}
use Rattle.std.specs.Prelude.{Contains, IsTrue}
use Rattle.std.proofs.lemmas.List.Elements.{filter-append}
use Rattle.std.proofs.lemmas.List.Sums.{sum_by-append}
use Rattle.spec_statements.specs.Agree.{Agrees}
use Rattle.ras_syntax.specs.declared.event.Event.{Event}
use Rattle.ras_syntax.specs.declared.event.Event.TheVariants.{Begun, Granted, Refused, Answered, GaveUp, Committed, Aborted}
use Rattle.spec_histories.specs.History.{History, Programs, database_after, answered_statements, committed_database, granted_locks, is_live, events_of, own_database, owner_of}
use Rattle.spec_histories.specs.Legal.{IsLegal}
use Rattle.spec_histories.specs.Serializable.{ArePrograms, HasRoom, committed_statements, is_answered}
use Rattle.law_histories.proofs.Counts.{live-few, room-before}
use Rattle.law_histories.proofs.Good.{moved-run}
use Rattle.law_histories.proofs.Legal.{AreGood, commit-leaves, legal_good}
use Rattle.law_histories.proofs.Owners.{lives, mine-other, mine-own}

-- the transaction's events are the same where there are none among the later ones
pub mine-before : (t : ℕ) (more past : History) → events_of t more ≡ [] → events_of t (more ++ past) ≡ events_of t past
mine-before t more past none = filter-append _ more past ∙ ap (λ m. m ++ events_of t past) none

-- it lives on
pub live-stays : (t : ℕ) (more past : History) → events_of t more ≡ [] → IsTrue (is_live t past) → IsTrue (is_live t (more ++ past))
live-stays t more past none live = subst (λ m. IsTrue (lives m)) (sym (mine-before t more past none)) live

-- none of the later events is its own
first-foreign : (t : ℕ) (event : Event) (more : History) → events_of t (event ∷ more) ≡ [] → owner_of event ≢ t
first-foreign t event more none is = let e : event ∷ events_of t more ≡ [] = sym (mine-own t event more is) ∙ none in absurd cc

later-none : (t : ℕ) (event : Event) (more : History) → events_of t (event ∷ more) ≡ [] → events_of t more ≡ []
later-none t event more none = sym (mine-other t event more (first-foreign t event more none)) ∙ none

-- a history is legal up to each moment
pub legal-before : (programs : Programs) (more past : History) → IsLegal programs (more ++ past) → IsLegal programs past
legal-before programs [] past legal = legal
legal-before programs (event ∷ more) past legal = legal-before programs more past legal.1

-- the committed database shows it the same
pub base-stays : (programs : Programs) (bound : ℕ) (more past : History) (t : ℕ) → ArePrograms programs bound → HasRoom bound (more ++ past)
    → IsLegal programs (more ++ past) → IsTrue (is_live t past) → events_of t more ≡ []
    → Agrees programs.types (granted_locks (events_of t past)) (committed_database programs past) (committed_database programs (more ++ past))
base-stays programs bound [] past t are room legal live none = λ name mode has. refl
base-stays programs bound (Begun u session k ∷ more) past t are room legal live none =
    base-stays programs bound more past t are room legal.1 live (later-none t (Begun u session k) more none)
base-stays programs bound (Granted u k p list ∷ more) past t are room legal live none =
    base-stays programs bound more past t are room legal.1 live (later-none t (Granted u k p list) more none)
base-stays programs bound (Refused u k p name mode holder ∷ more) past t are room legal live none =
    base-stays programs bound more past t are room legal.1 live (later-none t (Refused u k p name mode holder) more none)
base-stays programs bound (Answered u k answer ∷ more) past t are room legal live none =
    base-stays programs bound more past t are (room-before bound (Answered u k answer) (more ++ past) room) legal.1 live (later-none t (Answered u k answer) more none)
base-stays programs bound (GaveUp u k ∷ more) past t are room legal live none = base-stays programs bound more past t are room legal.1 live (later-none t (GaveUp u k) more none)
base-stays programs bound (Aborted u ∷ more) past t are room legal live none = base-stays programs bound more past t are room legal.1 live (later-none t (Aborted u) more none)
base-stays programs bound (Committed u number ∷ more) past t are room legal live none = λ name mode has.
    base-stays programs bound more past t are room legal.1 live silent name mode has
    ∙ commit-leaves programs bound (more ++ past) u t (legal_good programs bound (more ++ past) are room legal.1) legal.0.0 (live-stays t more past silent live)
    (λ is. first-foreign t (Committed u number) more none (sym is)) name mode
    (subst (λ m. Contains (granted_locks m) (name, mode)) (sym (mine-before t more past silent)) has)
  where
    silent : events_of t more ≡ []
    silent = later-none t (Committed u number) more none

-- and so does its own
pub own-stays : (programs : Programs) (bound : ℕ) (more past : History) (t : ℕ) → ArePrograms programs bound → HasRoom bound (more ++ past)
    → IsLegal programs (more ++ past) → IsTrue (is_live t past) → events_of t more ≡ []
    → Agrees programs.types (granted_locks (events_of t past)) (own_database programs past t) (own_database programs (more ++ past) t)
own-stays programs bound more past t are room legal live none =
    subst (λ m. Agrees programs.types (granted_locks (events_of t past)) (own_database programs past t)
    (database_after programs (answered_statements programs m) (committed_database programs (more ++ past)))) (sym (mine-before t more past none))
    (moved-run programs (bound + length (committed_statements programs past)) bound (events_of t past) (committed_database programs past) (committed_database programs (more ++ past)) are
    (record {
      ready = before.ready;
      valid = (legal_good programs bound (more ++ past) are room legal).ready.valid;
      room = omega (arith, live-few programs past t earlier live, few);
      agrees = base-stays programs bound more past t are room legal live none;
    })
    (before.good t live)).agrees
  where
    earlier : IsLegal programs past
    earlier = legal-before programs more past legal

    few : HasRoom bound past
    few = omega (arith, sum_by-append (λ e. cond (is_answered e) 1 0) more past)

    before : AreGood programs bound past
    before = legal_good programs bound past are few earlier
