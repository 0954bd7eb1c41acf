-- Legal histories are serial and steady, and commits leave what others hold.
use Rattle.std.proofs.Common.{◌≡◌, ◌≢◌, ℕ, ◌∷◌, sym, ◌∙◌}
use Rattle.std.specs.Prelude.{IsTrue}
use Rattle.spec_statements.specs.Agree.{Agrees}
use Rattle.spec_statements.specs.Machine.{machine}
use Rattle.ras_syntax.specs.declared.event.Event.TheVariants.{Committed}
use Rattle.spec_histories.specs.History.{History, Programs, committed_database, granted_locks, is_live, events_of}
use Rattle.spec_histories.specs.Legal.{IsLegal}
use Rattle.spec_histories.specs.Serializable.{ArePrograms, HasRoom, IsSerializable, IsSteady, committed_replies, committed_statements}
use Rattle.law_histories.proofs.Legal.{commit-leaves, legal_good}
use Rattle.law_histories.proofs.Runs.{after-machine, replies-machine}

pub legal_serial : (programs : Programs) (bound : ℕ) (past : History) → ArePrograms programs bound → HasRoom bound past → IsLegal programs past → IsSerializable programs past
legal_serial programs bound past are room legal =
    let all = legal_good programs bound past are room legal in
    record { answers = all.same_answers; last = all.last }

-- of the machine itself
pub legal_answers : (programs : Programs) (bound : ℕ) (past : History) → ArePrograms programs bound → HasRoom bound past → IsLegal programs past
    → (machine programs.types (committed_statements programs past) programs.base).0 ≡ committed_replies past
legal_answers programs bound past are room legal =
    sym (replies-machine programs (committed_statements programs past) programs.base) ∙ (legal_serial programs bound past are room legal).answers

pub legal_last : (programs : Programs) (bound : ℕ) (past : History) → ArePrograms programs bound → HasRoom bound past → IsLegal programs past
    → (machine programs.types (committed_statements programs past) programs.base).1 ≡ committed_database programs past
legal_last programs bound past are room legal =
    sym (after-machine programs (committed_statements programs past) programs.base) ∙ (legal_serial programs bound past are room legal).last

pub legal_steady : (programs : Programs) (bound : ℕ) (past : History) (t : ℕ) → ArePrograms programs bound → HasRoom bound past → IsLegal programs past
    → IsTrue (is_live t past) → IsSteady programs past t
legal_steady programs bound past t are room legal live =
    let good = (legal_good programs bound past are room legal).good t live in
    record {
      answers = good.answers;
      lists = λ k p list statement there not_closed text. good.lists k p list statement (record { t = t; there = there; not_closed = not_closed; text = text });
      parents = good.parents;
    }

pub commit_leaves_others : (programs : Programs) (bound : ℕ) (past : History) (t number other : ℕ) → ArePrograms programs bound → HasRoom bound past
    → IsLegal programs (Committed t number ∷ past) → other ≢ t → IsTrue (is_live other past)
    → Agrees programs.types (granted_locks (events_of other past)) (committed_database programs past) (committed_database programs (Committed t number ∷ past))
commit_leaves_others programs bound past t number other are room legal apart live =
    commit-leaves programs bound past t other (legal_good programs bound past are room legal.1) legal.0.0 live apart
