-- What a core keeps beside the history, so that no call goes through it.
use Rattle.std.specs.Prelude.{◌≡◌, ℕ, ◌+◌, ◌<◌, ◌≤◌, List, [], length, IsTrue, count_by}
use Rattle.spec_histories.specs.History.{History, events_of, is_live, is_open}
use Rattle.spec_histories.specs.Legal.{is_begun, is_committed}
use Rattle.ras_core.specs.Journal.{StatementKey, is_listed_live, is_reserved}

-- who lives, what is open, and which numbers come next
pub record IsCounted (history : History) (live : List ℕ) (reserved : List StatementKey) (begun committed : ℕ) : Type 0 where
  pub listed : (t : ℕ) → is_listed_live t live ≡ is_live t history
  pub open_reserved : (t k : ℕ) → IsTrue (is_live t history) → IsTrue (is_open k (events_of t history)) → IsTrue (is_reserved t k reserved)
  pub begun_counted : begun ≡ count_by is_begun history
  pub committed_counted : committed ≡ count_by is_committed history
  pub few : committed + length live ≤ begun
  pub fit : begun < 4294967296
  pub fresh : (t : ℕ) → begun < t → events_of t history ≡ []
