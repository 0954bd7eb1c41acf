-- What follows for a phase from what comes before it.
use Rattle.std.proofs.Common.{◌≡◌, ℕ, List, [], ◌∷◌, Result, Ok, refl, sym, ap, ◌∙◌}
use Rattle.std.specs.Prelude.{flat_map}
use Rattle.ras_cells.specs.Outcomes.{◌>>=◌}
use Rattle.ras_rows.specs.declared.stop.Stop.{Stop}
use Rattle.ras_rows.specs.declared.stop.Stop.TheVariants as stops
use Rattle.ras_rows.specs.Stops.{IsStop}
use Rattle.ras_syntax.specs.declared.typed.CheckedSource.{CheckedSource}
use Rattle.spec_expressions.specs.Tree.{always}
use Rattle.spec_statements.specs.Locks.{Lock, lock_list}
use Rattle.spec_statements.specs.Phases.{condition_tiles}
use Rattle.spec_statements.specs.Reply.{Reply}
use Rattle.spec_statements.specs.Rows.{Row}
use Rattle.ras_reach.specs.declared.first.NeedsFault.{NeedsFault}
use Rattle.ras_reach.specs.declared.first.NeedsFault.TheVariants as faults
use Rattle.ras_reach.specs.Needs.{GivesLocks, StopsAsNeeds, fault_of_stop, limited_to}

pub no_condition : (sources : List CheckedSource) (rows : List (ℕ × Row)) → flat_map (condition_tiles sources always) rows ≡ []
no_condition sources [] = refl
no_condition sources (row ∷ rows) = no_condition sources rows

-- a list that comes after what is there
pub lists_then : {A : Type 0} (wanted : Result A Reply) (a : A) (next : A → Result (List Lock) Reply) (r : Result (List Lock) NeedsFault) → wanted ≡ Ok a → GivesLocks (next a) r
    → GivesLocks (wanted >>= next) r
lists_then wanted a next r is gives = rw is gives

-- a stop before it
pub stops_then : {A B : Type 0} (wanted : Result A Reply) (next : A → Result B Reply) (stop : Stop) (fault : NeedsFault) → fault ≡ fault_of_stop stop → IsStop wanted stop
    → StopsAsNeeds (wanted >>= next) fault
stops_then wanted next (stops.Answer answer) fault same is = rw (same, is) refl
stops_then wanted next stops.Memory fault same is = rw same tt

-- a fault of a list before it
pub faults_then : {A B : Type 0} (wanted : Result A Reply) (next : A → Result B Reply) (fault : NeedsFault) → StopsAsNeeds wanted fault → StopsAsNeeds (wanted >>= next) fault
faults_then wanted next (faults.Answer answer) is = rw is refl
faults_then wanted next faults.Memory is = tt

pub no_list : (size : ℕ) (sources : List CheckedSource) (rows : List (ℕ × Row)) (new : List Lock) → new ≡ [] → limited_to size (lock_list (flat_map (condition_tiles sources always) rows)) ≡ Ok new
no_list size sources rows new is = ap (λ locks. limited_to size (lock_list locks)) (no_condition sources rows) ∙ ap (λ locks. Ok locks) (sym is)

-- a list that comes after rows, the list on their domains, and the shapes of the condition
pub after_shapes : {A : Type 0} (first : Result A Reply) (domains : A → Result (List Lock) Reply) (shaped : A → Result A Reply) (next : A → Result (List Lock) Reply) (rows : A) (list : List Lock)
    (r : Result (List Lock) NeedsFault) → first ≡ Ok rows → domains rows ≡ Ok list → shaped rows ≡ Ok rows → GivesLocks (next rows) r
    → GivesLocks (((first >>= λ x. domains x >>= λ asked. Ok x) >>= shaped) >>= next) r
after_shapes first domains shaped next rows list r a b c gives = rw (a, b, c) gives
