-- The laws of statements, over the words of the machine that stay shut in proofs on histories.
use Rattle.std.proofs.Common.{◌≡◌, ℕ, ◌+◌, ◌<◌, ◌≤◌, ℤ, List, Contains, IsTrue, arith}
use Rattle.std.proofs.lemmas.List.Elements.{All-weaker, recursion_from_All}
use Rattle.std.specs.Ordering.{is_eq, nat_cmp}
use Rattle.std.specs.Cmp.Lexicographic.{slice_cmp}
use Rattle.law_effects.proofs.Written.{found_each}
use Rattle.arrayvec.specs.ArrayVec.{ArrayVec}
use Rattle.ras_domain.specs.declared.lock.LockName.{LockName}
use Rattle.ras_domain.specs.declared.lock.LockName.TheVariants.{Collection, Domain, Tile}
use Rattle.ras_domain.specs.declared.lock.Mode.TheVariants.{Exclusive}
use Rattle.ras_syntax.specs.Literals.{statement_numbers_fit}
use Rattle.ras_syntax.specs.declared.statement.Statement.{Statement}
use Rattle.spec_expressions.specs.Database.{Collection as Collection_of, Database}
use Rattle.spec_expressions.specs.SetTypes.{AreTypes}
use Rattle.spec_statements.specs.Agree.{Agrees}
use Rattle.spec_statements.specs.Locks.{Lock}
use Rattle.spec_statements.specs.ReachLaw.{AreNamedIn, HasParents, IsSetting, Names}
use Rattle.spec_statements.specs.Validity.{HasIdentifiersUpTo, IsValidFor}
use Rattle.law_effects.proofs.Identifiers.{left_by-up_to}
use Rattle.law_effects.proofs.Others.{others_share}
use Rattle.law_effects.proofs.Parents.{parents_named}
use Rattle.law_effects.proofs.Valid.{left_by-valid}
use Rattle.law_locks.proofs.Answers.{answers_agree}
use Rattle.law_locks.proofs.Lists.{needs_agree}
use Rattle.spec_histories.specs.History.{Programs, program_effect, program_needs, program_reply}
use Rattle.ras_syntax.specs.declared.limits.TheConstants.{MAX_IDENTIFIER}

-- types that may be declared, and a valid database of them that gives out no identifier beyond a bound next
pub record IsReady (programs : Programs) (bound : ℕ) (database : Database) : Type 0 where
  pub types_fit : AreTypes programs.types
  pub valid : IsValidFor programs.types database
  pub identifiers : HasIdentifiersUpTo bound database

-- each lock of a list is one of another
abbrev pub Within : List Lock → List Lock → Type 0
Within small large = (lock : Lock) → Contains small lock → Contains large lock

-- no name of a list is locked exclusively by another
abbrev pub IsApart : List Lock → List Lock → Type 0
IsApart held list = (name : LockName) → Contains held (name, Exclusive) → Names list name → ⊥

-- a larger bound is one too
pub ready-more : (programs : Programs) (bound more : ℕ) (database : Database) → bound ≤ more → IsReady programs bound database → IsReady programs more database
ready-more programs bound more database few ready = record {
  types_fit = ready.types_fit;
  valid = ready.valid;
  identifiers = All-weaker (λ entry. entry.1.next ≤ bound) (λ entry. entry.1.next ≤ more) (λ entry is. omega arith) database ready.identifiers;
}

-- what the laws of agreement speak of
pub setting_of : (programs : Programs) (bound : ℕ) (statement : Statement) (database : Database) → IsReady programs bound database → bound ≤ MAX_IDENTIFIER
    → IsTrue (statement_numbers_fit statement.form) → IsSetting programs.types statement database
setting_of programs bound statement database ready few fits = record {
  types_fit = ready.types_fit;
  numbers_fit = fits;
  valid = ready.valid;
  small_identifiers = λ name named. let P : Collection_of → Type 0 = λ collection. collection.next ≤ MAX_IDENTIFIER in
      found_each P (λ other. is_eq (slice_cmp nat_cmp name other)) database
      (recursion_from_All (λ entry. P entry.1) database (ready-more programs bound MAX_IDENTIFIER database few ready).identifiers);
}

-- the names of a list within another are names of the other
names_within : (small large : List Lock) → Within small large → AreNamedIn small large
names_within small large within name named = (named.0, within (name, named.0) named.1)

-- databases that agree on the earlier phases' lists have the same list of the next phase
pub needs-same : (programs : Programs) (bound : ℕ) (statement : Statement) (one other : Database) (list : List Lock) (phase : ℕ) → IsReady programs bound one
    → bound ≤ MAX_IDENTIFIER → IsValidFor programs.types other → IsTrue (statement_numbers_fit statement.form) → Agrees programs.types list one other
    → ((earlier : ℕ) → earlier < phase → Within (program_needs programs statement earlier one) list)
    → program_needs programs statement phase one ≡ program_needs programs statement phase other
unfolding program_needs
needs-same programs bound statement one other list phase ready few valid fits agree within =
    needs_agree programs.types statement one other list phase (setting_of programs bound statement one ready few fits) valid agree
    (λ earlier before. names_within (program_needs programs statement earlier one) list (within earlier before))

-- and those that agree on all lists have the same answer
pub told-same : (programs : Programs) (bound : ℕ) (statement : Statement) (one other : Database) (list : List Lock) → IsReady programs bound one
    → bound ≤ MAX_IDENTIFIER → IsValidFor programs.types other → IsTrue (statement_numbers_fit statement.form) → Agrees programs.types list one other
    → ((phase : ℕ) → Within (program_needs programs statement phase one) list) → program_reply programs statement one ≡ program_reply programs statement other
unfolding program_needs program_reply
told-same programs bound statement one other list ready few valid fits agree within =
    (answers_agree programs.types statement one other list (setting_of programs bound statement one ready few fits) valid agree
    (λ phase up_to_4. names_within (program_needs programs statement phase one) list (within phase))).0

-- and are left so that they agree again
pub left-agrees : (programs : Programs) (bound : ℕ) (statement : Statement) (one other : Database) (list : List Lock) → IsReady programs bound one
    → bound ≤ MAX_IDENTIFIER → IsValidFor programs.types other → IsTrue (statement_numbers_fit statement.form) → Agrees programs.types list one other
    → ((phase : ℕ) → Within (program_needs programs statement phase one) list) → Agrees programs.types list (program_effect programs statement one) (program_effect programs statement other)
unfolding program_needs program_effect
left-agrees programs bound statement one other list ready few valid fits agree within =
    (answers_agree programs.types statement one other list (setting_of programs bound statement one ready few fits) valid agree
    (λ phase up_to_4. names_within (program_needs programs statement phase one) list (within phase))).1

-- a statement leaves what it has no exclusive lock on
pub left-leaves : (programs : Programs) (bound : ℕ) (statement : Statement) (database : Database) (held list : List Lock) → IsReady programs bound database
    → HasParents list → ((phase : ℕ) → Within (program_needs programs statement phase database) held) → IsApart held list
    → Agrees programs.types list (program_effect programs statement database) database
unfolding program_needs program_effect
left-leaves programs bound statement database held list ready parents within apart =
    others_share programs.types statement database list ready.types_fit ready.valid parents
    (λ phase name named exclusive. apart name (within phase (name, Exclusive) exclusive) named)

-- a phase's list has its parents in that phase or an earlier one
pub needs-domains : (programs : Programs) (statement : Statement) (database : Database) (phase : ℕ) (name : List ℕ) (id : ℕ)
    → Names (program_needs programs statement phase database) (Domain name id) → (earlier : ℕ) × (earlier ≤ phase)
    × Names (program_needs programs statement earlier database) (Collection name)
unfolding program_needs
needs-domains programs statement database phase = (parents_named programs.types statement database phase).0

pub needs-tiles : (programs : Programs) (statement : Statement) (database : Database) (phase : ℕ) (name : List ℕ) (id : ℕ) (place : ArrayVec ℤ)
    → Names (program_needs programs statement phase database) (Tile name id place) → (earlier : ℕ) × (earlier ≤ phase)
    × Names (program_needs programs statement earlier database) (Domain name id)
unfolding program_needs
needs-tiles programs statement database phase = (parents_named programs.types statement database phase).1

-- a statement leaves a database valid, and moves the bound of identifiers by one at most
pub left-valid : (programs : Programs) (statement : Statement) (database : Database) → AreTypes programs.types → IsValidFor programs.types database
    → IsValidFor programs.types (program_effect programs statement database)
unfolding program_effect
left-valid programs statement database = left_by-valid programs.types statement database

pub left-ready : (programs : Programs) (bound : ℕ) (statement : Statement) (database : Database) → IsReady programs bound database
    → IsReady programs (bound + 1) (program_effect programs statement database)
unfolding program_effect
left-ready programs bound statement database ready = record {
  types_fit = ready.types_fit;
  valid = left-valid programs statement database ready.types_fit ready.valid;
  identifiers = left_by-up_to programs.types statement database bound ready.identifiers;
}
