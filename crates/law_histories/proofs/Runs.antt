-- Runs of statements, one after another, over databases that agree.
use Rattle.std.proofs.Common.{◌≡◌, ℕ, ◌+◌, ◌≤◌, List, [], ◌∷◌, ◌++◌, length, IsTrue, refl, ap, ◌∙◌, subst, arith}
use Rattle.ras_syntax.specs.Literals.{statement_numbers_fit}
use Rattle.ras_syntax.specs.declared.statement.Statement.{Statement}
use Rattle.spec_expressions.specs.Database.{Database}
use Rattle.spec_expressions.specs.SetTypes.{AreTypes}
use Rattle.spec_statements.specs.Agree.{Agrees}
use Rattle.spec_statements.specs.Locks.{Lock}
use Rattle.spec_statements.specs.Machine.{machine}
use Rattle.spec_statements.specs.ReachLaw.{HasParents}
use Rattle.spec_statements.specs.Validity.{IsValidFor}
use Rattle.spec_histories.specs.History.{Programs, database_after, program_effect, program_needs, program_replies, program_reply}
use Rattle.law_histories.proofs.Statements.{IsApart, IsReady, Within, left-agrees, left-leaves, left-ready, left-valid, needs-same, told-same}
use Rattle.ras_syntax.specs.declared.limits.TheConstants.{MAX_IDENTIFIER}

-- each statement has numbers of their atoms
abbrev pub Fits : List Statement → Type 0
Fits [] = Unit {0}
Fits (statement ∷ statements) = IsTrue (statement_numbers_fit statement.form) × Fits statements

-- what each statement of a run needs, where it runs, is within a list
abbrev pub IsCovered : Programs → List Statement → Database → List Lock → Type 0
IsCovered programs [] database list = Unit {0}
IsCovered programs (statement ∷ statements) database list =
    ((phase : ℕ) → Within (program_needs programs statement phase database) list)
    × IsCovered programs statements (program_effect programs statement database) list

-- a run over another database has the same answers, leaves databases that agree, and is covered as well
pub record IsSameRun (programs : Programs) (statements : List Statement) (one other : Database) (list : List Lock) : Type 0 where
  pub answers : program_replies programs statements one ≡ program_replies programs statements other
  pub agrees : Agrees programs.types list (database_after programs statements one) (database_after programs statements other)
  pub covered : IsCovered programs statements other list

pub run-same : (programs : Programs) (statements : List Statement) (bound : ℕ) (one other : Database) (list : List Lock) → IsReady programs bound one
    → IsValidFor programs.types other → bound + length statements ≤ MAX_IDENTIFIER → Fits statements → Agrees programs.types list one other
    → IsCovered programs statements one list → IsSameRun programs statements one other list
run-same programs [] bound one other list ready valid few fits agree covered = record { answers = refl; agrees = agree; covered = tt }
run-same programs (statement ∷ statements) bound one other list ready valid few fits agree covered =
    let small : bound ≤ MAX_IDENTIFIER = omega arith in
    let told_same = told-same programs bound statement one other list ready small valid fits.0 agree covered.0 in
    let rest = run-same programs statements (bound + 1) (program_effect programs statement one) (program_effect programs statement other) list
    (left-ready programs bound statement one ready) (left-valid programs statement other ready.types_fit valid) (omega arith) fits.1
    (left-agrees programs bound statement one other list ready small valid fits.0 agree covered.0) covered.1 in
    record {
      answers = ap (λ reply. reply ∷ program_replies programs statements (program_effect programs statement one)) told_same
          ∙ ap (λ others. program_reply programs statement other ∷ others) rest.answers;
      agrees = rest.agrees;
      covered = (
        λ phase. subst (λ needed. Within needed list)
            (needs-same programs bound statement one other list phase ready small valid fits.0 agree (λ earlier before. covered.0 earlier)) (covered.0 phase),
        rest.covered,
      );
    }

-- a run leaves what it has no exclusive lock on
pub run-leaves : (programs : Programs) (statements : List Statement) (bound : ℕ) (database : Database) (held list : List Lock) → IsReady programs bound database
    → HasParents list → IsCovered programs statements database held → IsApart held list → Agrees programs.types list (database_after programs statements database) database
run-leaves programs [] bound database held list ready parents covered apart = λ name mode has. refl
run-leaves programs (statement ∷ statements) bound database held list ready parents covered apart = λ name mode has.
    run-leaves programs statements (bound + 1) (program_effect programs statement database) held list (left-ready programs bound statement database ready) parents
    covered.1 apart name mode has
    ∙ left-leaves programs bound statement database held list ready parents covered.0 apart name mode has

-- a run leaves a database valid, and moves the bound of identifiers by its length at most
pub run-ready : (programs : Programs) (statements : List Statement) (bound : ℕ) (database : Database) → IsReady programs bound database
    → IsReady programs (bound + length statements) (database_after programs statements database)
run-ready programs [] bound database ready =
    let e : bound ≡ bound + 0 = omega arith in subst (λ b. IsReady programs b database) e ready
run-ready programs (statement ∷ statements) bound database ready =
    let next : Database = program_effect programs statement database in
    let e : bound + 1 + length statements ≡ bound + length (statement ∷ statements) = omega arith in
    subst (λ b. IsReady programs b (database_after programs statements next)) e
    (run-ready programs statements (bound + 1) next (left-ready programs bound statement database ready))

pub run-valid : (programs : Programs) (statements : List Statement) (database : Database) → AreTypes programs.types → IsValidFor programs.types database
    → IsValidFor programs.types (database_after programs statements database)
run-valid programs [] database types_fit valid = valid
run-valid programs (statement ∷ statements) database types_fit valid =
    run-valid programs statements (program_effect programs statement database) types_fit (left-valid programs statement database types_fit valid)

-- runs one after another
pub replies-append : (programs : Programs) (front back : List Statement) (database : Database)
    → program_replies programs (front ++ back) database ≡ program_replies programs front database ++ program_replies programs back (database_after programs front database)
replies-append programs [] back database = refl
replies-append programs (statement ∷ front) back database =
    ap (λ others. program_reply programs statement database ∷ others) (replies-append programs front back (program_effect programs statement database))

pub after-append : (programs : Programs) (front back : List Statement) (database : Database)
    → database_after programs (front ++ back) database ≡ database_after programs back (database_after programs front database)
after-append programs [] back database = refl
after-append programs (statement ∷ front) back database = after-append programs front back (program_effect programs statement database)

pub covered-append : (programs : Programs) (front back : List Statement) (database : Database) (list : List Lock) → IsCovered programs front database list
    → IsCovered programs back (database_after programs front database) list → IsCovered programs (front ++ back) database list
covered-append programs [] back database list covered more = more
covered-append programs (statement ∷ front) back database list covered more =
    (covered.0, covered-append programs front back (program_effect programs statement database) list covered.1 more)

-- a run that is covered by a list is covered by one of more locks
pub covered-more : (programs : Programs) (statements : List Statement) (database : Database) (list more : List Lock) → Within list more
    → IsCovered programs statements database list → IsCovered programs statements database more
covered-more programs [] database list more within covered = tt
covered-more programs (statement ∷ statements) database list more within covered =
    (λ phase lock has. within lock (covered.0 phase lock has), covered-more programs statements (program_effect programs statement database) list more within covered.1)

-- a run is one of the machine of one thread
pub replies-machine : (programs : Programs) (statements : List Statement) (database : Database)
    → program_replies programs statements database ≡ (machine programs.types statements database).0
unfolding program_reply program_effect
replies-machine programs [] database = refl
replies-machine programs (statement ∷ statements) database =
    ap (λ others. program_reply programs statement database ∷ others) (replies-machine programs statements (program_effect programs statement database))

pub after-machine : (programs : Programs) (statements : List Statement) (database : Database) → database_after programs statements database ≡ (machine programs.types statements database).1
unfolding program_effect
after-machine programs [] database = refl
after-machine programs (statement ∷ statements) database = after-machine programs statements (program_effect programs statement database)
