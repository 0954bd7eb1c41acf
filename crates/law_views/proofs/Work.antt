-- A transaction's work: how it begins, and that a piece or a statement more keeps it.
use Rattle.std.proofs.Common.{◌≡◌, inl, inr, [], ◌∷◌, ◌++◌, List, refl, sym, ap, ◌∙◌, subst, arith}
use Rattle.std.proofs.lemmas.List.Elements.{Contains-append_cases}
use Rattle.ras_domain.specs.declared.lock.LockName.{LockName}
use Rattle.ras_syntax.specs.declared.statement.Statement.{Statement}
use Rattle.spec_expressions.specs.Database.{Database}
use Rattle.spec_expressions.specs.SetTypes.{AreTypes}
use Rattle.spec_statements.specs.Machine.{effect_of}
use Rattle.spec_statements.specs.ReachLaw.{AreNamedIn, IsSetting, Names}
use Rattle.spec_statements.specs.Validity.{IsValidFor}
use Rattle.spec_histories.specs.History.{Programs, database_after, program_effect}
use Rattle.law_histories.proofs.Runs.{after-append, run-valid}
use Rattle.spec_views.specs.Holdings.{Holdings, IsSeenBy, StandsFor, holding_at, lists_before}
use Rattle.spec_views.specs.Work.{IsWork, IsWorkOver, Rewrites, RewritesTo, TakenPiece, Work, taken_locks}
use Rattle.law_views.proofs.Seen.{same_before}
use Rattle.law_views.proofs.Standing.{stands-fewer}

-- nothing is taken and nothing done
pub work_starts : (programs : Programs) (view : Holdings) → IsWork programs [] (record { pieces = []; rewrites = λ name held. held; view = view })
work_starts programs view database valid stand = record {
  rewrites = λ name. refl;
  stands = λ name named. absurd (omega (arith, named.1.1));
}

-- one piece more: what it holds is seen as the work has rewritten it
pub work_takes : (programs : Programs) (statements : List Statement) (work : Work) (piece : TakenPiece) (view : Holdings) → IsWork programs statements work
    → ((name : LockName) → Names (taken_locks work.pieces) name → view name ≡ work.view name)
    → ((name : LockName) → Names piece.list name → view name ≡ work.rewrites name (piece.holdings name))
    → IsWork programs statements (record { pieces = piece ∷ work.pieces; rewrites = work.rewrites; view = view })
work_takes programs statements work piece view is old new database valid stand = record {
  rewrites = over.rewrites;
  stands = λ name named. elim (Contains-append_cases piece.list (taken_locks work.pieces) (name, named.0) named.1) [
    | inl here ↦ new name (named.0, here) ∙ ap (work.rewrites name) (stand.0 name (named.0, here)) ∙ sym (over.rewrites name)
    | inr there ↦ old name (named.0, there) ∙ over.stands name (named.0, there)
  ];
}
  where
    over : IsWorkOver programs statements work database
    over = is database valid stand.1

-- one statement more, whose locks were all taken: it rewrites what the view has
pub work_applies : (programs : Programs) (statements : List Statement) (work : Work) (statement : Statement) (more : Rewrites) (one : Database)
    → AreTypes programs.types → IsWork programs statements work → IsSetting programs.types statement one → IsSeenBy programs.types work.view statement 5 one
    → AreNamedIn (lists_before programs.types statement 5 one) (taken_locks work.pieces)
    → ((database : Database) → IsSeenBy programs.types work.view statement 5 database
    → RewritesTo programs.types more database (effect_of programs.types statement database))
    → IsWork programs (statements ++ statement ∷ [])
    (record { pieces = work.pieces; rewrites = λ name held. more name (work.rewrites name held); view = λ name. more name (work.view name) })
unfolding program_effect
work_applies programs statements work statement more one types_fit is setting seen covered changes database valid stand = record {
  rewrites = λ name. ap (holding_at programs.types name) last ∙ next name ∙ ap (more name) (over.rewrites name);
  stands = λ name named. ap (more name) (over.stands name named) ∙ sym (next name) ∙ sym (ap (holding_at programs.types name) last);
}
  where
    over : IsWorkOver programs statements work database
    over = is database valid stand

    before : Database
    before = database_after programs statements database

    last : database_after programs (statements ++ statement ∷ []) database ≡ effect_of programs.types statement before
    last = after-append programs statements (statement ∷ []) database

    valid_before : IsValidFor programs.types before
    valid_before = run-valid programs statements database types_fit valid

    stands_there : StandsFor programs.types work.view (lists_before programs.types statement 5 one) before
    stands_there = stands-fewer programs.types work.view (lists_before programs.types statement 5 one) (taken_locks work.pieces) before covered over.stands

    seen_there : IsSeenBy programs.types work.view statement 5 before
    seen_there = record {
      valid = valid_before;
      stands = subst (λ list. StandsFor programs.types work.view list before)
          (same_before programs.types statement work.view one before setting 5 seen valid_before stands_there) stands_there;
    }

    next : RewritesTo programs.types more before (effect_of programs.types statement before)
    next = changes before seen_there

-- a statement that leaves each such database as it is: a select, or one with a fault
pub work_skips : (programs : Programs) (statements : List Statement) (work : Work) (statement : Statement) (one : Database)
    → AreTypes programs.types → IsWork programs statements work → IsSetting programs.types statement one → IsSeenBy programs.types work.view statement 5 one
    → AreNamedIn (lists_before programs.types statement 5 one) (taken_locks work.pieces)
    → ((database : Database) → IsSeenBy programs.types work.view statement 5 database → effect_of programs.types statement database ≡ database)
    → IsWork programs (statements ++ statement ∷ []) work
work_skips programs statements work statement one types_fit is setting seen covered none =
    work_applies programs statements work statement (λ name held. held) one types_fit is setting seen covered
    (λ database sees name. ap (holding_at programs.types name) (none database sees))
