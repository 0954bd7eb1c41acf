-- A small history, worked out by hand: one transaction creates a collection and commits, another one creates another name
-- before that and lives on, and a third one is aborted.
use Rattle.std.specs.Prelude.{List, [], ◌∷◌, Some, None, codes}
use Rattle.ras_domain.specs.declared.lock.LockName.TheVariants as locks
use Rattle.ras_domain.specs.declared.lock.Mode.TheVariants.{Exclusive}
use Rattle.ras_syntax.specs.declared.answer.Answer.TheVariants.{Done}
use Rattle.ras_syntax.specs.declared.statement.Statement.{Statement}
use Rattle.ras_syntax.specs.declared.statement.StatementForm.TheVariants.{Create, Word}
use Rattle.ras_syntax.specs.declared.statement.Word.TheVariants.{Begin}
use Rattle.spec_statements.specs.WorkedChecks.{H_, letter, word}
use Rattle.spec_statements.specs.Locks.{Lock}
use Rattle.spec_statements.specs.WorkedStatements.{statement_as_written, base_database as base_of_G, create_H, declared, drop_H}
use Rattle.ras_syntax.specs.declared.event.Event.TheVariants.{Begun, Granted, Answered, GaveUp, Committed, Aborted}
use Rattle.spec_histories.specs.History.{History, Programs}

abbrev pub begin_word : Statement
begin_word = statement_as_written (Word (Begin 0))

-- session 1: begin; create H; drop H. Session 2: create K, and a text that is no statement. Session 3: drop H
abbrev pub create_K : Statement
create_K = statement_as_written (Create (letter 18 (codes "K")) (word 20 27 (codes "GreySet")))

abbrev pub programs : Programs
programs = record {
  types = declared;
  base = base_of_G;
  scripts = (Some begin_word ∷ Some create_H ∷ Some drop_H ∷ []) ∷ (Some create_K ∷ None ∷ []) ∷ (Some drop_H ∷ []) ∷ [];
}

abbrev pub on_H : List Lock
on_H = (locks.Collection H_, Exclusive) ∷ []

abbrev pub on_K : List Lock
on_K = (locks.Collection (codes "K"), Exclusive) ∷ []

-- transactions 1 and 2 begin and are granted their locks, 1 is answered; the newest event first
abbrev pub under_way : History
under_way = Answered 1 2 (Done 0) ∷ Granted 2 1 1 on_K ∷ Granted 1 2 1 on_H ∷ Begun 2 2 1 ∷ Begun 1 1 1 ∷ []

-- then 1 commits, 2 is answered, and 3 begins, is refused nothing and gives up
abbrev pub committed_once : History
committed_once = Aborted 3 ∷ GaveUp 3 1 ∷ Begun 3 3 1 ∷ Answered 2 1 (Done 0) ∷ Committed 1 1 ∷ under_way
