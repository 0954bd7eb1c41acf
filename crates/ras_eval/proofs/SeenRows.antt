-- What is computed over a view holds of each database for which it stands.
use Rattle.std.proofs.Common.{◌≡◌, ℕ, suc, ◌≤◌, Bool, true, false, List, [], ◌∷◌, map, Result, Ok, Err, refl, sym, ap, ◌∙◌, subst, arith}
use Rattle.std.specs.Prelude.{length, nat_lt, if◌then◌else◌}
use Rattle.ras_cells.specs.Outcomes.{◌>>=◌}
use Rattle.ras_eval.specs.Passing.{passing_over}
use Rattle.ras_eval.specs.Seen.{IsSeenOne, too_many_locks}
use Rattle.ras_eval.proofs.ShownRows.{passing_shown}
use Rattle.ras_syntax.specs.declared.statement.Statement.{Statement}
use Rattle.ras_syntax.specs.declared.types.SetType.{SetType}
use Rattle.ras_syntax.specs.declared.typed.Checked.{Checked}
use Rattle.spec_expressions.specs.Database.{Database}
use Rattle.spec_shown.specs.Shown.{rows_shown}
use Rattle.spec_statements.specs.Statement.{StatementTree, request_of, statement_tree_of}
use Rattle.spec_views.specs.Holdings.{Holdings, IsSeenBy, passing_by}
use Rattle.law_shown.proofs.Consequences.{same_passing}
use Rattle.law_shown.proofs.Shows.{shows_a_database}

module _ (types : List SetType) (statement : Statement) (holdings : Holdings) (checked : Checked) (one other : Database) where
  abbrev tree : StatementTree
  tree = statement_tree_of checked

  pub passing_seen : IsSeenOne types statement holdings checked 4 one → (passing_by tree one ≡ Err (too_many_locks tree) → ⊥) → IsSeenBy types holdings statement 4 other
      → passing_by tree other ≡ passing_over tree (rows_shown (request_of checked.form) holdings)
  passing_seen given short seen =
      let (shown, is) = shows_a_database types statement holdings one checked 4 given.setting given.short given.check (omega arith) given.seen given.part in
      same_passing types statement holdings checked shown other given.short is seen
      ∙ passing_shown tree holdings shown is.rows (λ e. short (same_passing types statement holdings checked shown one given.short is given.seen ∙ e))
