-- What holdings show of a checked statement is a database, for which they stand.
use Rattle.std.proofs.Common.{◌≡◌, ℕ, ◌≤◌, false, List, Ok, ◌∙◌, subst}
use Rattle.ras_syntax.specs.declared.statement.Statement.{Statement}
use Rattle.ras_syntax.specs.declared.types.SetType.{SetType}
use Rattle.ras_syntax.specs.declared.typed.Checked.{Checked}
use Rattle.spec_expressions.specs.Database.{Database}
use Rattle.spec_shown.specs.Shown.{IsPartOf}
use Rattle.spec_shown.specs.Standing.{IsShown}
use Rattle.spec_statements.specs.Locks.{Lock}
use Rattle.spec_statements.specs.Machine.{checked_over, first_list, is_too_long}
use Rattle.spec_statements.specs.ReachLaw.{IsSetting}
use Rattle.spec_views.specs.Holdings.{Holdings, IsSeenBy, StandsFor, lists_before}
use Rattle.law_views.proofs.Seen.{before_parents, same_before}
use Rattle.law_shown.proofs.Databases.{check_same, database_over, shown_setting}
use Rattle.law_shown.proofs.Held.{shown_stands}
use Rattle.law_shown.proofs.Members.{shown_rows}

-- what holdings show is a database
pub shows_a_database : (types : List SetType) (statement : Statement) (holdings : Holdings) (one : Database) (checked : Checked) (phase : ℕ)
    → IsSetting types statement one → is_too_long (first_list statement) ≡ false → checked_over types statement one ≡ Ok checked
    → 2 ≤ phase → IsSeenBy types holdings statement phase one → IsPartOf types holdings one
    → (shown : Database) × IsShown types statement holdings checked phase shown
shows_a_database types statement holdings one checked phase setting short is later seen part =
    let shown : Database = database_over types holdings one in
    let list : List Lock = lists_before types statement phase one in
    let also : IsSetting types statement shown = shown_setting types holdings one statement setting part in
    let stands : StandsFor types holdings list shown =
    shown_stands types holdings one setting.valid setting.types_fit list (before_parents types statement one phase) seen.stands in (
      shown,
      record {
        setting = also;
        seen = record {
          valid = also.valid;
          stands = subst (λ l. StandsFor types holdings l shown) (same_before types statement holdings one shown setting phase seen also.valid stands) stands;
        };
        check = check_same types holdings one statement ∙ is;
        rows = shown_rows types holdings one statement checked phase short is later seen;
      },
    )
