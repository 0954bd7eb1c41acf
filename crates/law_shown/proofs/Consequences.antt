-- What the definitions give over the database that holdings show, they give over each for which the holdings stand.
use Rattle.std.proofs.Common.{◌≡◌, ℕ, ◌<◌, ◌≤◌, false, if◌then◌else◌, List, [], Ok, sym, ◌∙◌, subst, arith}
use Rattle.ras_syntax.specs.declared.faults.ShapeFault.TheVariants.{TooManyLocks}
use Rattle.ras_syntax.specs.declared.statement.Statement.{Statement}
use Rattle.ras_syntax.specs.declared.types.SetType.{SetType}
use Rattle.ras_syntax.specs.declared.typed.Checked.{Checked}
use Rattle.spec_expressions.specs.Database.{Database}
use Rattle.spec_shown.specs.Standing.{IsShown}
use Rattle.spec_statements.specs.Effects.{reply_of_checked}
use Rattle.spec_statements.specs.Locks.{Lock}
use Rattle.spec_statements.specs.Machine.{checked_over, first_list, is_too_long, needs_of, reply_after_check, reply_of}
use Rattle.spec_statements.specs.Phases.{needs_2, needs_3, needs_4}
use Rattle.spec_statements.specs.ReachLaw.{AreNamedIn}
use Rattle.spec_statements.specs.Reply.{misfit}
use Rattle.spec_statements.specs.Statement.{StatementTree, statement_tree_of}
use Rattle.spec_views.specs.Holdings.{Holdings, IsSeenBy, lists_before, passing_by}
use Rattle.spec_views.specs.Writings.{written_by}
use Rattle.law_effects.proofs.Phases.{first_is, later_is}
use Rattle.law_locks.proofs.Collections.{checked_same}
use Rattle.law_views.proofs.Seen.{earlier_listed, seen_agree, seen_answers, seen_early, seen_needs, seen_passing}
use Rattle.law_views.proofs.Writings.{seen_writes}

module _ (types : List SetType) (statement : Statement) (holdings : Holdings) (checked : Checked) where
  abbrev tree : StatementTree
  tree = statement_tree_of checked

  pub same_needs : (phase : ℕ) (shown other : Database) → IsShown types statement holdings checked phase shown → IsSeenBy types holdings statement phase other
      → needs_of types statement phase other ≡ needs_of types statement phase shown
  same_needs phase shown other is seen = sym (seen_needs types statement holdings shown other is.setting phase is.seen seen)

  module _ (shown other : Database) (short : is_too_long (first_list statement) ≡ false) where
    pub same_second : IsShown types statement holdings checked 2 shown → IsSeenBy types holdings statement 2 other → needs_of types statement 2 other ≡ needs_2 tree shown
    same_second is seen = same_needs 2 shown other is seen ∙ later_is needs_2 types statement shown checked short is.check

    pub same_third : IsShown types statement holdings checked 3 shown → IsSeenBy types holdings statement 3 other → needs_of types statement 3 other ≡ needs_3 tree shown
    same_third is seen = same_needs 3 shown other is seen ∙ later_is needs_3 types statement shown checked short is.check

    pub same_fourth : IsShown types statement holdings checked 4 shown → IsSeenBy types holdings statement 4 other → needs_of types statement 4 other ≡ needs_4 tree shown
    same_fourth is seen = same_needs 4 shown other is seen ∙ later_is needs_4 types statement shown checked short is.check

    pub same_passing : IsShown types statement holdings checked 4 shown → IsSeenBy types holdings statement 4 other → passing_by tree other ≡ passing_by tree shown
    same_passing is seen = sym (seen_passing types statement holdings shown other is.setting checked short is.check is.seen seen)

    pub same_writings : IsShown types statement holdings checked 5 shown → IsSeenBy types holdings statement 5 other → written_by tree other ≡ written_by tree shown
    same_writings is seen = sym (seen_writes types statement holdings shown other is.setting checked short is.check is.seen seen)

    pub same_check : (phase : ℕ) → 2 ≤ phase → IsShown types statement holdings checked phase shown → IsSeenBy types holdings statement phase other
        → checked_over types statement other ≡ Ok checked
    same_check phase later is seen =
        let list : List Lock = lists_before types statement phase shown in
        let covers : AreNamedIn (first_list statement) list =
        subst (λ l. AreNamedIn l list) (first_is types statement shown short) (earlier_listed types statement shown 1 phase (omega (arith, later))) in
        sym (checked_same types statement list shown other (seen_agree types statement holdings shown other is.setting phase is.seen seen) covers) ∙ is.check

    -- the reply is that of the checked statement
    reply_is : checked_over types statement shown ≡ Ok checked → reply_of types statement shown ≡ reply_of_checked tree shown
    reply_is is = λ i. if short i then misfit 0 (record { from = 0; to = statement.length }) TooManyLocks else reply_after_check (is i) shown

    pub same_answers : IsShown types statement holdings checked 5 shown → IsSeenBy types holdings statement 5 other → reply_of types statement other ≡ reply_of_checked tree shown
    same_answers is seen = sym (seen_answers types statement holdings shown other is.setting is.seen seen).0 ∙ reply_is is.check

    pub same_early : (phase : ℕ) → IsShown types statement holdings checked phase shown → IsSeenBy types holdings statement phase other
        → ((later : ℕ) → phase ≤ later → later < 5 → needs_of types statement later shown ≡ []) → reply_of types statement other ≡ reply_of_checked tree shown
    same_early phase is seen nothing = sym (seen_early types statement holdings shown other is.setting phase is.seen seen nothing) ∙ reply_is is.check
