-- A statement on its way: from one list that it asks for to the next, and to its end.
use Rattle.std.proofs.Common.{◌≡◌, ◌⊎◌, inl, inr, ℕ, suc, ◌<◌, ◌≤◌, List, [], ◌++◌, Option, Some, None, Ok, Err, sym, ap, subst, ◌∙◌, arith}
use Rattle.std.specs.Option.{option_map}
use Rattle.law_views.proofs.Seen.{earlier_listed, listed_before}
use Rattle.ras_course.specs.Courses.{IsAnswerOf, IsAskedFor, IsComeTo, IsWritten}
use Rattle.ras_course.proofs.Known.{come_at_first}
use Rattle.ras_course.specs.declared.course.Course.{Course}
use Rattle.ras_domain.specs.declared.lock.LockName.{LockName}
use Rattle.ras_setup.specs.OnTheWay.{IsOnTheWay}
use Rattle.ras_setup.specs.Runs.{AnswersBy, IsChangedBy, Takes}
use Rattle.ras_setup.specs.declared.fault.Stop.{Stop}
use Rattle.ras_setup.proofs.Taken.{names_or_not}
use Rattle.ras_store.specs.Databases.{Keeps, holding_kept, holdings_of, rewrites_of}
use Rattle.ras_store.specs.Kept.{Kept}
use Rattle.ras_store.specs.declared.change.Change.{Change}
use Rattle.ras_store.specs.declared.write.Computed.{Computed}
use Rattle.ras_syntax.specs.declared.answer.Answer.{Answer}
use Rattle.ras_syntax.specs.declared.statement.Statement.{Statement}
use Rattle.ras_syntax.specs.declared.types.SetType.{SetType}
use Rattle.ras_syntax.specs.declared.typed.Checked.{Checked}
use Rattle.ras_work.specs.Works.{IsApplied, work_changes, work_kept}
use Rattle.ras_work.specs.declared.work.Work.{Work}
use Rattle.spec_expressions.specs.Database.{Database}
use Rattle.spec_shown.specs.Shown.{IsPartOf}
use Rattle.spec_statements.specs.Locks.{Lock}
use Rattle.spec_statements.specs.Machine.{effect_of, needs_of}
use Rattle.spec_statements.specs.ReachLaw.{IsSetting, Names}
use Rattle.spec_statements.specs.Reply.{reply_of_answer}
use Rattle.law_work.specs.Writes.{writes_in, writings_of}
use Rattle.spec_statements.specs.Statement.{statement_tree_of}
use Rattle.spec_views.specs.Work.{RewritesTo}
use Rattle.spec_views.specs.Writings.{written_by}
use Rattle.spec_views.specs.Holdings.{IsSeenBy, holding_at}
use Rattle.spec_workloads.specs.Setup.{if_done}
use Rattle.std.proofs.lemmas.Bool.{cases_lt}
use Rattle.std.specs.Prelude.{Result}

-- ---- the beginning

-- what is kept, as it is held
held-as : (one other : Option Kept) → one ≡ other → option_map holding_kept one ≡ option_map holding_kept other
held-as one other is = ap (option_map holding_kept) is

pub way-begins : (types : List SetType) (statement : Statement) (kept : LockName → Option Kept) (course : Course) (work : Work)
    → course ≡ record { next = 1; checked = None; rows = None } → work_changes work ≡ [] → ((name : LockName) → work_kept work name ≡ None)
    → IsOnTheWay types statement kept course work
way-begins types statement kept course work begins fresh none = record {
  fresh = fresh;
  part = λ name. inl (none name);
  come = λ database setting keeps. subst (λ c. IsComeTo types statement (holdings_of (work_kept work)) c database) (sym begins)
      (come_at_first types statement (holdings_of (work_kept work)) database setting (λ name. inl (held-as (work_kept work name) None (none name))));
}

-- ---- a list

module _ (types : List SetType) (statement : Statement) (kept : LockName → Option Kept) (list : List Lock) (old new : LockName → Option Kept) (taken : Takes kept list old new)
    (part : (name : LockName) → (old name ≡ None) ⊎ (old name ≡ kept name)) where
  part-stays : (name : LockName) → (new name ≡ None) ⊎ (new name ≡ kept name)
  part-stays name = at (names_or_not list name) (part name)
    where
      at : Names list name ⊎ (Names list name → ⊥) → (old name ≡ None) ⊎ (old name ≡ kept name) → (new name ≡ None) ⊎ (new name ≡ kept name)
      at (inl names) part = inr (taken.held name names part)
      at (inr not) (inl none) = inl (taken.others name not ∙ none)
      at (inr not) (inr was) = inr (taken.others name not ∙ was)

  module _ (database : Database) (keeps : Keeps types kept database) where
    part-is : IsPartOf types (holdings_of new) database
    part-is name = at (part-stays name)
      where
        at : (new name ≡ None) ⊎ (new name ≡ kept name) → (holdings_of new name ≡ None) ⊎ (holdings_of new name ≡ holding_at types name database)
        at (inl none) = inl (held-as (new name) None none)
        at (inr is) = inr (held-as (new name) (kept name) is ∙ keeps name)

    -- what stood stands
    stands-on : (name : LockName) → holdings_of old name ≡ holding_at types name database → holdings_of new name ≡ holding_at types name database
    stands-on name stood = at (names_or_not list name)
      where
        at : Names list name ⊎ (Names list name → ⊥) → holdings_of new name ≡ holding_at types name database
        at (inl names) = held-as (new name) (kept name) (taken.held name names (part name)) ∙ keeps name
        at (inr not) = held-as (new name) (old name) (taken.others name not) ∙ stood

    module _ (from phase : ℕ) (seen : IsSeenBy types (holdings_of old) statement from database) (behind : from ≤ phase)
        (passed : (q : ℕ) → from ≤ q → q < phase → needs_of types statement q database ≡ []) (is : list ≡ needs_of types statement phase database) where
      stands-in : (name : LockName) (earlier : ℕ) → earlier < suc phase → Names (needs_of types statement earlier database) name
          → holdings_of new name ≡ holding_at types name database
      stands-in name earlier before names = at (cases_lt earlier from) (cases_lt earlier phase)
        where
          at : (earlier < from) ⊎ (from ≤ earlier) → (earlier < phase) ⊎ (phase ≤ earlier) → holdings_of new name ≡ holding_at types name database
          at (inl early) which = stands-on name (seen.stands name (earlier_listed types statement database earlier from early name names))
          at (inr late) (inl within) = let none : Names [] name = subst (λ l. Names l name) (passed earlier late within) names in absurd (omega (arith, none.1.1))
          at (inr late) (inr here) =
              let same : earlier ≡ phase = omega (arith, here, before) in
              let here : Names list name = subst (λ l. Names l name) (ap (λ q. needs_of types statement q database) same ∙ sym is) names in
              held-as (new name) (kept name) (taken.held name here (part name)) ∙ keeps name

      seen-on : IsSeenBy types (holdings_of new) statement (suc phase) database
      seen-on = record {
        valid = seen.valid;
        stands = λ name named. let found = listed_before types statement database (suc phase) name named in stands-in name found.0 found.1 found.2;
      }

pub way-goes-on : (types : List SetType) (statement : Statement) (kept : LockName → Option Kept) (old_course new_course : Course) (old new : Work) (phase : ℕ) (list : List Lock)
    → IsOnTheWay types statement kept old_course old
    → ((database : Database) → IsComeTo types statement (holdings_of (work_kept old)) old_course database
    → IsAskedFor types statement database old_course new_course phase list)
    → Takes kept list (work_kept old) (work_kept new) → work_changes new ≡ []
    → IsOnTheWay types statement kept new_course new
way-goes-on types statement kept old_course new_course old new phase list way asked taken fresh = record {
  fresh = fresh;
  part = part-stays types statement kept list (work_kept old) (work_kept new) taken way.part;
  come = λ database setting keeps.
      let come : IsComeTo types statement (holdings_of (work_kept old)) old_course database = way.come database setting keeps in
      let is : IsAskedFor types statement database old_course new_course phase list = asked database come in
      record {
        setting = setting;
        seen = subst (λ q. IsSeenBy types (holdings_of (work_kept new)) statement q database) (sym is.next)
            (seen-on types statement kept list (work_kept old) (work_kept new) taken way.part database keeps old_course.next phase come.seen is.behind is.passed is.list_is);
        part = part-is types statement kept list (work_kept old) (work_kept new) taken way.part database keeps;
        known = is.known;
      };
}

-- ---- the end

module _ (types : List SetType) (statement : Statement) (database : Database) where
  pub answered : (old : Course) (answer : Answer) (result : Result (List Change) Stop) → IsAnswerOf types statement database old answer
      → AnswersBy (reply_of_answer answer) result → IsChangedBy types statement database result
  answered old answer (Ok changes) is by = (
    subst (λ cs. (name : LockName) → holding_at types name (effect_of types statement database) ≡ rewrites_of cs name (holding_at types name database)) (sym by.0)
        (λ name. ap (holding_at types name) is.effect),
    λ k. ap (λ reply. if_done k reply (effect_of types statement database)) (sym is.reply) ∙ by.1 k (effect_of types statement database),
  )
  answered old answer (Err stop) is by =
      λ k fault seen. ap (λ reply. if_done k reply (effect_of types statement database)) (sym is.reply) ∙ by (effect_of types statement database) k fault seen

  pub applied : (old_course new_course : Course) (computed : Computed) (checked : Checked) (number : ℕ) (old new : Work) → IsSetting types statement database
      → work_changes old ≡ [] → IsWritten types statement (holdings_of (work_kept old)) database old_course new_course computed
      → Some checked ≡ new_course.checked → IsApplied checked computed number old new → IsChangedBy types statement database (Ok (work_changes new))
  applied old_course new_course computed checked number old new setting fresh written is made =
      let same : written.checked ≡ checked = (let e : Some written.checked ≡ Some checked = sym written.kept ∙ sym is in cc) in
      let effect = made.effect types statement database setting.types_fit written.short (written.check ∙ ap Ok same)
      written.seen (subst (λ c. written_by (statement_tree_of c) database ≡ Ok (writings_of (statement_tree_of c).request (writes_in computed))) same written.written) in
      let changes : work_changes new ≡ made.more = made.changed.changes ∙ ap (λ cs. cs ++ made.more) fresh in (
        subst (λ cs. RewritesTo types (rewrites_of cs) database (effect_of types statement database)) (sym changes) effect.0,
        λ k. ap (λ reply. if_done k reply (effect_of types statement database)) effect.1,
      )
