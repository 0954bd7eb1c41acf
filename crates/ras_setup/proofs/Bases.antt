-- The database that a setup has left so far: one statement more.
use Rattle.std.proofs.Common.{◌≡◌, ℕ, suc, ◌+◌, ◌<◌, ◌≤◌, true, false, List, [], ◌∷◌, length, get_or, drop, Option, Some, None, Ok, Err, refl, sym, ap, subst, ◌∙◌, arith}
use Rattle.std.proofs.lemmas.List.{drop_all, drop_more}
use Rattle.std.specs.List.Sorted.{IsStrictlySortedBy}
use Rattle.std.specs.Option.{option_map}
use Rattle.law_effects.proofs.Identifiers.{left_by-up_to}
use Rattle.law_effects.proofs.Valid.{left_by-valid}
use Rattle.law_grammar.specs.VerdictOf.{verdict_of}
use Rattle.law_histories.proofs.Statements.{IsReady, setting_of}
use Rattle.ras_domain.specs.declared.lock.LockName.{LockName}
use Rattle.ras_domain.specs.declared.lock.LockName.TheVariants.{Collection, Domain, Tile}
use Rattle.law_grammar.proofs.EachVerdict.{is_verdict_of}
use Rattle.ras_parse.specs.Told.{IsToldFault}
use Rattle.ras_parse.specs.declared.fault.ParseFault.{ParseFault}
use Rattle.ras_parse.specs.declared.fault.ParseFault.TheVariants as parse_faults
use Rattle.ras_setup.specs.Found.{setup_fault_seen}
use Rattle.ras_setup.specs.Runs.{IsBase, IsChangedBy, IsRunTo, IsStatementOf, IsWantedFailure, IsWantedStop, is_word, refusal_of, stop_of_parse, stop_seen}
use Rattle.ras_setup.specs.declared.fault.Stop.{Stop}
use Rattle.ras_setup.specs.declared.fault.Stop.TheVariants.{Fault, Memory}
use Rattle.ras_setup.proofs.Texts.{goes-on, stops}
use Rattle.ras_store.specs.Databases.{Keeps, holding_kept}
use Rattle.ras_store.specs.Kept.{Kept, changed_by_all}
use Rattle.ras_store.specs.declared.change.Change.{Change}
use Rattle.ras_store.proofs.KeptDatabases.{changes-rewrite}
use Rattle.ras_syntax.specs.declared.faults.SyntaxFault.{SyntaxFault}
use Rattle.ras_syntax.specs.declared.limits.TheConstants.{MAX_IDENTIFIER}
use Rattle.ras_syntax.specs.declared.statement.Statement.{Statement}
use Rattle.ras_syntax.specs.declared.statement.StatementForm.{StatementForm}
use Rattle.ras_syntax.specs.declared.statement.StatementForm.TheVariants as forms
use Rattle.ras_syntax.specs.declared.types.SetType.{SetType}
use Rattle.spec_expressions.specs.Database.{Database}
use Rattle.spec_expressions.specs.SetTypes.{AreTypes}
use Rattle.spec_grammar.specs.Tokens.{Text}
use Rattle.spec_histories.specs.History.{Programs}
use Rattle.spec_statements.specs.Machine.{effect_of, reply_of}
use Rattle.spec_statements.specs.ReachLaw.{IsSetting}
use Rattle.spec_views.specs.Holdings.{holding_at}
use Rattle.spec_workloads.specs.Setup.{SetupFault, SetupOutcome, after_form, after_verdict, if_done, set_up, setup_failed}

-- ---- one statement

form-runs : (types : List SetType) (k : ℕ) (statement : Statement) (form : StatementForm) (database : Database) → is_word form ≡ false
    → after_form types k statement form database ≡ if_done k (reply_of types statement database) (effect_of types statement database)
form-runs types k statement (forms.Word word) database no_word = absurd cc
form-runs types k statement (forms.Select body sources cond) database no_word = refl
form-runs types k statement (forms.Insert into body) database no_word = refl
form-runs types k statement (forms.Delete source cond) database no_word = refl
form-runs types k statement (forms.Update source set axes target body cond) database no_word = refl
form-runs types k statement (forms.Create name of) database no_word = refl
form-runs types k statement (forms.Drop name) database no_word = refl

pub word-stops : (types : List SetType) (k : ℕ) (statement : Statement) (form : StatementForm) (database : Database) → is_word form ≡ true
    → after_form types k statement form database ≡ Err (k, SetupFault.a_word)
word-stops types k statement (forms.Word word) database is = refl
word-stops types k statement (forms.Select body sources cond) database is = absurd cc
word-stops types k statement (forms.Insert into body) database is = absurd cc
word-stops types k statement (forms.Delete source cond) database is = absurd cc
word-stops types k statement (forms.Update source set axes target body cond) database is = absurd cc
word-stops types k statement (forms.Create name of) database is = absurd cc
word-stops types k statement (forms.Drop name) database is = absurd cc

-- a text that can't be run has its fault
pub word-wanted : (types : List SetType) (k : ℕ) (text : Text) (statement : Statement) (database : Database) (fault : SetupFault)
    → verdict_of text ≡ Ok statement → is_word statement.form ≡ true → Some SetupFault.a_word ≡ Some fault
    → after_verdict types k (verdict_of text) database ≡ Err (k, fault)
word-wanted types k text statement database fault verdict word seen =
    let same : SetupFault.a_word ≡ fault = cc in
    ap (λ verdict. after_verdict types k verdict database) verdict ∙ word-stops types k statement statement.form database word
    ∙ ap (λ f. let r : SetupOutcome = Err (k, f) in r) same

unread-wanted : (types : List SetType) (k : ℕ) (text : Text) (found : SyntaxFault) (database : Database) (fault : SetupFault)
    → verdict_of text ≡ Err found → Some (SetupFault.unread found) ≡ Some fault → after_verdict types k (verdict_of text) database ≡ Err (k, fault)
unread-wanted types k text found database fault verdict seen =
    let same : SetupFault.unread found ≡ fault = cc in
    ap (λ verdict. after_verdict types k verdict database) verdict ∙ ap (λ f. let r : SetupOutcome = Err (k, f) in r) same

pub told-wanted : (types : List SetType) (k : ℕ) (text : Text) (found : ParseFault) (database : Database) (fault : SetupFault) → IsToldFault text found
    → stop_seen (stop_of_parse found) ≡ Some fault → after_verdict types k (verdict_of text) database ≡ Err (k, fault)
told-wanted types k text (parse_faults.Fault found) database fault told seen =
    unread-wanted types k text found database fault (is_verdict_of text (Err found) told) seen
told-wanted types k text parse_faults.Memory database fault told seen = absurd cc

module _ (types : List SetType) (text : Text) (statement : Statement) (read : IsStatementOf text statement) (bound : ℕ) (database : Database) where
  text-runs : (k : ℕ) → after_verdict types k (verdict_of text) database ≡ if_done k (reply_of types statement database) (effect_of types statement database)
  text-runs k = ap (λ verdict. after_verdict types k verdict database) read.verdict ∙ form-runs types k statement statement.form database read.no_word

  -- what the laws speak of
  pub setting-here : (kept : LockName → Option Kept) → IsBase types bound kept database → bound ≤ MAX_IDENTIFIER → IsSetting types statement database
  setting-here kept is small = setting_of programs bound statement database ready small read.numbers_fit
    where
      programs : Programs
      programs = record { types = types; base = []; scripts = [] }

      ready : IsReady programs bound database
      ready = record { types_fit = is.types_fit; valid = is.valid; identifiers = is.identifiers }

  pub run-stops : (stop : Stop) → IsChangedBy types statement database (Err stop) → IsWantedStop (λ k. after_verdict types k (verdict_of text) database) stop
  run-stops stop is k fault seen = text-runs k ∙ is k fault seen

  -- and the changes that were made of it
  pub run-to : (kept new : LockName → Option Kept) (changes : List Change) → IsBase types bound kept database
      → IsChangedBy types statement database (Ok changes) → ((name : LockName) → new name ≡ changed_by_all changes name (kept name))
      → IsRunTo types (bound + 1) (λ k. after_verdict types k (verdict_of text) database) new
  run-to kept new changes is changed made = record {
    next = effect_of types statement database;
    same = λ k. text-runs k ∙ changed.1 k;
    is = record {
      types_fit = is.types_fit;
      valid = left_by-valid types statement database is.types_fit is.valid;
      identifiers = left_by-up_to types statement database bound is.identifiers;
      keeps = λ name. ap (option_map holding_kept) (made name)
          ∙ changes-rewrite types changes kept database (effect_of types statement database) is.keeps changed.0 name;
    };
  }

-- ---- all so far

-- so many statements were run, and this database is kept
pub record IsSetUpSoFar (types : List SetType) (texts : List Text) (ran : ℕ) (kept : LockName → Option Kept) : Type 0 where
  pub database : Database
  pub rest : set_up types 1 texts [] ≡ set_up types (1 + ran) (drop ran texts) database
  pub is : IsBase types (1 + ran) kept database

nothing-held : (types : List SetType) (name : LockName) → holding_at types name [] ≡ None
nothing-held types (Collection n) = refl
nothing-held types (Domain n oid) = refl
nothing-held types (Tile n oid place) = refl

pub so-far-begins : (types : List SetType) (texts : List Text) (kept : LockName → Option Kept) → AreTypes types → ((name : LockName) → kept name ≡ None)
    → IsSetUpSoFar types texts 0 kept
unfolding IsStrictlySortedBy
so-far-begins types texts kept fit none = record {
  database = [];
  rest = refl;
  is = record {
    types_fit = fit;
    valid = record { ordered = tt; collections = λ k d within. absurd (omega arith) };
    identifiers = λ k d within. absurd (omega arith);
    keeps = λ name. ap (option_map holding_kept) (none name) ∙ sym (nothing-held types name);
  };
}

module _ (types : List SetType) (texts : List Text) (ran : ℕ) (text : Text) (kept : LockName → Option Kept) (within : ran < length texts)
    (default : Text) (there : get_or texts ran default ≡ text) (so_far : IsSetUpSoFar types texts ran kept) where
  next-text : drop ran texts ≡ text ∷ drop (ran + 1) texts
  next-text = drop_more texts ran default within ∙ ap (λ t. t ∷ drop (ran + 1) texts) there

  rest-is : set_up types 1 texts [] ≡ set_up types (1 + ran) (text ∷ drop (ran + 1) texts) so_far.database
  rest-is = so_far.rest ∙ ap (λ ts. set_up types (1 + ran) ts so_far.database) next-text

  pub so-far-on : (new : LockName → Option Kept) → IsRunTo types (1 + ran + 1) (λ k. after_verdict types k (verdict_of text) so_far.database) new
      → IsSetUpSoFar types texts (ran + 1) new
  so-far-on new run = record {
    database = run.next;
    rest = rest-is ∙ goes-on types (1 + ran) text (drop (ran + 1) texts) so_far.database run.next (run.same (1 + ran))
        ∙ ap (λ k. set_up types k (drop (ran + 1) texts) run.next) (let e : suc (1 + ran) ≡ 1 + (ran + 1) = omega arith in e);
    is = subst (λ b. IsBase types b new run.next) (let e : 1 + ran + 1 ≡ 1 + (ran + 1) = omega arith in e) run.is;
  }

  -- the setup fails at this one
  pub so-far-stops : (stop : Stop) (fault : SetupFault) → IsWantedStop (λ k. after_verdict types k (verdict_of text) so_far.database) stop → stop_seen stop ≡ Some fault
      → set_up types 1 texts [] ≡ Err (ran + 1, fault)
  so-far-stops stop fault wanted seen =
      rest-is ∙ stops types (1 + ran) text (drop (ran + 1) texts) so_far.database fault (wanted (1 + ran) fault seen)
      ∙ ap (λ k. let r : SetupOutcome = Err (k, fault) in r) (let e : 1 + ran ≡ ran + 1 = omega arith in e)

  -- so this is what is refused
  pub so-far-fails : (stop : Stop) → IsWantedStop (λ k. after_verdict types k (verdict_of text) so_far.database) stop
      → IsWantedFailure (set_up types 1 texts []) (refusal_of (ran + 1) stop)
  so-far-fails (Fault why) wanted fault seen = (
    (ran + 1, setup_fault_seen why),
    so-far-stops (Fault why) (setup_fault_seen why) wanted refl,
    let same : Some (setup_failed (ran + 1) (setup_fault_seen why)) ≡ Some fault = seen in cc,
  )
  so-far-fails Memory wanted fault seen = absurd cc

pub so-far-ends : (types : List SetType) (texts : List Text) (ran : ℕ) (kept : LockName → Option Kept) → length texts ≤ ran → (so_far : IsSetUpSoFar types texts ran kept)
    → (base : Database) × (set_up types 1 texts [] ≡ Ok base) × Keeps types kept base
so-far-ends types texts ran kept past so_far =
    (so_far.database, so_far.rest ∙ ap (λ ts. set_up types (1 + ran) ts so_far.database) (drop_all ran texts past), so_far.is.keeps)
