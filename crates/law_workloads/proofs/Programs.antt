-- The workload of a text: its setup leaves a valid database, and its statements are those of texts.
use Rattle.std.proofs.Common.{◌≡◌, ℕ, suc, ◌+◌, ◌-◌, ◌≤◌, Bool, true, false, nat_le, if◌then◌else◌, List, [], ◌∷◌, length, map, Option, Some, None, Result, Ok, Err, All, refl, ap, ◌∙◌, subst, arith}
use Rattle.std.specs.Prelude.{IsTrue, count_by, slice_get}
use Rattle.std.specs.List.{AllByRecursion}
use Rattle.std.specs.List.Sorted.{IsStrictlySortedBy}
use Rattle.std.proofs.lemmas.List.{length-map}
use Rattle.std.proofs.lemmas.List.Elements.{All-from_recursion, recursion_from_All}
use Rattle.ras_syntax.specs.Literals.{statement_numbers_fit}
use Rattle.ras_syntax.specs.declared.faults.SyntaxFault.{SyntaxFault}
use Rattle.ras_syntax.specs.declared.statement.Statement.{Statement}
use Rattle.ras_syntax.specs.declared.statement.StatementForm.{StatementForm}
use Rattle.ras_syntax.specs.declared.statement.StatementForm.TheVariants as forms
use Rattle.ras_syntax.specs.declared.types.Script.{Script}
use Rattle.ras_syntax.specs.declared.types.SetType.{SetType}
use Rattle.spec_expressions.specs.Database.{Database}
use Rattle.spec_expressions.specs.SetTypes.{AreTypes}
use Rattle.spec_grammar.specs.Tokens.{Text}
use Rattle.spec_grammar.specs.Verdict.{IsVerdict}
use Rattle.spec_grammar.proofs.Numbers.{numbers_of_statement}
use Rattle.spec_statements.specs.Machine.{effect_of, reply_of}
use Rattle.spec_statements.specs.Reply.{Reply, done, faulty, misfit, unchecked, values}
use Rattle.spec_statements.specs.Validity.{HasIdentifiersUpTo, IsValidFor}
use Rattle.spec_histories.specs.History.{History, nth, statement_at, statement_in}
use Rattle.spec_histories.specs.Legal.{IsLegal, is_begun}
use Rattle.spec_histories.specs.Serializable.{ArePrograms, HasRoom}
use Rattle.law_effects.proofs.Identifiers.{left_by-up_to}
use Rattle.law_effects.proofs.Valid.{left_by-valid}
use Rattle.law_grammar.specs.VerdictOf.{verdict_of}
use Rattle.law_grammar.proofs.EachVerdict.{verdict_of-is}
use Rattle.law_lists.proofs.Each.{each_map, each_weaker, slice_get-All}
use Rattle.law_views.proofs.Room.{has_room}
use Rattle.spec_views.specs.Sessions.{AreShort}
use Rattle.ras_syntax.specs.declared.limits.TheConstants.{MAX_STATEMENTS}
use Rattle.spec_workloads.specs.Outline.{IsOutline, Outline, OutlineFault, outline_of}
use Rattle.spec_workloads.specs.Programs.{programs_of, statement_if_read, statement_in_text, statements_in_script}
use Rattle.spec_workloads.specs.Setup.{SetupFault, WorkloadValue, after_form, after_verdict, if_done, set_up, workload_with_place, with_setup, workload_of, workload_of_outline, workload_over}
use Rattle.spec_workloads.proofs.Outlines.{bind_ok, ok_same, outlines-are}

-- ---- the setup

done-leaves : (k : ℕ) (reply : Reply) (database after : Database) → if_done k reply database ≡ Ok after → database ≡ after
done-leaves k (done n) database after is = ok_same database after is
done-leaves k (values rows) database after is = absurd cc
done-leaves k (faulty row point fault) database after is = absurd cc
done-leaves k (misfit row span fault) database after is = absurd cc
done-leaves k (unchecked span fault) database after is = absurd cc

form-leaves : (types : List SetType) (k : ℕ) (statement : Statement) (form : StatementForm) (database after : Database)
    → after_form types k statement form database ≡ Ok after → effect_of types statement database ≡ after
form-leaves types k statement (forms.Word word) database after is = absurd cc
form-leaves types k statement (forms.Select body sources cond) database after is = done-leaves k (reply_of types statement database) _ after is
form-leaves types k statement (forms.Insert into body) database after is = done-leaves k (reply_of types statement database) _ after is
form-leaves types k statement (forms.Delete source cond) database after is = done-leaves k (reply_of types statement database) _ after is
form-leaves types k statement (forms.Update source set axes target body cond) database after is = done-leaves k (reply_of types statement database) _ after is
form-leaves types k statement (forms.Create name of) database after is = done-leaves k (reply_of types statement database) _ after is
form-leaves types k statement (forms.Drop name) database after is = done-leaves k (reply_of types statement database) _ after is

-- a database that is valid and gives out small identifiers
record IsSetUp (types : List SetType) (bound : ℕ) (database : Database) : Type 0 where
  valid : IsValidFor types database
  identifiers : HasIdentifiersUpTo bound database

one_more : (types : List SetType) (k bound : ℕ) (verdict : Result Statement SyntaxFault) (database after : Database) → AreTypes types → IsSetUp types bound database
    → after_verdict types k verdict database ≡ Ok after → IsSetUp types (bound + 1) after
one_more types k bound (Err fault) database after fit is is_after = absurd cc
one_more types k bound (Ok statement) database after fit is is_after =
    subst (IsSetUp types (bound + 1)) (form-leaves types k statement statement.form database after is_after)
    (record { valid = left_by-valid types statement database fit is.valid; identifiers = left_by-up_to types statement database bound is.identifiers })

set_up-is : (types : List SetType) (k bound : ℕ) (texts : List Text) (database after : Database) → AreTypes types → IsSetUp types bound database
    → set_up types k texts database ≡ Ok after → IsSetUp types (bound + length texts) after
set_up-is types k bound [] database after fit is is_after =
    let e : bound ≡ bound + 0 = omega arith in
    subst (λ b. IsSetUp types b after) e (subst (IsSetUp types bound) (ok_same database after is_after) is)
set_up-is types k bound (text ∷ texts) database after fit is is_after =
    let (next, one, rest) = bind_ok (after_verdict types k (verdict_of text) database) (λ next. set_up types (suc k) texts next) after is_after in
    let e : bound + 1 + length texts ≡ bound + length (text ∷ texts) = omega arith in
    subst (λ b. IsSetUp types b after) e
    (set_up-is types (suc k) (bound + 1) texts next after fit (one_more types k bound (verdict_of text) database next fit is one) rest)

nothing-is : (types : List SetType) → IsSetUp types 1 []
unfolding IsStrictlySortedBy
nothing-is types = record {
  valid = record { ordered = tt; collections = λ k d within. absurd (omega arith) };
  identifiers = λ k d within. absurd (omega arith);
}

-- ---- the workload of a text

-- the outline that a workload is of
pub record IsWorkloadOf (text : Text) (workload : WorkloadValue) : Type 0 where
  pub outline : Outline
  pub base : Database
  pub behind : ℕ
  pub read : outline_of text ≡ Ok (outline, behind)
  pub is_set_up : set_up outline.types 1 outline.setup [] ≡ Ok base
  pub same : workload_over outline base ≡ workload

of_outline : (text : Text) (outline : Outline × ℕ) (found : WorkloadValue × ℕ) → outline_of text ≡ Ok outline → workload_with_place outline.1 (workload_of_outline outline.0) ≡ Ok found
    → IsWorkloadOf text found.0
of_outline text outline found read is = at (workload_of_outline outline.0) refl is
  where
    at : (r : Result WorkloadValue (ℕ × SetupFault)) → workload_of_outline outline.0 ≡ r → workload_with_place outline.1 r ≡ Ok found → IsWorkloadOf text found.0
    at (Err fault) of is = absurd cc
    at (Ok workload) of is =
        let (base, one, rest) = bind_ok (set_up outline.0.types 1 outline.0.setup []) (λ base. Ok (workload_over outline.0 base)) workload of in
        record {
          outline = outline.0;
          base = base;
          behind = outline.1;
          read = read;
          is_set_up = one;
          same = ok_same (workload_over outline.0 base) workload rest ∙ ap (λ p. p.0) (ok_same (workload, outline.1) found is);
        }

pub of_text : (text : Text) (found : WorkloadValue × ℕ) → workload_of text ≡ Ok found → IsWorkloadOf text found.0
of_text text found is = at (outline_of text) refl is
  where
    at : (r : Result (Outline × ℕ) OutlineFault) → outline_of text ≡ r → with_setup r ≡ Ok found → IsWorkloadOf text found.0
    at (Err fault) of is = absurd cc
    at (Ok outline) of is = of_outline text outline found of is

-- ---- statements

-- its numbers are of their atoms, if it is one
abbrev Fits : Option Statement → Type 0
Fits found = (statement : Statement) → found ≡ Some statement → IsTrue (statement_numbers_fit statement.form)

text-fits : (text : Text) → Fits (statement_in_text text)
text-fits text = at (verdict_of text) (verdict_of-is text)
  where
    at : (verdict : Result Statement SyntaxFault) → IsVerdict text verdict → Fits (statement_if_read verdict)
    at (Err fault) is statement found = absurd cc
    at (Ok read) is statement found = let e : read ≡ statement = cc in subst (λ s. IsTrue (statement_numbers_fit s.form)) e (numbers_of_statement text read is)

all_of : {X : Type 0} (P : X → Type 0) → ((x : X) → P x) → (xs : List X) → AllByRecursion P xs
all_of P holds [] = tt
all_of P holds (x ∷ xs) = (holds x, all_of P holds xs)

script-fits : (script : Script) → All Fits (statements_in_script script)
script-fits script =
    All-from_recursion Fits (statements_in_script script)
    (each_map (λ text. Fits (statement_in_text text)) Fits statement_in_text (λ text fits. fits) script.statements
    (all_of (λ text. Fits (statement_in_text text)) text-fits script.statements))

nth-All : {X : Type 0} (P : X → Type 0) (k : ℕ) (xs : List X) (x : X) → All P xs → nth k xs ≡ Some x → P x
nth-All {X = X} P k xs x all is = at (nat_le 1 k) is
  where
    at : (b : Bool) → (if b then slice_get xs (k - 1) else None) ≡ Some x → P x
    at true is = slice_get-All P xs (k - 1) x all is
    at false is = absurd cc

statements-fit : (workload : WorkloadValue) (session k : ℕ) (statement : Statement) → statement_at (programs_of workload) session k ≡ Some statement
    → IsTrue (statement_numbers_fit statement.form)
statements-fit workload session k statement is = in_session (nth session (programs_of workload).scripts) refl is
  where
    each : All (All Fits) (programs_of workload).scripts
    each = All-from_recursion (All Fits) (programs_of workload).scripts
        (each_map (λ script. All Fits (statements_in_script script)) (All Fits) statements_in_script (λ script fits. fits) workload.scripts
        (all_of (λ script. All Fits (statements_in_script script)) script-fits workload.scripts))

    in_script : (script : List (Option Statement)) → All Fits script → (found : Option (Option Statement)) → nth k script ≡ found
        → (elim found [ None ↦ None | Some statement ↦ statement ]) ≡ Some statement → IsTrue (statement_numbers_fit statement.form)
    in_script script fits None at is = absurd cc
    in_script script fits (Some found) at is = nth-All Fits k script found fits at statement is

    in_session : (found : Option (List (Option Statement))) → nth session (programs_of workload).scripts ≡ found → statement_in found k ≡ Some statement
        → IsTrue (statement_numbers_fit statement.form)
    in_session None at is = absurd cc
    in_session (Some script) at is =
        in_script script (nth-All (All Fits) session (programs_of workload).scripts script each at) (nth k script) refl is

-- ---- the laws

over_outline : (outline : Outline) (base : Database) → IsOutline outline → IsSetUp outline.types (1 + length outline.setup) base
    → ArePrograms (programs_of (workload_over outline base)) (1 + MAX_STATEMENTS)
over_outline outline base is made = record {
  types_fit = is.types;
  valid = made.valid;
  identifiers = up_to outline.setup made.identifiers is.few_in_setup;
  numbers_fit = statements-fit (workload_over outline base);
}
  where
    up_to : (texts : List Text) → HasIdentifiersUpTo (1 + length texts) base → length texts ≤ MAX_STATEMENTS → HasIdentifiersUpTo (1 + MAX_STATEMENTS) base
    up_to texts up few = All-from_recursion (λ entry. entry.1.next ≤ 1 + MAX_STATEMENTS) base
        (each_weaker (λ entry. entry.1.next ≤ 1 + length texts) (λ entry. entry.1.next ≤ 1 + MAX_STATEMENTS) (λ entry small. omega (arith, small, few)) base
        (recursion_from_All (λ entry. entry.1.next ≤ 1 + length texts) base up))

pub workloads-are : (text : Text) (found : WorkloadValue × ℕ) → workload_of text ≡ Ok found → ArePrograms (programs_of found.0) (1 + MAX_STATEMENTS)
workloads-are text found is =
    let of = of_text text found is in
    let right : IsOutline of.outline = outlines-are text (of.outline, of.behind) of.read in
    subst (λ workload. ArePrograms (programs_of workload) (1 + MAX_STATEMENTS)) of.same
    (over_outline of.outline of.base right (set_up-is of.outline.types 1 1 of.outline.setup [] of.base right.types (nothing-is of.outline.types) of.is_set_up))

short-over : (outline : Outline) (base : Database) → IsOutline outline → AreShort (programs_of (workload_over outline base)) MAX_STATEMENTS
short-over outline base is session script found =
    nth-All (λ script. length script ≤ MAX_STATEMENTS) session (programs_of (workload_over outline base)).scripts script
    (All-from_recursion (λ script. length script ≤ MAX_STATEMENTS) (map statements_in_script outline.scripts)
    (each_map (λ script. length script.statements ≤ MAX_STATEMENTS) (λ script. length script ≤ MAX_STATEMENTS) statements_in_script
    (λ script few. simp length-map few) outline.scripts
    (recursion_from_All (λ script. length script.statements ≤ MAX_STATEMENTS) outline.scripts is.few_in_sessions))) found

pub sessions-short : (text : Text) (found : WorkloadValue × ℕ) → workload_of text ≡ Ok found → AreShort (programs_of found.0) MAX_STATEMENTS
sessions-short text found is =
    let of = of_text text found is in
    subst (λ workload. AreShort (programs_of workload) MAX_STATEMENTS) of.same
    (short-over of.outline of.base (outlines-are text (of.outline, of.behind) of.read))

pub room-of : (text : Text) (found : WorkloadValue × ℕ) (past : History) → workload_of text ≡ Ok found → IsLegal (programs_of found.0) past
    → count_by is_begun past ≤ 4294967295 → HasRoom (1 + MAX_STATEMENTS) past
room-of text found past is legal few =
    has_room (programs_of found.0) MAX_STATEMENTS 4294967295 (1 + MAX_STATEMENTS) past (sessions-short text found is) legal few (omega arith)
