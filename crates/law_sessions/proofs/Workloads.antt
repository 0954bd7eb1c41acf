-- The scripts of a text's workload are brief, so its sessions begin few transactions, and identifiers have room.
use Rattle.std.proofs.Common.{◌≡◌, ℕ, suc, ◌+◌, ◌*◌, ◌≤◌, List, [], ◌∷◌, length, map, Result, Ok, Err, All, sym, ap, ◌∙◌, subst, arith}
use Rattle.std.specs.Prelude.{count_by}
use Rattle.std.specs.List.{AllByRecursion}
use Rattle.std.proofs.Math.Nat.{mul-le-mul_right}
use Rattle.std.proofs.lemmas.List.{length-map}
use Rattle.std.proofs.lemmas.List.Elements.{All-from_recursion, recursion_from_All}
use Rattle.ras_syntax.specs.declared.faults.SyntaxFault.{SyntaxFault}
use Rattle.ras_syntax.specs.declared.limits.TheConstants.{MAX_RETRIES, MAX_SESSIONS, MAX_STATEMENTS}
use Rattle.ras_syntax.specs.declared.statement.Statement.{Statement}
use Rattle.ras_syntax.specs.declared.statement.StatementForm.{StatementForm}
use Rattle.ras_syntax.specs.declared.types.Script.{Script}
use Rattle.spec_grammar.specs.Grammar.{IsForm, IsStatement}
use Rattle.spec_grammar.specs.Tokens.{Text, Token}
use Rattle.spec_grammar.specs.Verdict.{IsVerdict}
use Rattle.spec_histories.specs.History.{History}
use Rattle.spec_histories.specs.Legal.{IsLegal, is_begun}
use Rattle.spec_histories.specs.Serializable.{HasRoom}
use Rattle.law_grammar.specs.VerdictOf.{verdict_of}
use Rattle.law_grammar.proofs.EachVerdict.{verdict_of-is}
use Rattle.law_lists.proofs.Each.{each_map}
use Rattle.law_workloads.proofs.Programs.{of_text, room-of}
use Rattle.spec_workloads.specs.Outline.{IsOutline}
use Rattle.spec_workloads.specs.Programs.{programs_of, statements_in_script}
use Rattle.spec_workloads.specs.Setup.{WorkloadValue, workload_of}
use Rattle.spec_workloads.proofs.Outlines.{outlines-are}
use Rattle.spec_sessions.specs.Begins.{AreBrief, HasFewTries, HasFewTriesIn, read_script, read_scripts}
use Rattle.spec_sessions.specs.Outcomes.{AreMadeSoFarFrom}
use Rattle.law_sessions.proofs.Sessions.{sessions-begin-few}

-- ---- texts

form-few : (ts : List Token) (form : StatementForm) → IsStatement ts form → HasFewTriesIn form
form-few ts form (IsForm.select k is h) = tt
form-few ts form (IsForm.select_from k g is h from sources cond) = tt
form-few ts form (IsForm.insert k i n v x is into named values h) = tt
form-few ts form (IsForm.delete k g is from one cond) = tt
form-few ts form (IsForm.update k s' n a x is of set named h assign b cond) = tt
form-few ts form (IsForm.create k c n t x y is collection named typed) = tt
form-few ts form (IsForm.drop k c n x is collection named) = tt
form-few ts form (IsForm.begin k is) = omega arith
form-few ts form (IsForm.begin_retry k r n times is retry number some few) = few
form-few ts form (IsForm.commit k is) = tt
form-few ts form (IsForm.commit_anyway k a is anyway) = tt
form-few ts form (IsForm.abort k is) = tt

text-few : (text : Text) → HasFewTries (verdict_of text)
text-few text = at (verdict_of text) (verdict_of-is text)
  where
    at : (verdict : Result Statement SyntaxFault) → IsVerdict text verdict → HasFewTries verdict
    at (Err fault) is = tt
    at (Ok read) (IsVerdict.statement form none is light) = form-few _ form is

-- ---- scripts

all_of : {X : Type 0} (P : X → Type 0) → ((x : X) → P x) → (xs : List X) → AllByRecursion P xs
all_of P holds [] = tt
all_of P holds (x ∷ xs) = (holds x, all_of P holds xs)

script-brief : (script : Script) → length script.statements ≤ MAX_STATEMENTS → All HasFewTries (read_script script) × (length (read_script script) ≤ MAX_STATEMENTS)
script-brief script few = (
  All-from_recursion HasFewTries (read_script script)
      (each_map (λ text. HasFewTries (verdict_of text)) HasFewTries verdict_of (λ text tries. tries) script.statements
      (all_of (λ text. HasFewTries (verdict_of text)) text-few script.statements)),
  simp length-map few,
)

scripts-brief : (scripts : List Script) → All (λ script. length script.statements ≤ MAX_STATEMENTS) scripts → AreBrief MAX_STATEMENTS (map read_script scripts)
scripts-brief scripts few =
    All-from_recursion (λ script. All HasFewTries script × (length script ≤ MAX_STATEMENTS)) (map read_script scripts)
    (each_map (λ script. length script.statements ≤ MAX_STATEMENTS) (λ script. All HasFewTries script × (length script ≤ MAX_STATEMENTS)) read_script script-brief scripts
    (recursion_from_All (λ script. length script.statements ≤ MAX_STATEMENTS) scripts few))

-- ---- the laws

pub begins-of_workload : (text : Text) (found : WorkloadValue × ℕ) (past : History) → workload_of text ≡ Ok found → IsLegal (programs_of found.0) past
    → AreMadeSoFarFrom 1 (read_scripts found.0) past → count_by is_begun past ≤ MAX_SESSIONS * (MAX_STATEMENTS * suc MAX_RETRIES)
begins-of_workload text found past is legal so_far =
    let of = of_text text found is in
    let right : IsOutline of.outline = outlines-are text (of.outline, of.behind) of.read in
    let same_scripts : of.outline.scripts ≡ found.0.scripts = ap (λ w. w.scripts) of.same in
    let brief : AreBrief MAX_STATEMENTS (read_scripts found.0) =
    subst (λ scripts. AreBrief MAX_STATEMENTS (map read_script scripts)) same_scripts (scripts-brief of.outline.scripts right.few_in_sessions) in
    let few : length found.0.scripts ≤ MAX_SESSIONS = subst (λ scripts. length scripts ≤ MAX_SESSIONS) same_scripts right.few_sessions in
    let count : length (read_scripts found.0) ≡ length found.0.scripts = length-map found.0.scripts read_script in
    let programs_count : length (programs_of found.0).scripts ≡ length found.0.scripts = length-map found.0.scripts statements_in_script in
    let begins = sessions-begin-few (programs_of found.0) (read_scripts found.0) MAX_STATEMENTS past (programs_count ∙ sym count) brief legal so_far in
    let more = mul-le-mul_right {m = length (read_scripts found.0)} {n = MAX_SESSIONS} (MAX_STATEMENTS * suc MAX_RETRIES) (omega (arith, few, count)) in
    omega (arith, begins, more)

pub room-of_run : (text : Text) (found : WorkloadValue × ℕ) (past : History) → workload_of text ≡ Ok found → IsLegal (programs_of found.0) past
    → AreMadeSoFarFrom 1 (read_scripts found.0) past → HasRoom (1 + MAX_STATEMENTS) past
room-of_run text found past is legal so_far = room-of text found past is legal (omega (arith, begins-of_workload text found past is legal so_far))
