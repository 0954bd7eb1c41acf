-- Verdicts of worked texts that end too early or go on wrongly.
use Rattle.std.specs.Prelude.{◌≡◌, ℕ, zero, suc, ◌+◌, ◌≤◌, pos, Bool, true, false, List, [], ◌∷◌, ◌++◌, length, drop, None, Some, Err, codes}
use Rattle.std.proofs.Common.{refl, sym, ap, ◌∙◌, arith, length-append}
use Rattle.ras_cells.specs.declared.atom.Atom.TheVariants.{Wide}
use Rattle.ras_syntax.specs.declared.expr.Expr.{Expr}
use Rattle.ras_syntax.specs.declared.expr.ExprForm.TheVariants as forms
use Rattle.ras_syntax.specs.declared.faults.SyntaxFault.TheVariants.{Unexpected, FloatRefused}
use Rattle.ras_syntax.specs.declared.statement.SourceName.{SourceName}
use Rattle.ras_syntax.specs.declared.statement.StatementForm.{StatementForm}
use Rattle.ras_syntax.specs.declared.statement.StatementForm.TheVariants as statements
use Rattle.spec_grammar.specs.Tokens.{is_same, TokenKind, name, word, number, sign, Token}
use Rattle.spec_grammar.specs.Grammar.{w, s, any, IsCommaList, IsBetween, IsOptional, IsSource, IsPrimary, IsForm, IsAt, IsStatement}
use Rattle.spec_grammar.specs.Verdict.{BeginsStatement, IsVerdict}
use Rattle.spec_grammar.specs.Worked.{token_from, spanned, expr_in, name_in}
use Rattle.spec_grammar.proofs.Balance.{behind_all, outside, IsAt-balanced, IsStatement-balanced}
use Rattle.spec_grammar.proofs.Levels.{nth, comma_cons, primary-any}
use Rattle.spec_grammar.proofs.Readings.{digit, digit_tree}
use Rattle.spec_grammar.proofs.Told.{told-unexpected, told-own, told-ended}
use Rattle.spec_grammar.proofs.Verdicts.{no_none}

abbrev select_a : List Token
select_a = token_from (w "select") 0 6 ∷ token_from (name (codes "a")) 7 8 ∷ []

a-any : IsAt any (token_from (name (codes "a")) 7 8 ∷ []) (name_in (codes "a") 7 8)
a-any = primary-any (IsPrimary.name (token_from (name (codes "a")) 7 8) (codes "a") refl)

-- ---- a quotient

pub quotient : IsVerdict (codes "select a / 2 from G as a") (Err (FloatRefused 9))
quotient = told-own (codes "select a / 2 from G as a") (FloatRefused 9) refl
    ([], statements.Select (name_in (codes "a") 7 8) [] None, IsForm.select (token_from (w "select") 0 6) refl a-any) (omega arith)

-- ---- a source that is missing

abbrev from : Token
from = token_from (w "from") 9 13

some_source : {ts : List Token} {xs : List SourceName} → IsCommaList IsSource ts xs → 1 ≤ length ts
some_source (IsCommaList.first (IsSource.source n collection is iterator)) = omega arith
some_source (IsCommaList.more {ts = ts} {us = us} c hs comma h) = let e : length (ts ++ c ∷ us) ≡ length ts + length (c ∷ us) = length-append ts (c ∷ us) in omega arith

too_few : (us vs ws : List Token) (f : Token) → f.kind ≡ w "from" → 1 ≤ length vs → us ++ f ∷ vs ++ ws ≡ token_from (name (codes "a")) 7 8 ∷ from ∷ [] → ⊥
too_few [] vs ws f is some e = cc
too_few (u ∷ us) vs ws f is some e =
    let outer : length (us ++ f ∷ vs ++ ws) ≡ length (us ++ f ∷ vs) + length ws = length-append (us ++ f ∷ vs) ws in
    let inner : length (us ++ f ∷ vs) ≡ length us + length (f ∷ vs) = length-append us (f ∷ vs) in
    let all : length (us ++ f ∷ vs ++ ws) ≡ 1 = ap (λ ts. length (drop 1 ts)) e in
    omega arith

-- the tokens "select a from" are of no form
abbrev selects : TokenKind → Bool
selects (name text) = false
selects (word text) = is_same (codes "select") text
selects (number z a) = false
selects (sign text) = false

other : (k : Token) (ts us : List Token) (kind : TokenKind) → selects kind ≡ false → k.kind ≡ kind → k ∷ ts ≡ token_from (w "select") 0 6 ∷ us → ⊥
other k ts us kind not' is e =
    let yes : selects k.kind ≡ true = ap (λ ts. selects (nth ts 0).kind) e in
    let same : selects k.kind ≡ selects kind = ap selects is in
    cc

no_source : (ts : List Token) (form : StatementForm) → IsStatement ts form → ts ≡ select_a ++ from ∷ [] → ⊥
no_source ts form (IsForm.select {ts = us} k is h) e =
    no_none [] (sym (ap (λ ts. behind_all (Some []) (drop 1 ts)) e) ∙ (IsAt-balanced any _ _ h []).is)
no_source ts form (IsForm.select_from {ts = us} {us = vs} {vs = ws} k f is h from' sources cond) e =
    too_few us vs ws f from' (some_source sources) (ap (drop 1) e)
no_source ts form (IsForm.insert k i n v x is into is_name values h) e = other k _ _ (w "insert") refl is e
no_source ts form (IsForm.delete k f is from' of cond) e = other k _ _ (w "delete") refl is e
no_source ts form (IsForm.update k s' n a x is of set is_name axes assign h cond) e = other k _ _ (w "update") refl is e
no_source ts form (IsForm.create k c n t x y is collection is_name type) e = other k _ _ (w "create") refl is e
no_source ts form (IsForm.drop k c n x is collection is_name) e = other k _ _ (w "drop") refl is e
no_source ts form (IsForm.begin k is) e = other k _ _ (w "begin") refl is e
no_source ts form (IsForm.begin_retry k r n times is retry plain one most) e = other k _ _ (w "begin") refl is e
no_source ts form (IsForm.commit k is) e = other k _ _ (w "commit") refl is e
no_source ts form (IsForm.commit_anyway k a is anyway) e = other k _ _ (w "commit") refl is e
no_source ts form (IsForm.abort k is) e = other k _ _ (w "abort") refl is e

pub ended_after_from : IsVerdict (codes "select a from") (Err (Unexpected 13))
ended_after_from = told-ended (codes "select a from") refl (
  token_from (name (codes "G")) 14 15 ∷ [],
  statements.Select (name_in (codes "a") 7 8) (record { collection = spanned (codes "G") 14 15; iterator = None } ∷ []) None,
  IsForm.select_from {ts = token_from (name (codes "a")) 7 8 ∷ []} {us = token_from (name (codes "G")) 14 15 ∷ []} {vs = []} (token_from (w "select") 0 6) from refl a-any refl
      (IsCommaList.first (IsSource.source (token_from (name (codes "G")) 14 15) (spanned (codes "G") 14 15) (refl, refl) IsOptional.absent)) IsOptional.absent,
)
    (λ form is. no_source _ form is refl) (omega arith)

-- ---- braces

-- digits from this one on with commas between them, where so many follow the first
abbrev digits : ℕ → ℕ → ℕ → List Token
digits zero z place = digit z place ∷ []
digits (suc n) z place = digit z place ∷ token_from (s ",") (suc place) (suc (suc place)) ∷ digits n (suc z) (suc (suc place))

abbrev digit_trees : ℕ → ℕ → ℕ → List Expr
digit_trees zero z place = digit_tree z place ∷ []
digit_trees (suc n) z place = digit_tree z place ∷ digit_trees n (suc z) (suc (suc place))

digits-list : (n z place : ℕ) → IsCommaList (IsAt any) (digits n z place) (digit_trees n z place)
digits-list zero z place = IsCommaList.first (primary-any (IsPrimary.number (digit z place) (pos z) Wide refl))
digits-list (suc n) z place = comma_cons (digit z place ∷ []) (digits n (suc z) (suc (suc place))) (token_from (s ",") (suc place) (suc (suc place)))
    (primary-any (IsPrimary.number (digit z place) (pos z) Wide refl)) refl (digits-list n (suc z) (suc (suc place)))

-- a select of eight digits in braces that are still open
abbrev eight : List Token
eight = token_from (w "select") 0 6 ∷ token_from (s "{") 7 8 ∷ digits 7 1 8

nine-refused : ¬ BeginsStatement (eight ++ token_from (s ",") 23 24 ∷ [])
nine-refused (more, form, is) = no_none outside (IsStatement-balanced _ form is)

pub nine_in_braces : IsVerdict (codes "select {1,2,3,4,5,6,7,8,9}") (Err (Unexpected 23))
nine_in_braces = told-unexpected (codes "select {1,2,3,4,5,6,7,8,9}") eight (digit 9 24 ∷ token_from (s "}") 25 26 ∷ []) (token_from (s ",") 23 24) refl (
  token_from (s "}") 23 24 ∷ [],
  statements.Select (expr_in 7 24 (forms.Build (digit_trees 7 1 8))) [] None,
  IsForm.select (token_from (w "select") 0 6) refl (primary-any (IsPrimary.braces (IsBetween.between {ts =
      digits 7 1 8} (token_from (s "{") 7 8) (token_from (s "}") 23 24) refl (digits-list 7 1 8) refl) (omega arith))),
)
    nine-refused (omega arith)
