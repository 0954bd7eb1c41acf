use Rattle.std.specs.Prelude.{ℕ, true, false, List, [], codes}
use Rattle.std.proofs.Common.{refl, inl, inr, arith}
use Rattle.spec_grammar.specs.Tokens.{Token, lexed}
use Rattle.spec_grammar.specs.Grammar.{IsRow, IsCommaList, IsBetween, IsAfter, IsOptional, IsNamed, IsSource, IsArm, IsPrimary, IsForm}
use Rattle.spec_grammar.proofs.Levels.{nth, cut, row_cons, comma_cons, primary-any}
use Rattle.spec_grammar.proofs.worked_texts.sources_and_conditions_may_be_missing.Goals as goal

pub returns-clause-update : goal.returns-clause-update
returns-clause-update c =
    let tokens : List Token = (lexed (codes "update G set G assign struct {0, {true, false}}")).tokens in
    let t : ℕ → Token = nth tokens in
    let ts : ℕ → ℕ → List Token = cut tokens in
    IsForm.update {ts = ts 1 1} {us = []} {vs = ts 5 10} {ws = []} (t 0) (t 2) (t 3) (t 4) _ refl (IsSource.source (t 1) _ (refl, refl) IsOptional.absent) refl
    (refl, refl) IsOptional.absent refl (primary-any (IsPrimary.struct (t 5) refl
    (IsBetween.between {ts = ts 7 7} (t 6) (t 14) refl (comma_cons (ts 7 1) (ts 9 5) (t 8) (primary-any (IsPrimary.number (t 7) _ _ refl)) refl
    (IsCommaList.first (primary-any (IsPrimary.braces (IsBetween.between {ts = ts 10 3} (t 9) (t 13) refl
    (comma_cons (ts 10 1) (ts 12 1) (t 11) (primary-any (IsPrimary.truth (t 10) true (inl (refl, refl)))) refl
    (IsCommaList.first (primary-any (IsPrimary.truth (t 12) false (inr (inl (refl, refl))))))) refl) (omega arith))))) refl) (omega arith))) IsOptional.absent

pub returns-clause-select : goal.returns-clause-select
returns-clause-select c =
    let tokens : List Token = (lexed (codes "select case when A then 1 when B then 2 else 3 end from A, B as b, C")).tokens in
    let t : ℕ → Token = nth tokens in
    let ts : ℕ → ℕ → List Token = cut tokens in
    IsForm.select_from {ts = ts 1 12} {us = ts 14 7} {vs = []} (t 0) (t 13) refl
    (primary-any (IsPrimary.choice {ts = ts 2 8} {us = ts 11 1} (t 1) (t 10) (t 12) refl
    (row_cons (ts 2 4) (ts 6 4) (IsArm.arm {ts = ts 3 1} {us = ts 5 1} (t 2) (t 4) refl (primary-any (IsPrimary.name (t 3) _ refl)) refl
    (primary-any (IsPrimary.number (t 5) _ _ refl))) (IsRow.first
    (IsArm.arm {ts = ts 7 1} {us = ts 9 1} (t 6) (t 8) refl (primary-any (IsPrimary.name (t 7) _ refl)) refl (primary-any (IsPrimary.number (t 9) _ _ refl))))) refl
    (primary-any (IsPrimary.number (t 11) _ _ refl)) refl)) refl
    (comma_cons (ts 14 1) (ts 16 5) (t 15) (IsSource.source (t 14) _ (refl, refl) IsOptional.absent) refl
    (comma_cons (ts 16 3) (ts 20 1) (t 19) (IsSource.source (t 16) _ (refl, refl)
    (IsOptional.present (IsAfter.after (t 17) refl (IsNamed.named (t 18) _ (refl, refl))))) refl
    (IsCommaList.first (IsSource.source (t 20) _ (refl, refl) IsOptional.absent)))) IsOptional.absent
