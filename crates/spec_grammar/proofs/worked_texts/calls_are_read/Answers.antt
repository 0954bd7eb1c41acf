use Rattle.std.specs.Prelude.{ℕ, List, codes}
use Rattle.std.proofs.Common.{refl, inl, inr, arith}
use Rattle.spec_grammar.specs.Tokens.{Token, lexed}
use Rattle.spec_grammar.specs.Grammar.{IsCommaList, IsBetween, IsPrimary, IsForm}
use Rattle.spec_grammar.proofs.Levels.{nth, cut, comma_cons, primary-any}
use Rattle.spec_grammar.proofs.worked_texts.calls_are_read.Goals as goal

pub returns-clause-functions : goal.returns-clause-functions
returns-clause-functions c =
    let tokens : List Token = (lexed (codes "select div(a, mod(b, bit(abs(c), 7)))")).tokens in
    let t : ℕ → Token = nth tokens in
    let ts : ℕ → ℕ → List Token = cut tokens in
    IsForm.select (t 0) refl (primary-any (IsPrimary.call {ts = ts 3 1} {us = ts 5 14} (t 1) (t 2) (t 4) (t 19) _ (inl (refl, refl)) refl
    (primary-any (IsPrimary.name (t 3) _ refl)) refl (primary-any
    (IsPrimary.call {ts = ts 7 1} {us = ts 9 9} (t 5) (t 6) (t 8) (t 18) _ (inr (inl (refl, refl))) refl (primary-any (IsPrimary.name (t 7) _ refl)) refl
    (primary-any (IsPrimary.call {ts = ts 11 4} {us = ts 16 1} (t 9) (t 10) (t 15) (t 17) _ (inr (inr (inl (refl, refl)))) refl
    (primary-any (IsPrimary.abs (t 11) refl (IsBetween.between {ts = ts 13 1} (t 12) (t 14) refl (primary-any (IsPrimary.name (t 13) _ refl)) refl))) refl
    (primary-any (IsPrimary.number (t 16) _ _ refl)) refl)) refl)) refl))

pub returns-clause-cells : goal.returns-clause-cells
returns-clause-cells c =
    let tokens : List Token = (lexed (codes "select {add_cells(a), min_cells(a), max_cells(a), count_cells(a), some_cells(a), all_cells(a)}")).tokens in
    let t : ℕ → Token = nth tokens in
    let ts : ℕ → ℕ → List Token = cut tokens in
    IsForm.select (t 0) refl (primary-any (IsPrimary.braces (IsBetween.between {ts = ts 2 29} (t 1) (t 31) refl
    (comma_cons (ts 2 4) (ts 7 24) (t 6) (primary-any (IsPrimary.folded (t 2) _ (inl (refl, refl))
    (IsBetween.between {ts = ts 4 1} (t 3) (t 5) refl (primary-any (IsPrimary.name (t 4) _ refl)) refl))) refl
    (comma_cons (ts 7 4) (ts 12 19) (t 11) (primary-any (IsPrimary.folded (t 7) _ (inr (inl (refl, refl)))
    (IsBetween.between {ts = ts 9 1} (t 8) (t 10) refl (primary-any (IsPrimary.name (t 9) _ refl)) refl))) refl
    (comma_cons (ts 12 4) (ts 17 14) (t 16) (primary-any
    (IsPrimary.folded (t 12) _ (inr (inr (inl (refl, refl))))
    (IsBetween.between {ts = ts 14 1} (t 13) (t 15) refl (primary-any (IsPrimary.name (t 14) _ refl)) refl))) refl
    (comma_cons (ts 17 4) (ts 22 9) (t 21) (primary-any (IsPrimary.folded (t 17) _ (inr (inr (inr (inl (refl, refl)))))
    (IsBetween.between {ts = ts 19 1} (t 18) (t 20) refl (primary-any (IsPrimary.name (t 19) _ refl)) refl))) refl
    (comma_cons (ts 22 4) (ts 27 4) (t 26) (primary-any (IsPrimary.folded (t 22) _ (inr (inr (inr (inr (inl (refl, refl))))))
    (IsBetween.between {ts = ts 24 1} (t 23) (t 25) refl (primary-any (IsPrimary.name (t 24) _ refl)) refl))) refl
    (IsCommaList.first (primary-any (IsPrimary.folded (t 27) _ (inr (inr (inr (inr (inr (inl (refl, refl)))))))
    (IsBetween.between {ts = ts 29 1} (t 28) (t 30) refl (primary-any (IsPrimary.name (t 29) _ refl)) refl))))))))) refl) (omega arith)))
