use Rattle.std.specs.Prelude.{ℕ, true, false, List, [], codes}
use Rattle.std.proofs.Common.{refl, inl, inr, arith}
use Rattle.spec_grammar.specs.Tokens.{Token, lexed}
use Rattle.spec_grammar.specs.Grammar.{IsCommaList, IsBetween, IsAfter, IsOptional, IsAxis, IsBounds, IsDomain, IsPrimary, IsPart, IsWhole, IsForm}
use Rattle.spec_grammar.proofs.Levels.{nth, cut, comma_cons, whole-any, part-any, primary-any}
use Rattle.spec_grammar.proofs.worked_texts.folds_are_read.Goals as goal

pub returns-clause-numbers : goal.returns-clause-numbers
returns-clause-numbers c =
    let tokens : List Token = (lexed (codes "select condense + over p in [0:1,2:3] where a[p[0]] using condense * over q in sdom(a) using condense min over r in sdom(b) using 1")).tokens in
    let t : ℕ → Token = nth tokens in
    let ts : ℕ → ℕ → List Token = cut tokens in
    IsForm.select (t 0) refl (whole-any (IsWhole.condense {ts = ts 6 9} {us = ts 15 8} {vs = ts 24 21} (t 1) (t 2) (t 3) (t 4) (t 5) (t 23) _ _ refl (inl (refl, refl))
    refl (refl, refl) refl (IsDomain.literal (IsBetween.between {ts = ts 7 7} (t 6) (t 14) refl
    (comma_cons (ts 7 3) (ts 11 3) (t 10) (IsBounds.bounds {ts = ts 7 1} {us = ts 9 1} (t 8) (primary-any (IsPrimary.number (t 7) _ _ refl)) refl
    (primary-any (IsPrimary.number (t 9) _ _ refl))) refl
    (IsCommaList.first (IsBounds.bounds {ts = ts 11 1} {us = ts 13 1} (t 12) (primary-any (IsPrimary.number (t 11) _ _ refl)) refl
    (primary-any (IsPrimary.number (t 13) _ _ refl))))) refl))
    (IsOptional.present (IsAfter.after (t 15) refl (part-any
    (IsPart.indexed {ts = ts 16 1} {us = ts 17 6} (IsPart.alone (IsPrimary.name (t 16) _ refl))
    (IsBetween.between {ts = ts 18 4} (t 17) (t 22) refl
    (IsCommaList.first (IsAxis.at (part-any (IsPart.indexed {ts = ts 18 1} {us = ts 19 3} (IsPart.alone (IsPrimary.name (t 18) _ refl))
    (IsBetween.between {ts = ts 20 1} (t 19) (t 21) refl (IsCommaList.first (IsAxis.at (primary-any (IsPrimary.number (t 20) _ _ refl)))) refl))))) refl))))) refl
    (whole-any (IsWhole.condense {ts = ts 29 4} {us = []} {vs = ts 34 11} (t 24) (t 25) (t 26) (t 27) (t 28) (t 33) _ _ refl (inr (inl (refl, refl))) refl
    (refl, refl) refl (IsDomain.of_array (t 29) refl (IsBetween.between {ts = ts 31 1} (t 30) (t 32) refl (primary-any (IsPrimary.name (t 31) _ refl)) refl))
    IsOptional.absent refl (whole-any (IsWhole.condense {ts = ts 39 4} {us = []} {vs = ts 44 1} (t 34) (t 35) (t 36) (t 37) (t 38) (t 43) _ _ refl
    (inr (inr (inl (refl, refl)))) refl (refl, refl) refl
    (IsDomain.of_array (t 39) refl (IsBetween.between {ts = ts 41 1} (t 40) (t 42) refl (primary-any (IsPrimary.name (t 41) _ refl)) refl)) IsOptional.absent refl
    (primary-any (IsPrimary.number (t 44) _ _ refl))))))))

pub returns-clause-truths : goal.returns-clause-truths
returns-clause-truths c =
    let tokens : List Token = (lexed (codes "select condense MAX over p in sdom(a) using {condense and over q in sdom(b) using true, condense or over r in sdom(c) where false using d}")).tokens in
    let t : ℕ → Token = nth tokens in
    let ts : ℕ → ℕ → List Token = cut tokens in
    IsForm.select (t 0) refl (whole-any (IsWhole.condense {ts = ts 6 4} {us = []} {vs = ts 11 27} (t 1) (t 2) (t 3) (t 4) (t 5) (t 10) _ _ refl
    (inr (inr (inr (inl (refl, refl))))) refl (refl, refl) refl
    (IsDomain.of_array (t 6) refl (IsBetween.between {ts = ts 8 1} (t 7) (t 9) refl (primary-any (IsPrimary.name (t 8) _ refl)) refl)) IsOptional.absent refl
    (primary-any (IsPrimary.braces (IsBetween.between {ts = ts 12 25} (t 11) (t 37) refl
    (comma_cons (ts 12 11) (ts 24 13) (t 23) (whole-any (IsWhole.condense {ts = ts 17 4} {us = []} {vs = ts 22 1} (t 12) (t 13) (t 14) (t 15) (t 16) (t 21) _ _ refl
    (inr (inr (inr (inr (inl (refl, refl)))))) refl (refl, refl) refl
    (IsDomain.of_array (t 17) refl (IsBetween.between {ts = ts 19 1} (t 18) (t 20) refl (primary-any (IsPrimary.name (t 19) _ refl)) refl)) IsOptional.absent refl
    (primary-any (IsPrimary.truth (t 22) true (inl (refl, refl)))))) refl
    (IsCommaList.first (whole-any (IsWhole.condense {ts = ts 29 4} {us = ts 33 2} {vs = ts 36 1} (t 24) (t 25) (t 26) (t 27) (t 28) (t 35) _ _ refl
    (inr (inr (inr (inr (inr (inl (refl, refl))))))) refl (refl, refl) refl
    (IsDomain.of_array (t 29) refl (IsBetween.between {ts = ts 31 1} (t 30) (t 32) refl (primary-any (IsPrimary.name (t 31) _ refl)) refl))
    (IsOptional.present (IsAfter.after (t 33) refl (primary-any (IsPrimary.truth (t 34) false (inr (inl (refl, refl))))))) refl
    (primary-any (IsPrimary.name (t 36) _ refl)))))) refl) (omega arith)))))
