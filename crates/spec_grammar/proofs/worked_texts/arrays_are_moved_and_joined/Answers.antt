use Rattle.std.specs.Prelude.{ℕ, List, codes}
use Rattle.std.proofs.Common.{refl, inl}
use Rattle.spec_grammar.specs.Tokens.{Token, lexed}
use Rattle.spec_grammar.specs.Grammar.{signed, IsChain, IsRow, IsCommaList, IsBetween, IsAfter, IsAxis, IsBounds, IsDomain, IsPrimary, IsPart, IsSigned, IsCompared, IsNegated, IsWhole, IsForm}
use Rattle.spec_grammar.proofs.Levels.{nth, cut, row_cons, comma_cons, up, whole-any, overlaid-any, signed-any, primary-any, part-product, part-sum, primary-signed, primary-either}
use Rattle.spec_grammar.proofs.worked_texts.arrays_are_moved_and_joined.Goals as goal

pub returns-clause-concat : goal.returns-clause-concat
returns-clause-concat c =
    let tokens : List Token = (lexed (codes "select concat shift(a,[1,-1]) with extend(b,[0:1,2:3]) with extend(c,sdom(a)) along 1")).tokens in
    let t : ℕ → Token = nth tokens in
    let ts : ℕ → ℕ → List Token = cut tokens in
    IsForm.select (t 0) refl (whole-any (IsWhole.concat {ts = ts 2 11} {us = ts 13 25} (t 1) (t 38) (t 39) _ refl
    (primary-any (IsPrimary.shift {ts = ts 4 1} {us = ts 6 6} (t 2) (t 3) (t 5) (t 12) refl refl (primary-any (IsPrimary.name (t 4) _ refl)) refl
    (IsBetween.between {ts = ts 7 4} (t 6) (t 11) refl (comma_cons (ts 7 1) (ts 9 2) (t 8) (primary-any (IsPrimary.number (t 7) _ _ refl)) refl
    (IsCommaList.first (signed-any (IsSigned.minus (t 9) refl (up signed _ _ (primary-signed (IsPrimary.number (t 10) _ _ refl))))))) refl) refl))
    (row_cons (ts 13 15) (ts 28 10) (IsAfter.after (t 13) refl
    (primary-any (IsPrimary.extend {ts = ts 16 1} {us = ts 18 9} (t 14) (t 15) (t 17) (t 27) refl refl (primary-any (IsPrimary.name (t 16) _ refl)) refl
    (IsDomain.literal (IsBetween.between {ts = ts 19 7} (t 18) (t 26) refl
    (comma_cons (ts 19 3) (ts 23 3) (t 22) (IsBounds.bounds {ts = ts 19 1} {us = ts 21 1} (t 20) (primary-any (IsPrimary.number (t 19) _ _ refl)) refl
    (primary-any (IsPrimary.number (t 21) _ _ refl))) refl
    (IsCommaList.first (IsBounds.bounds {ts = ts 23 1} {us = ts 25 1} (t 24) (primary-any (IsPrimary.number (t 23) _ _ refl)) refl
    (primary-any (IsPrimary.number (t 25) _ _ refl))))) refl)) refl)))
    (IsRow.first (IsAfter.after (t 28) refl (primary-any
    (IsPrimary.extend {ts = ts 31 1} {us = ts 33 4} (t 29) (t 30) (t 32) (t 37) refl refl (primary-any (IsPrimary.name (t 31) _ refl)) refl
    (IsDomain.of_array (t 33) refl (IsBetween.between {ts = ts 35 1} (t 34) (t 36) refl (primary-any (IsPrimary.name (t 35) _ refl)) refl)) refl))))) refl refl))

pub returns-clause-sdom : goal.returns-clause-sdom
returns-clause-sdom c =
    let tokens : List Token = (lexed (codes "select marray p in sdom(a) values sdom(a)[0].lo + p[0] overlay b")).tokens in
    let t : ℕ → Token = nth tokens in
    let ts : ℕ → ℕ → List Token = cut tokens in
    IsForm.select (t 0) refl (whole-any (IsWhole.marray {ts = ts 4 4} {us = ts 9 16} (t 1) (t 2) (t 3) (t 8) _ refl (refl, refl) refl
    (IsDomain.of_array (t 4) refl (IsBetween.between {ts = ts 6 1} (t 5) (t 7) refl (primary-any (IsPrimary.name (t 6) _ refl)) refl)) refl
    (overlaid-any (IsChain.more {ts = ts 9 14} {us = ts 24 1} (t 23) _
    (IsChain.alone (IsChain.alone (IsChain.alone (IsNegated.plain
    (IsCompared.alone (IsChain.more {ts = ts 9 9} {us = ts 19 4} (t 18) _
    (part-sum (IsPart.named {ts = ts 9 7} (t 16) (t 17) _
    (IsPart.indexed {ts = ts 9 4} {us = ts 13 3} (IsPart.alone
    (IsPrimary.sdom (t 9) refl (IsBetween.between {ts = ts 11 1} (t 10) (t 12) refl (primary-any (IsPrimary.name (t 11) _ refl)) refl)))
    (IsBetween.between {ts = ts 14 1} (t 13) (t 15) refl (IsCommaList.first (IsAxis.at (primary-any (IsPrimary.number (t 14) _ _ refl)))) refl)) refl refl))
    (inl (refl, refl)) (part-product (IsPart.indexed {ts = ts 19 1} {us = ts 20 3} (IsPart.alone (IsPrimary.name (t 19) _ refl))
    (IsBetween.between {ts = ts 21 1} (t 20) (t 22) refl (IsCommaList.first (IsAxis.at (primary-any (IsPrimary.number (t 21) _ _ refl)))) refl)))))))))
    (inl (refl, refl)) (primary-either (IsPrimary.name (t 24) _ refl))))))
