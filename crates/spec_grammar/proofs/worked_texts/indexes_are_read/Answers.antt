use Rattle.std.specs.Prelude.{ℕ, List, codes}
use Rattle.std.proofs.Common.{refl}
use Rattle.spec_grammar.specs.Tokens.{Token, lexed}
use Rattle.spec_grammar.specs.Grammar.{IsCommaList, IsBetween, IsEdge, IsAxis, IsPrimary, IsPart, IsForm}
use Rattle.spec_grammar.proofs.Levels.{nth, cut, comma_cons, part-any, primary-any}
use Rattle.spec_grammar.proofs.worked_texts.indexes_are_read.Goals as goal

pub returns : goal.returns
returns c =
    let tokens : List Token = (lexed (codes "select a[*:1,2:*,3,*:*][0][1:2].r.0")).tokens in
    let t : ℕ → Token = nth tokens in
    let ts : ℕ → ℕ → List Token = cut tokens in
    IsForm.select (t 0) refl (part-any (IsPart.numbered {ts = ts 1 26} (t 27) (t 28) _
    (IsPart.named {ts = ts 1 24} (t 25) (t 26) _ (IsPart.indexed {ts = ts 1 19} {us = ts 20 5}
    (IsPart.indexed {ts = ts 1 16} {us = ts 17 3} (IsPart.indexed {ts = ts 1 1} {us = ts 2 15} (IsPart.alone (IsPrimary.name (t 1) _ refl))
    (IsBetween.between {ts = ts 3 13} (t 2) (t 16) refl (comma_cons (ts 3 3) (ts 7 9) (t 6)
    (IsAxis.trim {ts = ts 3 1} {us = ts 5 1} (t 4) (IsEdge.own (t 3) refl) refl (IsEdge.written (primary-any (IsPrimary.number (t 5) _ _ refl)))) refl
    (comma_cons (ts 7 3) (ts 11 5) (t 10) (IsAxis.trim {ts = ts 7 1} {us = ts 9 1} (t 8) (IsEdge.written (primary-any (IsPrimary.number (t 7) _ _ refl))) refl
    (IsEdge.own (t 9) refl)) refl (comma_cons (ts 11 1) (ts 13 3) (t 12) (IsAxis.at (primary-any (IsPrimary.number (t 11) _ _ refl))) refl
    (IsCommaList.first (IsAxis.trim {ts = ts 13 1} {us = ts 15 1} (t 14) (IsEdge.own (t 13) refl) refl (IsEdge.own (t 15) refl)))))) refl))
    (IsBetween.between {ts = ts 18 1} (t 17) (t 19) refl (IsCommaList.first (IsAxis.at (primary-any (IsPrimary.number (t 18) _ _ refl)))) refl))
    (IsBetween.between {ts = ts 21 3} (t 20) (t 24) refl
    (IsCommaList.first (IsAxis.trim {ts = ts 21 1} {us = ts 23 1} (t 22) (IsEdge.written (primary-any (IsPrimary.number (t 21) _ _ refl))) refl
    (IsEdge.written (primary-any (IsPrimary.number (t 23) _ _ refl))))) refl)) refl refl) refl refl))
