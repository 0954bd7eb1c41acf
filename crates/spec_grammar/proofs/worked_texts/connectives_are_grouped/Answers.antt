use Rattle.std.specs.Prelude.{ℕ, true, List, codes}
use Rattle.std.proofs.Common.{refl, inl, inr}
use Rattle.spec_grammar.specs.Tokens.{Token, lexed}
use Rattle.spec_grammar.specs.Grammar.{negation, IsChain, IsBetween, IsPrimary, IsNegated, IsForm}
use Rattle.spec_grammar.proofs.Levels.{nth, cut, up, overlaid-any, either-any, primary-negated, primary-both, primary-either}
use Rattle.spec_grammar.proofs.worked_texts.connectives_are_grouped.Goals as goal

pub returns-clause-connectives : goal.returns-clause-connectives
returns-clause-connectives c =
    let tokens : List Token = (lexed (codes "select a or b and c xor not not d overlay e and (f or true) overlay g")).tokens in
    let t : ℕ → Token = nth tokens in
    let ts : ℕ → ℕ → List Token = cut tokens in
    IsForm.select (t 0) refl (overlaid-any (IsChain.more {ts = ts 1 17} {us = ts 19 1} (t 18) _
    (IsChain.more {ts = ts 1 9} {us = ts 11 7} (t 10) _ (IsChain.alone
    (IsChain.more {ts = ts 1 5} {us = ts 7 3} (t 6) _ (IsChain.more {ts = ts 1 1} {us = ts 3 3} (t 2) _ (primary-either (IsPrimary.name (t 1) _ refl))
    (inl (refl, refl)) (IsChain.more {ts = ts 3 1} {us = ts 5 1} (t 4) _ (primary-both (IsPrimary.name (t 3) _ refl)) (inl (refl, refl))
    (primary-negated (IsPrimary.name (t 5) _ refl)))) (inr (inl (refl, refl)))
    (IsChain.alone (IsNegated.negated (t 7) refl (up negation _ _
    (IsNegated.negated (t 8) refl (up negation _ _ (primary-negated (IsPrimary.name (t 9) _ refl))))))))) (inl (refl, refl))
    (IsChain.alone (IsChain.more {ts = ts 11 1} {us = ts 13 5} (t 12) _ (primary-both (IsPrimary.name (t 11) _ refl)) (inl (refl, refl))
    (primary-negated (IsPrimary.parentheses (IsBetween.between {ts = ts 14 3} (t 13) (t 17) refl
    (either-any (IsChain.more {ts = ts 14 1} {us = ts 16 1} (t 15) _ (primary-either (IsPrimary.name (t 14) _ refl)) (inl (refl, refl))
    (primary-both (IsPrimary.truth (t 16) true (inl (refl, refl)))))) refl)))))) (inl (refl, refl)) (primary-either (IsPrimary.name (t 19) _ refl))))

pub returns-clause-either : goal.returns-clause-either
returns-clause-either c =
    let tokens : List Token = (lexed (codes "select a xor b or c")).tokens in
    let t : ℕ → Token = nth tokens in
    let ts : ℕ → ℕ → List Token = cut tokens in
    IsForm.select (t 0) refl (either-any (IsChain.more {ts = ts 1 3} {us = ts 5 1} (t 4) _
    (IsChain.more {ts = ts 1 1} {us = ts 3 1} (t 2) _ (primary-either (IsPrimary.name (t 1) _ refl)) (inr (inl (refl, refl)))
    (primary-both (IsPrimary.name (t 3) _ refl))) (inl (refl, refl)) (primary-both (IsPrimary.name (t 5) _ refl))))
