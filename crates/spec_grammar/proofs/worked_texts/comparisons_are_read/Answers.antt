use Rattle.std.specs.Prelude.{ℕ, List, codes}
use Rattle.std.proofs.Common.{refl, inl, inr}
use Rattle.spec_grammar.specs.Tokens.{Token, lexed}
use Rattle.spec_grammar.specs.Grammar.{negation, IsChain, IsPrimary, IsCompared, IsNegated, IsForm}
use Rattle.spec_grammar.proofs.Levels.{nth, cut, up, both-any, primary-signed, primary-product, primary-sum}
use Rattle.spec_grammar.proofs.worked_texts.comparisons_are_read.Goals as goal

pub returns : goal.returns
returns c =
    let tokens : List Token = (lexed (codes "select a = b and c != d and e < f and not g <= h and i > j and k + 1 >= 2 * l")).tokens in
    let t : ℕ → Token = nth tokens in
    let ts : ℕ → ℕ → List Token = cut tokens in
    IsForm.select (t 0) refl (both-any (IsChain.more {ts = ts 1 20} {us = ts 22 7} (t 21) _
    (IsChain.more {ts = ts 1 16} {us = ts 18 3} (t 17) _
    (IsChain.more {ts = ts 1 11} {us = ts 13 4} (t 12) _
    (IsChain.more {ts = ts 1 7} {us = ts 9 3} (t 8) _ (IsChain.more {ts = ts 1 3} {us = ts 5 3} (t 4) _
    (IsChain.alone (IsNegated.plain (IsCompared.compared {ts = ts 1 1} {us = ts 3 1} (t 2) _ (primary-sum (IsPrimary.name (t 1) _ refl)) (inl (refl, refl))
    (primary-sum (IsPrimary.name (t 3) _ refl))))) (inl (refl, refl))
    (IsNegated.plain (IsCompared.compared {ts = ts 5 1} {us = ts 7 1} (t 6) _ (primary-sum (IsPrimary.name (t 5) _ refl)) (inr (inl (refl, refl)))
    (primary-sum (IsPrimary.name (t 7) _ refl))))) (inl (refl, refl))
    (IsNegated.plain (IsCompared.compared {ts = ts 9 1} {us = ts 11 1} (t 10) _ (primary-sum (IsPrimary.name (t 9) _ refl)) (inr (inr (inl (refl, refl))))
    (primary-sum (IsPrimary.name (t 11) _ refl))))) (inl (refl, refl))
    (IsNegated.negated (t 13) refl (up negation _ _ (IsNegated.plain
    (IsCompared.compared {ts = ts 14 1} {us = ts 16 1} (t 15) _ (primary-sum (IsPrimary.name (t 14) _ refl)) (inr (inr (inr (inl (refl, refl)))))
    (primary-sum (IsPrimary.name (t 16) _ refl))))))) (inl (refl, refl))
    (IsNegated.plain (IsCompared.compared {ts = ts 18 1} {us = ts 20 1} (t 19) _ (primary-sum (IsPrimary.name (t 18) _ refl))
    (inr (inr (inr (inr (inl (refl, refl)))))) (primary-sum (IsPrimary.name (t 20) _ refl))))) (inl (refl, refl))
    (IsNegated.plain (IsCompared.compared {ts = ts 22 3} {us = ts 26 3} (t 25) _
    (IsChain.more {ts = ts 22 1} {us = ts 24 1} (t 23) _ (primary-sum (IsPrimary.name (t 22) _ refl)) (inl (refl, refl))
    (primary-product (IsPrimary.number (t 24) _ _ refl))) (inr (inr (inr (inr (inr (inl (refl, refl)))))))
    (IsChain.alone (IsChain.more {ts = ts 26 1} {us = ts 28 1} (t 27) _ (primary-product (IsPrimary.number (t 26) _ _ refl)) (inl (refl, refl))
    (primary-signed (IsPrimary.name (t 28) _ refl))))))))
