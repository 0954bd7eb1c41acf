use Rattle.std.specs.Prelude.{ℕ, List, codes}
use Rattle.std.proofs.Common.{refl, inl, inr}
use Rattle.spec_grammar.specs.Tokens.{Token, lexed}
use Rattle.spec_grammar.specs.Grammar.{signed, IsChain, IsBetween, IsPrimary, IsSigned, IsForm}
use Rattle.spec_grammar.proofs.Levels.{nth, cut, up, sum-any, primary-signed, primary-product, primary-sum}
use Rattle.spec_grammar.proofs.worked_texts.signs_of_numbers_are_grouped.Goals as goal

pub returns : goal.returns
returns c =
    let tokens : List Token = (lexed (codes "select - -a * 2c + 3o * (4s - 5us) * b - 6l * -7ul")).tokens in
    let t : ℕ → Token = nth tokens in
    let ts : ℕ → ℕ → List Token = cut tokens in
    IsForm.select (t 0) refl (sum-any (IsChain.more {ts = ts 1 15} {us = ts 17 4} (t 16) _
    (IsChain.more {ts = ts 1 5} {us = ts 7 9} (t 6) _ (IsChain.alone
    (IsChain.more {ts = ts 1 3} {us = ts 5 1} (t 4) _ (IsChain.alone
    (IsSigned.minus (t 1) refl (up signed _ _ (IsSigned.minus (t 2) refl (up signed _ _ (primary-signed (IsPrimary.name (t 3) _ refl))))))) (inl (refl, refl))
    (primary-signed (IsPrimary.number (t 5) _ _ refl)))) (inl (refl, refl))
    (IsChain.more {ts = ts 7 7} {us = ts 15 1} (t 14) _ (IsChain.more {ts = ts 7 1} {us = ts 9 5} (t 8) _ (primary-product (IsPrimary.number (t 7) _ _ refl))
    (inl (refl, refl)) (primary-signed (IsPrimary.parentheses
    (IsBetween.between {ts = ts 10 3} (t 9) (t 13) refl (sum-any
    (IsChain.more {ts = ts 10 1} {us = ts 12 1} (t 11) _ (primary-sum (IsPrimary.number (t 10) _ _ refl)) (inr (inl (refl, refl)))
    (primary-product (IsPrimary.number (t 12) _ _ refl)))) refl)))) (inl (refl, refl)) (primary-signed (IsPrimary.name (t 15) _ refl)))) (inr (inl (refl, refl)))
    (IsChain.more {ts = ts 17 1} {us = ts 19 2} (t 18) _ (primary-product (IsPrimary.number (t 17) _ _ refl)) (inl (refl, refl))
    (IsSigned.minus (t 19) refl (up signed _ _ (primary-signed (IsPrimary.number (t 20) _ _ refl)))))))
