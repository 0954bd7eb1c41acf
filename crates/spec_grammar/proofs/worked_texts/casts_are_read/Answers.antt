use Rattle.std.specs.Prelude.{ℕ, List, codes}
use Rattle.std.proofs.Common.{refl, inl, inr}
use Rattle.spec_grammar.specs.Tokens.{Token, lexed}
use Rattle.spec_grammar.specs.Grammar.{signed, IsChain, IsBetween, IsAtom, IsPrimary, IsPart, IsSigned, IsForm}
use Rattle.spec_grammar.proofs.Levels.{nth, cut, up, product-any, primary-signed}
use Rattle.spec_grammar.proofs.worked_texts.casts_are_read.Goals as goal

pub returns : goal.returns
returns c =
    let tokens : List Token = (lexed (codes "select (bool)(boolean)(octet)(char)(short)(ushort)(long)(ulong)(wide)(unsigned short)-(unsigned long)a.r * b")).tokens in
    let t : ℕ → Token = nth tokens in
    let ts : ℕ → ℕ → List Token = cut tokens in
    IsForm.select (t 0) refl (product-any (IsChain.more {ts = ts 1 39} {us = ts 41 1} (t 40) _
    (IsChain.alone (IsSigned.cast {ts = ts 1 3} {us = ts 4 36} (IsBetween.between {ts = ts 2 1} (t 1) (t 3) refl (IsAtom.one_word (t 2) _ (inl (refl, refl))) refl)
    (up signed _ _ (IsSigned.cast {ts = ts 4 3} {us = ts 7 33}
    (IsBetween.between {ts = ts 5 1} (t 4) (t 6) refl (IsAtom.one_word (t 5) _ (inr (inl (refl, refl)))) refl)
    (up signed _ _ (IsSigned.cast {ts = ts 7 3} {us = ts 10 30}
    (IsBetween.between {ts = ts 8 1} (t 7) (t 9) refl (IsAtom.one_word (t 8) _ (inr (inr (inl (refl, refl))))) refl)
    (up signed _ _ (IsSigned.cast {ts = ts 10 3} {us = ts 13 27}
    (IsBetween.between {ts = ts 11 1} (t 10) (t 12) refl (IsAtom.one_word (t 11) _ (inr (inr (inr (inl (refl, refl)))))) refl)
    (up signed _ _ (IsSigned.cast {ts = ts 13 3} {us = ts 16 24}
    (IsBetween.between {ts = ts 14 1} (t 13) (t 15) refl (IsAtom.one_word (t 14) _ (inr (inr (inr (inr (inl (refl, refl))))))) refl)
    (up signed _ _ (IsSigned.cast {ts = ts 16 3} {us = ts 19 21}
    (IsBetween.between {ts = ts 17 1} (t 16) (t 18) refl (IsAtom.one_word (t 17) _ (inr (inr (inr (inr (inr (inl (refl, refl)))))))) refl)
    (up signed _ _ (IsSigned.cast {ts = ts 19 3} {us = ts 22 18}
    (IsBetween.between {ts = ts 20 1} (t 19) (t 21) refl (IsAtom.one_word (t 20) _ (inr (inr (inr (inr (inr (inr (inl (refl, refl))))))))) refl)
    (up signed _ _ (IsSigned.cast {ts = ts 22 3} {us = ts 25 15}
    (IsBetween.between {ts = ts 23 1} (t 22) (t 24) refl (IsAtom.one_word (t 23) _ (inr (inr (inr (inr (inr (inr (inr (inl (refl, refl)))))))))) refl)
    (up signed _ _ (IsSigned.cast {ts = ts 25 3} {us = ts 28 12}
    (IsBetween.between {ts = ts 26 1} (t 25) (t 27) refl (IsAtom.one_word (t 26) _ (inr (inr (inr (inr (inr (inr (inr (inr (inl (refl, refl))))))))))) refl)
    (up signed _ _ (IsSigned.cast {ts = ts 28 4} {us = ts 32 8}
    (IsBetween.between {ts = ts 29 2} (t 28) (t 31) refl (IsAtom.two_words (t 29) (t 30) _ refl (inl (refl, refl))) refl)
    (up signed _ _ (IsSigned.minus (t 32) refl (up signed _ _
    (IsSigned.cast {ts = ts 33 4} {us = ts 37 3} (IsBetween.between {ts = ts 34 2} (t 33) (t 36) refl
    (IsAtom.two_words (t 34) (t 35) _ refl (inr (inl (refl, refl)))) refl)
    (up signed _ _ (IsSigned.part (IsPart.named {ts = ts 37 1} (t 38) (t 39) _ (IsPart.alone (IsPrimary.name (t 37) _ refl)) refl refl)))))))))))))))))))))))))))
    (inl (refl, refl)) (primary-signed (IsPrimary.name (t 41) _ refl))))
