use Rattle.std.specs.Prelude.{ℕ, List, [], codes}
use Rattle.std.proofs.Common.{refl, inl, inr}
use Rattle.spec_grammar.specs.Tokens.{Token, lexed}
use Rattle.spec_grammar.specs.Grammar.{IsCommaList, IsBetween, IsAfter, IsOptional, IsNamed, IsSource, IsAxis, IsPrimary, IsPart, IsForm}
use Rattle.spec_grammar.proofs.Levels.{nth, cut, part-any, primary-any}
use Rattle.spec_grammar.proofs.worked_texts.words_and_blanks_are_free.Goals as goal

pub returns : goal.returns
returns c =
    let tokens : List Token = (lexed (codes "-- all\r\nSELECT\tMin_Cells (A. r [0]) -- of one\nFrom G AS A")).tokens in
    let t : ℕ → Token = nth tokens in
    let ts : ℕ → ℕ → List Token = cut tokens in
    IsForm.select_from {ts = ts 1 9} {us = ts 11 3} {vs = []} (t 0) (t 10) refl
    (primary-any (IsPrimary.folded (t 1) _ (inr (inl (refl, refl)))
    (IsBetween.between {ts = ts 3 6} (t 2) (t 9) refl (part-any
    (IsPart.indexed {ts = ts 3 3} {us = ts 6 3} (IsPart.named {ts = ts 3 1} (t 4) (t 5) _ (IsPart.alone (IsPrimary.name (t 3) _ refl)) refl refl)
    (IsBetween.between {ts = ts 7 1} (t 6) (t 8) refl (IsCommaList.first (IsAxis.at (primary-any (IsPrimary.number (t 7) _ _ refl)))) refl))) refl))) refl
    (IsCommaList.first (IsSource.source (t 11) _ (refl, refl) (IsOptional.present (IsAfter.after (t 12) refl (IsNamed.named (t 13) _ (refl, refl)))))) IsOptional.absent
