use Rattle.std.specs.Prelude.{ℕ, List, [], codes}
use Rattle.std.proofs.Common.{refl, inl, inr}
use Rattle.spec_grammar.specs.Tokens.{Token, lexed}
use Rattle.spec_grammar.specs.Grammar.{IsBetween, IsAfter, IsOptional, IsNamed, IsSource, IsPrimary, IsPart, IsForm}
use Rattle.spec_grammar.proofs.Levels.{nth, cut, part-any, primary-any}
use Rattle.spec_grammar.proofs.worked_texts.collections_are_created_and_emptied.Goals as goal

pub returns-clause-create : goal.returns-clause-create
returns-clause-create c = IsForm.create _ _ _ _ _ _ refl refl (refl, refl) (refl, refl)

pub returns-clause-whole : goal.returns-clause-whole
returns-clause-whole c =
    let tokens : List Token = (lexed (codes "delete from G")).tokens in
    let t : ℕ → Token = nth tokens in
    let ts : ℕ → ℕ → List Token = cut tokens in
    IsForm.delete {ts = ts 2 1} {us = []} (t 0) (t 1) refl refl (IsSource.source (t 2) _ (refl, refl) IsOptional.absent) IsOptional.absent

pub returns-clause-some : goal.returns-clause-some
returns-clause-some c =
    let tokens : List Token = (lexed (codes "DELETE\tfrom G as a where some_cells(a.1)")).tokens in
    let t : ℕ → Token = nth tokens in
    let ts : ℕ → ℕ → List Token = cut tokens in
    IsForm.delete {ts = ts 2 3} {us = ts 5 7} (t 0) (t 1) refl refl
    (IsSource.source (t 2) _ (refl, refl) (IsOptional.present (IsAfter.after (t 3) refl (IsNamed.named (t 4) _ (refl, refl)))))
    (IsOptional.present (IsAfter.after (t 5) refl (primary-any
    (IsPrimary.folded (t 6) _ (inr (inr (inr (inr (inl (refl, refl))))))
    (IsBetween.between {ts = ts 8 3} (t 7) (t 11) refl (part-any (IsPart.numbered {ts = ts 8 1} (t 9) (t 10) _ (IsPart.alone (IsPrimary.name (t 8) _ refl)) refl refl)) refl)))))
