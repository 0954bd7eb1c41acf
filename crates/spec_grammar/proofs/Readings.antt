-- Derivations of worked texts.
use Rattle.std.specs.Prelude.{ℕ, suc, pos, List, [], ◌∷◌, None, codes}
use Rattle.std.proofs.Common.{refl, inl, inr}
use Rattle.ras_cells.specs.declared.atom.Atom.TheVariants.{Wide}
use Rattle.ras_cells.specs.declared.numbers.Op2.TheVariants as two
use Rattle.ras_syntax.specs.declared.expr.Expr.{Expr}
use Rattle.ras_syntax.specs.declared.expr.ExprForm.TheVariants as forms
use Rattle.ras_syntax.specs.declared.statement.StatementForm.TheVariants as statements
use Rattle.spec_grammar.specs.Tokens.{Token, number, lexed}
use Rattle.spec_grammar.specs.Grammar.{s, Rel, Level, IsChain, IsBetween, IsPrimary, IsPart, IsSigned, IsProduct, IsSum, IsCompared, IsNegated, IsWhole, IsForm, Nested, IsExpr, IsStatement}
use Rattle.spec_grammar.specs.Worked.{token_from, spanned, expr_in}

-- a plain number from one byte to the next
abbrev pub digit : ℕ → ℕ → Token
digit z place = token_from (number (pos z) Wide) place (suc place)

abbrev pub digit_tree : ℕ → ℕ → Expr
digit_tree z place = expr_in place (suc place) (forms.Number (pos z) Wide)

module _ (E : Level → Rel Expr) where
  digit-signed : (z place : ℕ) → IsSigned E (digit z place ∷ []) (digit_tree z place)
  digit-signed z place = IsSigned.part (IsPart.alone (IsPrimary.number (digit z place) (pos z) Wide refl))

  product-sum : (ts : List Token) (x : Expr) → IsProduct E ts x → IsSum E ts x
  product-sum ts x h = IsChain.alone h

  sum-whole : (ts : List Token) (x : Expr) → IsSum E ts x → IsWhole E ts x
  sum-whole ts x h = IsWhole.overlaid (IsChain.alone (IsChain.alone (IsChain.alone (IsNegated.plain (IsCompared.alone h)))))

  digit-product : (z place : ℕ) → IsProduct E (digit z place ∷ []) (digit_tree z place)
  digit-product z place = IsChain.alone (digit-signed z place)

  digit-sum : (z place : ℕ) → IsSum E (digit z place ∷ []) (digit_tree z place)
  digit-sum z place = IsChain.alone (digit-product z place)

  pub digit-whole : (z place : ℕ) → IsWhole E (digit z place ∷ []) (digit_tree z place)
  digit-whole z place = sum-whole (digit z place ∷ []) (digit_tree z place) (digit-sum z place)

pub drop_G : IsStatement (lexed (codes "drop collection G")).tokens (statements.Drop (spanned (codes "G") 16 17))
drop_G = IsForm.drop _ _ _ _ refl refl (refl, refl)

pub select_1 : IsStatement (lexed (codes "select 1")).tokens (statements.Select (digit_tree 1 7) [] None)
select_1 = IsForm.select _ refl (1, digit-whole (Nested 0) 1 7)

pub one_and_product : IsExpr (lexed (codes "1+2*3")).tokens
    (expr_in 0 5 (forms.Binary two.Add (digit_tree 1 0) (expr_in 2 5 (forms.Binary two.Mul (digit_tree 2 2) (digit_tree 3 4)))))
one_and_product = (
  1,
  sum-whole _ _ _ (IsChain.more {ts = digit 1 0 ∷ []} {us = digit 2 2 ∷ token_from (s "*") 3 4 ∷ digit 3 4 ∷ []} (token_from (s "+") 1 2) two.Add
      (digit-sum _ 1 0) (inl (refl, refl)) (IsChain.more {ts = digit 2 2 ∷ []} {us = digit 3 4 ∷ []} (token_from (s "*") 3 4) two.Mul (digit-product _ 2 2)
      (inl (refl, refl)) (digit-signed _ 3 4))),
)

pub left_difference : IsExpr (lexed (codes "1-2-3")).tokens
    (expr_in 0 5 (forms.Binary two.Sub (expr_in 0 3 (forms.Binary two.Sub (digit_tree 1 0) (digit_tree 2 2))) (digit_tree 3 4)))
left_difference = (
  1,
  sum-whole _ _ _ (IsChain.more {ts = digit 1 0 ∷ token_from (s "-") 1 2 ∷ digit 2 2 ∷ []} {us = digit 3 4 ∷ []} (token_from (s "-") 3 4) two.Sub
      (IsChain.more {ts = digit 1 0 ∷ []} {us = digit 2 2 ∷ []} (token_from (s "-") 1 2) two.Sub (digit-sum _ 1 0) (inr (inl (refl, refl))) (digit-product _ 2 2))
      (inr (inl (refl, refl))) (digit-product _ 3 4)),
)

right_inside : Nested 1 Level.any (digit 2 3 ∷ token_from (s "-") 4 5 ∷ digit 3 5 ∷ []) (expr_in 3 6 (forms.Binary two.Sub (digit_tree 2 3) (digit_tree 3 5)))
right_inside = sum-whole _ _ _ (IsChain.more {ts = digit 2 3 ∷ []} {us = digit 3 5 ∷ []} (token_from (s "-") 4 5) two.Sub (digit-sum _ 2 3) (inr (inl (refl, refl))) (digit-product _ 3 5))

pub right_difference : IsExpr (lexed (codes "1-(2-3)")).tokens
    (expr_in 0 7 (forms.Binary two.Sub (digit_tree 1 0) (expr_in 3 6 (forms.Binary two.Sub (digit_tree 2 3) (digit_tree 3 5)))))
right_difference = (
  2,
  sum-whole _ _ _ (IsChain.more {ts =
      digit 1 0 ∷ []} {us = token_from (s "(") 2 3 ∷ digit 2 3 ∷ token_from (s "-") 4 5 ∷ digit 3 5 ∷ token_from (s ")") 6 7 ∷ []} (token_from (s "-") 1 2) two.Sub
      (digit-sum _ 1 0) (inr (inl (refl, refl)))
      (IsChain.alone (IsSigned.part (IsPart.alone (IsPrimary.parentheses
      (IsBetween.between {ts = digit 2 3 ∷ token_from (s "-") 4 5 ∷ digit 3 5 ∷ []} (token_from (s "(") 2 3) (token_from (s ")") 6 7) refl right_inside refl)))))),
)
