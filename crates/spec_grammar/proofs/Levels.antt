-- What is of one production is of those that it stands in alone; lists built from their fronts; and tokens of a list.
use Rattle.std.specs.Prelude.{ℕ, zero, suc, List, [], ◌∷◌, ◌++◌, take, drop}
use Rattle.std.proofs.Common.{subst, append_assoc}
use Rattle.ras_syntax.specs.declared.expr.Expr.{Expr}
use Rattle.spec_grammar.specs.Tokens.{TokenKind, Token}
use Rattle.spec_grammar.specs.Grammar.{Rel, Level, any, IsChain, IsRow, IsCommaList, IsSign, IsPrimary, IsPart, IsSigned, IsProduct, IsSum, IsCompared, IsNegated, IsBoth, IsEither, IsOverlaid, IsWhole, IsLevel, IsAt}
use Rattle.spec_grammar.specs.Worked.{token_from}
use Rattle.spec_grammar.proofs.Nesting.{IsLevel-IsAt}

-- ---- tokens of a list

-- the token with this number from 0
abbrev pub nth : List Token → ℕ → Token
nth [] n = token_from (TokenKind.word []) 0 0
nth (t ∷ ts) zero = t
nth (t ∷ ts) (suc n) = nth ts n

-- so many tokens from this number on
abbrev pub cut : List Token → ℕ → ℕ → List Token
cut ts from count = take count (drop from ts)

-- ---- lists

-- rows and lists with commas, built from their fronts
pub row_cons : {A : Type 0} {I : Rel A} (ts us : List Token) {x : A} {xs : List A} → I ts x → IsRow I us xs → IsRow I (ts ++ us) (x ∷ xs)
row_cons ts us p (IsRow.first q) = IsRow.more (IsRow.first p) q
row_cons {A} {I} ts us {x} p (IsRow.more {ts = vs} {us = ws} {xs = xs} {x = y} qs q) =
    subst (λ ys. IsRow I ys (x ∷ xs ++ y ∷ [])) (append_assoc ts vs ws) (IsRow.more (row_cons ts vs p qs) q)

pub comma_cons : {A : Type 0} {I : Rel A} (ts us : List Token) {x : A} {xs : List A} (c : Token)
    → I ts x → IsSign "," c → IsCommaList I us xs → IsCommaList I (ts ++ c ∷ us) (x ∷ xs)
comma_cons ts us c p comma (IsCommaList.first q) = IsCommaList.more c (IsCommaList.first p) comma q
comma_cons {A} {I} ts us {x} c p comma (IsCommaList.more {ts = vs} {us = ws} {xs = xs} {x = y} d qs comma' q) =
    subst (λ ys. IsCommaList I ys (x ∷ xs ++ y ∷ [])) (append_assoc ts (c ∷ vs) (d ∷ ws))
    (IsCommaList.more d (comma_cons ts vs c p comma qs) comma' q)

-- ---- levels

-- what is of the whole grammar inside is so itself; an X is an expression, and a primary or a part is an X
pub up : (level : Level) (ts : List Token) (x : Expr) → IsLevel IsAt level ts x → IsAt level ts x
up level ts x = (IsLevel-IsAt level ts x).0

module _ {ts : List Token} {x : Expr} where
  pub whole-any : IsWhole IsAt ts x → IsAt any ts x
  whole-any h = up any ts x h

  pub overlaid-any : IsOverlaid IsAt ts x → IsAt any ts x
  overlaid-any h = whole-any (IsWhole.overlaid h)

  pub either-any : IsEither IsAt ts x → IsAt any ts x
  either-any h = overlaid-any (IsChain.alone h)

  pub both-any : IsBoth IsAt ts x → IsAt any ts x
  both-any h = either-any (IsChain.alone h)

  pub negated-any : IsNegated IsAt ts x → IsAt any ts x
  negated-any h = both-any (IsChain.alone h)

  pub compared-any : IsCompared IsAt ts x → IsAt any ts x
  compared-any h = negated-any (IsNegated.plain h)

  pub sum-any : IsSum IsAt ts x → IsAt any ts x
  sum-any h = compared-any (IsCompared.alone h)

  pub product-any : IsProduct IsAt ts x → IsAt any ts x
  product-any h = sum-any (IsChain.alone h)

  pub signed-any : IsSigned IsAt ts x → IsAt any ts x
  signed-any h = product-any (IsChain.alone h)

  pub part-any : IsPart IsAt ts x → IsAt any ts x
  part-any h = signed-any (IsSigned.part h)

  pub primary-any : IsPrimary IsAt ts x → IsAt any ts x
  primary-any h = part-any (IsPart.alone h)

  pub part-product : IsPart IsAt ts x → IsProduct IsAt ts x
  part-product h = IsChain.alone (IsSigned.part h)

  pub part-sum : IsPart IsAt ts x → IsSum IsAt ts x
  part-sum h = IsChain.alone (part-product h)

  pub primary-signed : IsPrimary IsAt ts x → IsSigned IsAt ts x
  primary-signed h = IsSigned.part (IsPart.alone h)

  pub primary-product : IsPrimary IsAt ts x → IsProduct IsAt ts x
  primary-product h = IsChain.alone (primary-signed h)

  pub primary-sum : IsPrimary IsAt ts x → IsSum IsAt ts x
  primary-sum h = IsChain.alone (primary-product h)

  pub primary-negated : IsPrimary IsAt ts x → IsNegated IsAt ts x
  primary-negated h = IsNegated.plain (IsCompared.alone (primary-sum h))

  pub primary-both : IsPrimary IsAt ts x → IsBoth IsAt ts x
  primary-both h = IsChain.alone (primary-negated h)

  pub primary-either : IsPrimary IsAt ts x → IsEither IsAt ts x
  primary-either h = IsChain.alone (primary-both h)
