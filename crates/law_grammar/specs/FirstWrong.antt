-- The first token with which no statement begins.
use Rattle.std.specs.Prelude.{◌≡◌, List, [], ◌∷◌, ◌++◌}
use Rattle.ras_syntax.specs.declared.statement.StatementForm.{StatementForm}
use Rattle.spec_grammar.specs.Tokens.{Token}
use Rattle.spec_grammar.specs.Grammar.{IsStatement}
use Rattle.spec_grammar.specs.Verdict.{BeginsStatement}

-- no statement goes on with the next of these tokens; where there is none, the tokens before are no statement
abbrev pub GoesOnWrongly : (before rest : List Token) → Type 0
GoesOnWrongly before [] = (form : StatementForm) → ¬ IsStatement before form
GoesOnWrongly before (t ∷ rest) = ¬ BeginsStatement (before ++ t ∷ [])

-- the tokens are right up to the rest, and wrong there
pub record IsFirstWrong (ts rest : List Token) : Type 0 where
  pub before : List Token
  pub is : ts ≡ before ++ rest
  pub begins : BeginsStatement before
  pub wrong : GoesOnWrongly before rest
