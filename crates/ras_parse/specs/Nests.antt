-- A function value that reads the three productions which stand inside themselves, nested less deep than a number.
use Rattle.std.specs.Prelude.{ℕ, Result}
use Rattle.std.specs.declared.alloc.Global.{Global}
use denote.Ref.{MutBor}
use Rattle.ras_syntax.specs.declared.expr.Expr.{Expr}
use Rattle.spec_grammar.specs.Grammar as grammar
use Rattle.law_grammar.specs.Reading.{reads}
use Rattle.ras_parse.specs.declared.stop.Stop.{Stop}
use Rattle.ras_parse.specs.declared.grammar.Level.{Level}
use Rattle.ras_parse.specs.declared.grammar.Level.TheVariants.{Any, Negation, Signed}
use Rattle.ras_parse.specs.Inputs.{Input, Reads}

abbrev pub level_of : Level → grammar.Level
level_of Any = grammar.any
level_of Negation = grammar.negation
level_of Signed = grammar.signed

pub record Nests (depth : ℕ) (pre : Global → MutBor Input → ℕ → Level → Type 0)
    (post : Global → MutBor Input → ℕ → Level → Result Expr Stop → MutBor Input → Type 0) : Type 0 where
  pub callable : (alloc : Global) (old : MutBor Input) (level : Level) → pre alloc old depth level
  pub reads : (alloc : Global) (old new : MutBor Input) (level : Level) (r : Result Expr Stop) → post alloc old depth level r new
      → Reads (reads depth (level_of level)) old.now r new.now
