-- What a fold and a concatenation go on with.
use Rattle.std.specs.Prelude.{List, ◌∷◌}
use Rattle.ras_syntax.specs.declared.span.Spanned.{Spanned}
use Rattle.ras_syntax.specs.declared.expr.Expr.{Expr}
use Rattle.ras_syntax.specs.declared.expr.ExprForm.{ExprForm}
use Rattle.ras_syntax.specs.declared.expr.ExprForm.TheVariants as forms
use Rattle.ras_syntax.specs.declared.expr.DomainExpr.{DomainExpr}
use Rattle.ras_syntax.specs.declared.expr.FoldOp.{FoldOp}
use Rattle.spec_grammar.specs.Grammar.{Level, any, w}
use Rattle.law_grammar.specs.Readers.{Reader, bind, mapped, expect}
use Rattle.law_grammar.specs.Reading.{optional_after, row_read}

-- |[ "where" expr ]| "using" expr
abbrev pub fold_rest : (Level → Reader Expr) → FoldOp → Spanned → DomainExpr → Reader ExprForm
fold_rest E op x d = bind (optional_after (w "where") (E any)) (λ cond. expect (w "using") (mapped (λ e. forms.Condense op x d cond e) (E any)))

-- "with" expr {{ "with" expr }}, behind a first expression
abbrev pub with_rest : (Level → Reader Expr) → Expr → Reader (List Expr)
with_rest E x = mapped (λ xs. x ∷ xs) (row_read (w "with") (E any))
