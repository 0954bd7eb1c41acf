-- Parts of expressions, without their spans.
use Rattle.std.specs.Prelude.{Bool as Truth, true, false, List, length}
use Rattle.ras_syntax.specs.declared.expr.Expr.{Expr}
use Rattle.ras_syntax.specs.declared.expr.ExprForm.{ExprForm}
use Rattle.ras_syntax.specs.declared.expr.ExprForm.TheVariants as forms
use Rattle.ras_syntax.specs.declared.expr.Part.TheVariants as parts
use Rattle.spec_grammar.specs.Tokens.{Token}
use Rattle.spec_grammar.specs.Grammar.{Level}
use Rattle.law_grammar.specs.Readers.{Reader, meant, give, mapped, accept_or, accept, turns}
use Rattle.law_grammar.specs.Reading.{name_of, plain_number_of, index_rest, part_signs, with_part}

-- behind the point: a name or a number without a suffix
abbrev pub component_form : Expr → Reader ExprForm
component_form x = accept_or name_of (λ text. give (forms.Part x (parts.Named text)))
    (accept plain_number_of (λ z. give (forms.Part x (parts.Numbered z))))

-- an index is told from a component
abbrev pub form_of_part : (Level → Reader Expr) → Expr → Truth → Reader ExprForm
form_of_part E x true = mapped (λ axes. forms.Index x axes) (index_rest E)
form_of_part E x false = component_form x

-- {{ index | "." name | "." number }}, behind a part whose tokens begin a list
abbrev pub parts_from : (Level → Reader Expr) → List Token → Expr → Reader Expr
parts_from E from x s = turns (λ x. meant part_signs) (with_part E) (length s) from x s
