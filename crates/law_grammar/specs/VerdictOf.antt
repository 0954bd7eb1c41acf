-- The verdict on a text, as it is computed: the tokens are read up to the first one that makes them too heavy.
use Rattle.std.specs.Prelude.{ℕ, ◌-◌, nat_le, true, false, List, [], ◌∷◌, length, Option, Some, None, Result, Ok, Err}
use Rattle.ras_syntax.specs.declared.faults.SyntaxFault.{SyntaxFault}
use Rattle.ras_syntax.specs.declared.faults.SyntaxFault.TheVariants.{Unexpected, TooDeep}
use Rattle.ras_syntax.specs.declared.statement.Statement.{Statement}
use Rattle.ras_syntax.specs.declared.statement.StatementForm.{StatementForm}
use Rattle.spec_grammar.specs.Tokens.{Text, Token, lexed}
use Rattle.spec_grammar.specs.Weight.{weight_of_kind}
use Rattle.ras_syntax.specs.declared.limits.TheConstants.{MAX_WEIGHT}
use Rattle.law_grammar.specs.Reading.{read_statement}

-- the tokens up to and with the first one with which they weigh more than a number, and that token; else all of them
abbrev pub light_front : (most : ℕ) → List Token → List Token × Option Token
light_front most [] = ([], None)
light_front most (t ∷ ts) = elim (nat_le (weight_of_kind t.kind) most) [
  | true ↦ (t ∷ (light_front (most - weight_of_kind t.kind) ts).0, (light_front (most - weight_of_kind t.kind) ts).1)
  | false ↦ (t ∷ [], Some t)
]

-- what is told where all tokens are right so far: the heavy one, else the fault behind them, else the statement, which ended too early if there is none
abbrev pub told_at_end : Text → (heavy : Option Token) → (own : Option SyntaxFault) → Option StatementForm → Result Statement SyntaxFault
told_at_end text (Some t) own form = Err (TooDeep t.from)
told_at_end text None (Some fault) form = Err fault
told_at_end text None None (Some form) = Ok (record { form = form; length = length text })
told_at_end text None None None = Err (Unexpected (length text))

abbrev pub told_of : Text → (heavy : Option Token) → (own : Option SyntaxFault) → Result StatementForm (List Token) → Result Statement SyntaxFault
told_of text heavy own (Ok form) = told_at_end text heavy own (Some form)
told_of text heavy own (Err []) = told_at_end text heavy own None
told_of text heavy own (Err (t ∷ rest)) = Err (Unexpected t.from)

abbrev pub verdict_of : Text → Result Statement SyntaxFault
verdict_of text =
    let front : List Token × Option Token = light_front MAX_WEIGHT (lexed text).tokens in
    told_of text front.1 (lexed text).fault (read_statement front.0)
