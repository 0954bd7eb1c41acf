-- Readers of several forms of statements.
use Rattle.ras_syntax.specs.declared.expr.Expr.{Expr}
use Rattle.ras_syntax.specs.declared.statement.StatementForm.{StatementForm}
use Rattle.ras_syntax.specs.declared.statement.StatementForm.TheVariants as statements
use Rattle.ras_syntax.specs.declared.statement.Word.TheVariants as words
use Rattle.spec_grammar.specs.Grammar.{w, Level}
use Rattle.law_grammar.specs.Readers.{Reader, exactly, give, accept_or, accept}
use Rattle.law_grammar.specs.Reading.{create_rest, drop_rest, begin_rest, commit_rest}

-- word := "begin" |[ "retry" number ]| | "commit" |[ "anyway" ]| | "abort"
abbrev pub word_form : (Level → Reader Expr) → Reader StatementForm
word_form E = accept_or (exactly (w "begin")) (λ k. begin_rest E)
    (accept_or (exactly (w "commit")) (λ k. commit_rest E)
    (accept (exactly (w "abort")) (λ k. give (statements.Word words.Abort))))

-- create | drop | word
abbrev pub short_form : (Level → Reader Expr) → Reader StatementForm
short_form E = accept_or (exactly (w "create")) (λ k. create_rest E) (accept_or (exactly (w "drop")) (λ k. drop_rest E) (word_form E))
