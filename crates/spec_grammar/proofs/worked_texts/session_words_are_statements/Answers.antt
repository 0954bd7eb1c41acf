use Rattle.std.proofs.Common.{refl}
use Rattle.spec_grammar.specs.Grammar.{IsForm}
use Rattle.spec_grammar.proofs.worked_texts.session_words_are_statements.Goals as goal

pub returns-clause-begin : goal.returns-clause-begin
returns-clause-begin c = IsForm.begin _ refl

pub returns-clause-commit : goal.returns-clause-commit
returns-clause-commit c = IsForm.commit _ refl

pub returns-clause-anyway : goal.returns-clause-anyway
returns-clause-anyway c = IsForm.commit_anyway _ _ refl refl

pub returns-clause-abort : goal.returns-clause-abort
returns-clause-abort c = IsForm.abort _ refl
