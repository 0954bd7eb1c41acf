use Rattle.law_views.proofs.Seen.{seen_answers, seen_early}
use Rattle.law_views.proofs.laws.views_fix_the_answer.Goals as goal

pub returns-clause-answers : goal.returns-clause-answers
returns-clause-answers c = seen_answers

pub returns-clause-early : goal.returns-clause-early
returns-clause-early c = seen_early
