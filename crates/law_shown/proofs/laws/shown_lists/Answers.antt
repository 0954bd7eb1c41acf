use Rattle.law_shown.proofs.Consequences.{same_fourth, same_needs, same_second, same_third}
use Rattle.law_shown.proofs.laws.shown_lists.Goals as goal

pub returns-clause-needs : goal.returns-clause-needs
returns-clause-needs c = same_needs

pub returns-clause-second : goal.returns-clause-second
returns-clause-second c = same_second

pub returns-clause-third : goal.returns-clause-third
returns-clause-third c = same_third

pub returns-clause-fourth : goal.returns-clause-fourth
returns-clause-fourth c = same_fourth
