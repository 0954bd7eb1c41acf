use Rattle.law_forms.proofs.KindsOfParts.{part-kinds}
use Rattle.law_forms.proofs.laws.forms_tell_the_kinds_of_their_parts.Goals as goal

pub returns : goal.returns
returns c = part-kinds
