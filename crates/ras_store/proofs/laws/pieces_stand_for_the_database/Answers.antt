use Rattle.std.proofs.Common.{ap, ◌∙◌}
use Rattle.std.specs.Option.{option_map}
use Rattle.ras_store.specs.Databases.{holding_kept}
use Rattle.ras_store.proofs.laws.pieces_stand_for_the_database.Goals as goal

pub returns : goal.returns
returns c = λ types kept taken list database keeps same name names. ap (option_map holding_kept) (same name names) ∙ keeps name
