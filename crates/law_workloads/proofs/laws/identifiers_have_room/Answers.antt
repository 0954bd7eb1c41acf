use Rattle.law_workloads.proofs.Programs.{room-of}
use Rattle.law_workloads.proofs.laws.identifiers_have_room.Goals as goal

pub returns : goal.returns
returns c = room-of
