use Rattle.ras_store.proofs.StoredTiles.{stored-box, stored-cells, stored-places}
use Rattle.ras_store.proofs.laws.tiles_are_those_of_the_database.Goals as goal

pub returns-clause-places : goal.returns-clause-places
returns-clause-places c = stored-places

pub returns-clause-boxes : goal.returns-clause-boxes
returns-clause-boxes c = stored-box

pub returns-clause-cells : goal.returns-clause-cells
returns-clause-cells c = stored-cells
