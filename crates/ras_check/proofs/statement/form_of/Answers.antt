use Rattle.std.proofs.Common.{refl}
use Rattle.ras_check.proofs.Statements.{update-checked}
use Rattle.ras_check.proofs.statement.form_of.Goals as goal

pub returns-in-Select : goal.returns-in-Select
returns-in-Select c = rw c.in-Select.is (rw c.as_slice.ensures at c.select.ensures)

pub returns-in-Insert : goal.returns-in-Insert
returns-in-Insert c = rw c.in-Insert.is c.insert.ensures

pub returns-in-Delete : goal.returns-in-Delete
returns-in-Delete c = rw c.in-Delete.is c.delete.ensures

pub returns-in-Update : goal.returns-in-Update
returns-in-Update c = rw c.in-Update.is
    (update-checked c.args.catalog.now c.args.length c.in-Update.source c.in-Update.set c.in-Update.axes c.in-Update.target c.in-Update.body c.in-Update.cond
    c.updated_source-source.ensures c.update.ensures)

pub returns-in-Create : goal.returns-in-Create
returns-in-Create c = rw c.in-Create.is c.create.ensures

pub returns-in-Drop : goal.returns-in-Drop
returns-in-Drop c = rw c.in-Drop.is c.dropped.ensures

pub returns-in-Word : goal.returns-in-Word
returns-in-Word c = rw c.in-Word.is (record { tells = refl })
