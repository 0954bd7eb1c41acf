use Rattle.std.proofs.Common.{◌≡◌, map, take}
use Rattle.ras_commands.specs.Checks.{text_check}
use Rattle.ras_store.specs.Databases.{Keeps}
use Rattle.ras_store.specs.Store.{store_kept}
use Rattle.spec_expressions.specs.Database.{Database}
use Rattle.ras_commands.proofs.check.check_texts.Given as goal

-- those of the texts so far
abbrev pub invariant-loop-text : goal.invariant-loop-text
invariant-loop-text l = (database : Database) → Keeps l.types (store_kept l.base) database → l.checks ≡ take l.text-index (map (text_check l.types database) l.texts)
