use Rattle.std.proofs.Common.{◌≡◌, map, take}
use Rattle.ras_commands.specs.Checks.{script_checks}
use Rattle.ras_store.specs.Databases.{Keeps}
use Rattle.ras_store.specs.Store.{store_kept}
use Rattle.spec_expressions.specs.Database.{Database}
use Rattle.ras_commands.proofs.check.check_scripts.Given as goal

-- those of the scripts so far
abbrev pub invariant-loop-script : goal.invariant-loop-script
invariant-loop-script l = (database : Database) → Keeps l.types (store_kept l.base) database
    → l.sessions ≡ take l.script-index (map (script_checks l.types database) l.scripts)
