-- What the writes of a statement are made into.
use Rattle.std.specs.Prelude.{◌≡◌, ℕ, List, map, false}
use Rattle.ras_store.specs.declared.change.Change.{Change}
use Rattle.ras_store.specs.declared.write.Write.{Write}
use Rattle.spec_statements.specs.Limits.{is_select}
use Rattle.spec_statements.specs.Statement.{Request}
use Rattle.spec_views.specs.Holdings.{Holdings}
use Rattle.law_work.specs.ChangesFor.{changes_for, number_done}
use Rattle.law_work.specs.Replacements.{replacement_of}
use Rattle.law_work.specs.Sound.{AreSound}

-- changes that replace what the writes stand for, and the number of the answer
pub record AreMade (request : Request) (holdings : Holdings) (writes : List Write) (changes : List Change) (number : ℕ) : Type 0 where
  pub replaced : map replacement_of changes ≡ changes_for request holdings writes
  pub counted : number ≡ number_done request holdings writes
  pub sound : AreSound request holdings writes
  pub no_select : is_select request ≡ false
