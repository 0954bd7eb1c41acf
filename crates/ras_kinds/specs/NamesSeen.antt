-- What is asked of a name among others.
use Rattle.std.specs.Prelude.{Bool}
use Rattle.spec_expressions.specs.Tree.{NameOf, is_same_name}

-- the same name. The word stays shut where lists of names are gone through
unfoldable pub is_name_seen : NameOf → NameOf → Bool
is_name_seen name other = is_same_name name other
