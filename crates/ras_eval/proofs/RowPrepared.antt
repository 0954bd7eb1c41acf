-- What an expression that is prepared for a row gives at each point.
use Rattle.std.proofs.Common.{◌≡◌, ℤ, List, [], map, refl, sym}
use Rattle.std.proofs.Math.Path.{fun_ext}
use Rattle.spec_expressions.specs.Database.{Member}
use Rattle.spec_expressions.specs.Eval.{cell_at}
use Rattle.spec_expressions.specs.Shape.{Box}
use Rattle.spec_expressions.specs.Tree.{Tree}
use Rattle.spec_statements.specs.Rows.{environment_of}
use Rattle.ras_values.specs.Nodes.{NodeCells}
use Rattle.ras_values.specs.Prepared.{IsPrepared, domain_of_member}

pub prepared_for_row : (row : List Member) (domains : List Box) (t : Tree) (cells : NodeCells) → domains ≡ map domain_of_member row → IsPrepared row domains [] t cells
    → cells row [] ≡ cell_at (environment_of row) t
prepared_for_row row domains t cells are h = fun_ext (λ p. h.same (sym are) [] refl p)
