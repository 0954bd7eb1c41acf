use Rattle.std.proofs.Common.{◌∙◌, rules, tests}
use Rattle.std.proofs.lemmas.Iterator.{YieldsList-from_slice, YieldsList-from_zip}
use Rattle.std.proofs.lemmas.Iterator.Search.{all_from_yields_List}
use Rattle.ras_cells.specs.Atoms.{is_in_range}
use Rattle.ras_cells.proofs.Ranges.{list_all-zip}
use Rattle.ras_cells.proofs.stored.are_in_range.Goals as goal

pub returns : goal.returns
returns c =
    all_from_yields_List (λ p. is_in_range p.0 p.1) c.all.new.self _ _ c.all.ensures.ran
    (YieldsList-from_zip (YieldsList-from_slice c.args.atoms.now cc) (YieldsList-from_slice c.args.numbers.now cc)) (λ x b q k. search (rules, tests))
    ∙ list_all-zip c.args.atoms.now c.args.numbers.now c.requires
