use Rattle.std.proofs.Common.{sym, ◌∙◌}
use Rattle.ras_kinds.proofs.TreeNames.{names_at, names_past}
use Rattle.ras_kinds.proofs.names.source_names.Goals as goal

pub returns-in-Some : goal.returns-in-Some
returns-in-Some c =
    c.as_slice.ensures
    ∙ sym (names_at c.args.place c.args.sources.now c.in-Some.source.now c.in-Some.ensures.lookup.3.0 c.in-Some.ensures.lookup.1)

pub returns-in-None : goal.returns-in-None
returns-in-None c = sym (names_past c.args.place c.args.sources.now c.in-None.ensures.lookup.3)
