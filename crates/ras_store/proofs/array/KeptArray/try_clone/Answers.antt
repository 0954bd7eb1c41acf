use Rattle.std.proofs.Common.{◌≡◌, Some, sym, ap, ◌∙◌}
use Rattle.ras_store.proofs.Tiles.{value-shared}
use Rattle.ras_store.proofs.array.KeptArray.try_clone.Goals as goal
use Rattle.ras_store.proofs.array.KeptArray.try_clone.Goals.{in-Some, in-None}

pub returns : goal.returns
returns c =
    let domain : c.match-self.domain ≡ c.args.self.now.domain =
    elim c.match-self.branch [ in-Some w ↦ w.domain-is ∙ ap Some w.copy_of.ensures ∙ sym w.in-Some.is | in-None w ↦ w.domain-is ∙ sym w.in-None.is ] in
    record {
      domain = domain;
      tiles = λ place. value-shared c.args.self.now.tiles.entries c.in_ok-tiles.tiles.entries place c.in_ok-tiles.ensures.clones;
    }
