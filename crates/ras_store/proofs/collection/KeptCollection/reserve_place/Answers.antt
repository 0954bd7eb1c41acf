use Rattle.std.proofs.Common.{◌≡◌, Some, refl, sym, ap, subst, ◌∙◌}
use Rattle.std.specs.BTreeMap.{get}
use Rattle.std.specs.Option.{IsSomeAnd, option_copied_mut}
use Rattle.std.specs.Ordering.{nat_cmp}
use Rattle.ras_store.specs.declared.array.KeptArray.{KeptArray}
use Rattle.ras_store.specs.Kept.{KeepsRoom}
use Rattle.ras_store.proofs.collection.KeptCollection.reserve_place.Goals as goal

pub returns-clause-arrays : goal.returns-clause-arrays
returns-clause-arrays c =
    let w : KeptArray = record { domain = c.unwrap-array.result.now.domain; tiles = c.reserve_for.new.self } in
    let updates = (c.get_mut.follows.holds w).3 c.requires in
    let there : get nat_cmp c.args.self.now.arrays c.args.oid ≡ Some c.unwrap-array.result.now =
    sym c.get_mut.ensures.value ∙ ap option_copied_mut c.unwrap-array.ensures in
    let way : KeepsRoom c.unwrap-array.result.now w =
    record { domain = refl; tiles = c.reserve_for.ensures.entries; ready = c.reserve_for.ensures.ready } in
    record {
      here = λ array is.
          let same : c.unwrap-array.result.now ≡ array = let e : Some c.unwrap-array.result.now ≡ Some array = sym there ∙ is in cc in
          subst (λ o. IsSomeAnd o (KeepsRoom array)) (sym updates.1) (subst (λ a. KeepsRoom a w) same way);
      others = updates.2;
    }
