use Rattle.std.proofs.Common.{◌≡◌, ◌++◌, [], ◌∷◌, None, length, reverse, take, drop, Contains, refl, sym, ap, subst, ◌∙◌, arith}
use Rattle.std.specs.List.{AllByRecursion}
use Rattle.std.specs.List.Sorted.{IsStrictlySortedBy}
use Rattle.std.specs.declared.cmp.Ordering.TheVariants.{Less}
use Rattle.ras_index.specs.Index.{row_major}
use Rattle.ras_index.specs.Slots.{places_of}
use Rattle.std.proofs.lemmas.List.{nil_from_length}
use Rattle.ras_index.proofs.Ready.{IsSpread, spread-start, spread-there, spread-made, slots_ascend, all_made, Contains-slice_get}
use Rattle.ras_index.proofs.room.insert_all.Goals as goal

pub loop-place-init : goal.loop-place-init
loop-place-init g c =
    record {
      spread = subst (λ above. IsSpread c.args.slots.now.items c.args.missing.items c.args.slots.now.items (reverse above) c.args.missing.items) (sym c.requires.none_above)
          (spread-start c.args.slots.now.items c.args.missing.items c.requires.sorted c.requires.rising);
      room = omega (arith, c.requires.room, c.args.above.now.ok.0, ap length c.requires.none_above);
      room_above = omega (arith, c.requires.room_above, c.args.above.now.ok.0, ap length c.requires.none_above);
    }

pub find-requires : goal.find-requires
find-requires g c =
    record {
      sorted = subst (λ slots. IsStrictlySortedBy row_major (places_of slots)) (sym c.as_slice.ensures.value)
          (slots_ascend c.loop-place.slots.items (reverse c.loop-place.above.items) c.loop-place.invariant.spread.sorted);
    }

pub loop-place-preserved-in-Err : goal.loop-place-preserved-in-Err
loop-place-preserved-in-Err g c =
    let spread = subst (IsSpread c.args.slots.now.items c.args.missing.items c.loop-place.slots.items (reverse c.loop-place.above.items)) c.in-Some.ensures.items
    c.loop-place.invariant.spread in
    let below = subst (λ slots. AllByRecursion (λ q. row_major q c.in-Some.place.items ≡ Less) (take c.in-Err.end (places_of slots))) c.as_slice.ensures.value c.in-Err.ensures.below in
    let above = subst (λ slots. AllByRecursion (λ q. row_major c.in-Some.place.items q ≡ Less) (drop c.in-Err.end (places_of slots))) c.as_slice.ensures.value c.in-Err.ensures.above in
    let made = spread-made c.args.slots.now.items c.args.missing.items c.loop-place.slots.items (reverse c.loop-place.above.items) c.pop.new.self.items
    (record { place = c.in-Some.place; value = None }) c.in-Err.end refl spread below above in
    let slots = c.push_reserved.ensures.items ∙ ap (λ xs. xs ++ record { place = c.in-Some.place; value = None } ∷ []) c.lift.ensures.below in
    record {
      spread = subst (λ xs. IsSpread c.args.slots.now.items c.args.missing.items xs (reverse c.lift.new.above.items) c.pop.new.self.items) (sym slots)
          (subst (λ ys. IsSpread c.args.slots.now.items c.args.missing.items (take c.in-Err.end c.loop-place.slots.items
          ++ record { place = c.in-Some.place; value = None } ∷ []) ys c.pop.new.self.items) (sym c.lift.ensures.lifted) made);
      room = omega (
        arith,
        c.loop-place.invariant.room,
        c.in-Some.ensures.len,
        c.lift.ensures.lengths,
        c.lift.ensures.capacity,
        c.push_reserved.ensures.len,
        c.push_reserved.ensures.capacity,
      );
      room_above = omega (arith, c.loop-place.invariant.room_above, c.in-Some.ensures.len, c.lift.ensures.lengths, c.lift.ensures.capacity_above, c.push_reserved.ensures.len);
    }

pub loop-place-preserved : goal.loop-place-preserved
loop-place-preserved g c =
    let spread = subst (IsSpread c.args.slots.now.items c.args.missing.items c.loop-place.slots.items (reverse c.loop-place.above.items)) c.in-Some.ensures.items
    c.loop-place.invariant.spread in
    let there = subst (λ slots. Contains (places_of slots) c.in-Some.place.items) c.as_slice.ensures.value
    (Contains-slice_get (places_of c.as_slice.result.now) c.in_default-find.field-0 c.in-Some.place.items c.in_default-find.ensures.found) in
    record {
      spread = spread-there c.args.slots.now.items c.args.missing.items c.loop-place.slots.items (reverse c.loop-place.above.items) c.pop.new.self.items c.in-Some.place spread there;
      room = omega (arith, c.loop-place.invariant.room, c.in-Some.ensures.len);
      room_above = omega (arith, c.loop-place.invariant.room_above, c.in-Some.ensures.len);
    }

pub returns-clause-made : goal.returns-clause-made
returns-clause-made g c =
    all_made c.args.slots.now.items c.args.missing.items c.loop-place.slots.items (reverse c.loop-place.above.items)
    (subst (IsSpread c.args.slots.now.items c.args.missing.items c.loop-place.slots.items (reverse c.loop-place.above.items))
    (nil_from_length c.loop-place.missing.items (omega (arith, c.in_default.ensures.cases, c.loop-place.missing.ok.0))) c.loop-place.invariant.spread)
