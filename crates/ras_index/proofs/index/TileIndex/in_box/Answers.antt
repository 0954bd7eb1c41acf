use Rattle.std.proofs.Common.{◌≡◌, ◌+◌, ◌++◌, [], ◌∷◌, cond, map, take, Contains, ◌↔◌, sym, ap, subst, ◌∙◌, arith}
use Rattle.std.specs.List.Sorted.{IsStrictlySortedBy}
use Rattle.std.specs.Map.{keys_of}
use Rattle.ras_domain.specs.Region.{IsIn}
use Rattle.std.proofs.lemmas.List.{take_all, append-nil, map-append}
use Rattle.std.proofs.lemmas.List.Elements.{same_from_all_zip}
use Rattle.ras_index.specs.Index.{row_major, places_in}
use Rattle.ras_index.specs.Slots.{entries_of}
use Rattle.ras_index.proofs.Boxes.{sorted-places_in, Contains-places_in, places_in_more}
use Rattle.ras_index.proofs.Slots.{sorted-entries}
use Rattle.ras_index.proofs.index.TileIndex.in_box.Goals as goal
use Rattle.ras_index.proofs.index.TileIndex.in_box.Goals.{then-is_filled_in+in_ok-clone+in_ok-push, else-is_filled_in}

pub returns-clause-listed : goal.returns-clause-listed
returns-clause-listed g c =
    c.loop-slot.invariant
    ∙ ap (λ slots. places_in c.args.places.now (entries_of slots)) (take_all c.loop-slot.slot-index c.span-slot-items.result.now (omega (arith, c.loop-slot-test.false)))
    ∙ c.span-slot-items.ensures
    ∙ ap (λ slots. places_in c.args.places.now (entries_of slots)) c.as_slice.ensures.value
    ∙ ap (λ index. places_in c.args.places.now index.entries) c.self.view_is

pub returns-clause-ascending : goal.returns-clause-ascending
returns-clause-ascending g c =
    subst (IsStrictlySortedBy row_major) (sym (returns-clause-listed g c))
    (sorted-places_in c.args.places.now row_major c.args.self.now.entries
    (subst (λ index. IsStrictlySortedBy row_major (keys_of index.entries)) c.self.view_is (sorted-entries row_major c.self.inside.slots.items c.self.invariant)))

pub returns-clause-within : goal.returns-clause-within
returns-clause-within g c = λ q.
    subst (λ places. Contains places q ↔ (Contains (keys_of c.args.self.now.entries) q × IsIn q c.args.places.now)) (sym (returns-clause-listed g c))
    (Contains-places_in c.args.places.now c.args.self.now.entries q)

pub loop-slot-preserved : goal.loop-slot-preserved
loop-slot-preserved g c =
    let more : places_in c.args.places.now (entries_of (take (c.loop-slot.slot-index + 1) c.span-slot-items.result.now)) ≡ places_in c.args.places.now
    (entries_of (take c.loop-slot.slot-index c.span-slot-items.result.now))
    ++ places_in c.args.places.now (entries_of (c.slot-item.result ∷ [])) = places_in_more c.args.places.now c.span-slot-items.result.now c.loop-slot.slot-index
    c.slot-item.result c.loop-slot-test.true c.slot-item.is in
    let one = c.is_filled_in.ensures in
    elim c.if-is_filled_in.branch [
      | then-is_filled_in+in_ok-clone+in_ok-push w ↦
          let same : w.in_ok-clone.field-0.items ≡ c.slot-item.result.place.items = same_from_all_zip _ c.slot-item.result.place.items w.in_ok-clone.field-0.items
          w.in_ok-clone.ensures.cases (λ x y is. is) in
          ap (λ found. map (λ place. place.items) found.items) w.found-is ∙ ap (map (λ place. place.items)) w.in_ok-push.ensures.items
          ∙ map-append (λ place. place.items) c.loop-slot.found.items (w.in_ok-clone.field-0 ∷ [])
          ∙ ap (λ place. map (λ p. p.items) c.loop-slot.found.items ++ place ∷ []) same
          ∙ ap (λ places. places ++ c.slot-item.result.place.items ∷ []) c.loop-slot.invariant
          ∙ ap (λ places. places_in c.args.places.now (entries_of (take c.loop-slot.slot-index c.span-slot-items.result.now)) ++ places)
          (sym (one ∙ ap (λ b. cond b (c.slot-item.result.place.items ∷ []) []) w.if-is_filled_in.true))
          ∙ sym more
      | else-is_filled_in w ↦
          ap (λ found. map (λ place. place.items) found.items) w.found-is ∙ c.loop-slot.invariant
          ∙ sym (append-nil (places_in c.args.places.now (entries_of (take c.loop-slot.slot-index c.span-slot-items.result.now))))
          ∙ ap (λ places. places_in c.args.places.now (entries_of (take c.loop-slot.slot-index c.span-slot-items.result.now)) ++ places)
          (sym (one ∙ ap (λ b. cond b (c.slot-item.result.place.items ∷ []) []) w.if-is_filled_in.false))
          ∙ sym more
    ]
