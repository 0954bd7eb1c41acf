use Rattle.std.proofs.Common.{All, Contains, ◌⊎◌, ◌≡◌, ◌+◌, ◌++◌, [], ◌∷◌, take, sym, ap, ◌∙◌, subst, arith}
use Rattle.std.proofs.lemmas.List.{take_all}
use Rattle.std.proofs.lemmas.List.Elements.{same_from_all_zip}
use Rattle.ras_index.proofs.Ready.{one_more_missing, one_more_there}
use Rattle.ras_index.specs.Slots.{places_of}
use Rattle.ras_index.proofs.room.missing.Goals as goal
use Rattle.ras_index.proofs.room.missing.Goals.{in-Err+in_ok-clone+in_ok-push, in_default}

pub returns : goal.returns
returns g c =
    subst (All (λ place. Contains (places_of c.args.slots.now) place.items ⊎ Contains c.loop-place.missing.items place))
    (take_all c.loop-place.place-index c.args.places.now (omega (arith, c.loop-place-test.false))) c.loop-place.invariant

pub loop-place-preserved : goal.loop-place-preserved
loop-place-preserved g c =
    let before = c.loop-place.invariant in
    elim c.match-find.branch [
      | in-Err+in_ok-clone+in_ok-push w ↦
          let same : w.in_ok-clone.field-0 ≡ c.place-item.result = ap (λ items. record { items = items })
          (same_from_all_zip _ c.place-item.result.items w.in_ok-clone.field-0.items w.in_ok-clone.ensures.cases (λ x y is. is)) in
          let is : c.match-find.missing.items ≡ c.loop-place.missing.items ++ c.place-item.result ∷ [] = ap (λ missing. missing.items) w.missing-is
          ∙ w.in_ok-push.ensures.items ∙ ap (λ place. c.loop-place.missing.items ++ place ∷ []) same in
          subst (λ missing. All (λ place. Contains (places_of c.args.slots.now) place.items ⊎ Contains missing place) (take (c.loop-place.place-index + 1) c.args.places.now)) (sym is)
          (one_more_missing c.args.slots.now c.args.places.now c.loop-place.missing.items c.loop-place.place-index c.place-item.result c.loop-place-test.true c.place-item.is before)
      | in_default w ↦
          subst (λ missing. All (λ place. Contains (places_of c.args.slots.now) place.items ⊎ Contains missing.items place)
          (take (c.loop-place.place-index + 1) c.args.places.now)) (sym w.missing-is)
          (one_more_there c.args.slots.now c.args.places.now c.loop-place.missing.items c.loop-place.place-index c.place-item.result w.in_default.field-0
          c.loop-place-test.true c.place-item.is before w.in_default.ensures.found)
    ]
