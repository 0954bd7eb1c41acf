use Rattle.std.proofs.Common.{◌≡◌, ◌⊎◌, ◌∙◌, ap, sym, inl, inr, true, false}
use Rattle.std.specs.Result.{IsOk, OnOk}
use Rattle.std.specs.Prelude.{Result, Ok, Err, insert}
use Rattle.smallvec.specs.SmallVec.{HasRoomFor}
use Rattle.ras_locks.specs.Holders.{has_place, is_owner_at, raised}
use Rattle.ras_locks.proofs.Places.{is_owner_at-place, place_in, with_holder-inserted, with_holder-raised}
use Rattle.ras_locks.proofs.holders.hold.Goals as goal

on_ok : {A E : Type 0} (r : Result A E) (P : Type 0) → OnOk r P → IsOk r → P
on_ok (Ok x) P h is = h
on_ok (Err e) P h is = absurd cc

pub returns-then-is_owner_at : goal.returns-then-is_owner_at
returns-then-is_owner_at c =
    let place : c.place_of-place.result ≡ place_in c.args.owner c.args.holders.now.items = c.place_of-place.ensures.place ∙ ap (place_in c.args.owner) c.as_slice.ensures in
    let has : has_place c.args.owner c.args.holders.now.items ≡ true =
    sym (is_owner_at-place c.args.owner c.args.holders.now.items) ∙ ap (is_owner_at c.args.owner c.args.holders.now.items) (sym place)
    ∙ ap (λ hs. is_owner_at c.args.owner hs c.place_of-place.result) (sym c.as_slice-2.ensures) ∙ sym c.is_owner_at.ensures ∙ c.if-is_owner_at.true in
    c.raise.ensures.items ∙ ap (raised c.args.mode c.args.holders.now.items) place ∙ with_holder-raised c.args.owner c.args.mode c.args.holders.now.items has

pub returns-else-is_owner_at : goal.returns-else-is_owner_at
returns-else-is_owner_at c =
    let place : c.place_of-place.result ≡ place_in c.args.owner c.args.holders.now.items = c.place_of-place.ensures.place ∙ ap (place_in c.args.owner) c.as_slice.ensures in
    let has : has_place c.args.owner c.args.holders.now.items ≡ false =
    sym (is_owner_at-place c.args.owner c.args.holders.now.items) ∙ ap (is_owner_at c.args.owner c.args.holders.now.items) (sym place)
    ∙ ap (λ hs. is_owner_at c.args.owner hs c.place_of-place.result) (sym c.as_slice-2.ensures) ∙ sym c.is_owner_at.ensures ∙ c.if-is_owner_at.false in
    let room : HasRoomFor c.args.holders.now 1 = elim c.requires [ inl stands ↦ absurd (let clash : true ≡ false = sym stands ∙ has in cc) | inr room ↦ room ] in
    on_ok c.insert-room_was_reserved.result _ c.insert-room_was_reserved.ensures.ok (c.insert-room_was_reserved.ensures.succeeds room)
    ∙ ap (λ n. insert c.args.holders.now.items n (record { owner = c.args.owner; mode = c.args.mode })) place ∙ with_holder-inserted c.args.owner c.args.mode c.args.holders.now.items has
