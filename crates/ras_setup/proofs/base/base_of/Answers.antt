use Rattle.std.proofs.Common.{◌≡◌, ◌+◌, ◌<◌, ◌∙◌, length, get_or, sym, arith}
use Rattle.ras_store.specs.Store.{store_kept}
use Rattle.ras_setup.proofs.Bases.{so-far-begins, so-far-fails, so-far-on}
use Rattle.ras_setup.proofs.base.base_of.Goals as goal

pub loop-place-init : goal.loop-place-init
loop-place-init g c = so-far-begins c.args.types.now c.args.texts.now (store_kept c.new-base.result) c.requires.types c.new-base.ensures

pub returns-in-Err : goal.returns-in-Err
returns-in-Err g c =
    let within : c.loop-place.place < length c.args.texts.now = c.loop-place-test.true in
    let there : get_or c.args.texts.now c.loop-place.place c.index-texts-place.result ≡ c.bytes.result.now = sym (c.bytes.ensures ∙ c.index-texts-place.is) in
    rw c.refusal.ensures (so-far-fails c.args.types.now c.args.texts.now c.loop-place.place c.bytes.result.now (store_kept c.loop-place.base) within c.index-texts-place.result there
    c.loop-place.invariant c.in-Err.stop
    (c.in-Err.ensures (1 + c.loop-place.place) c.loop-place.invariant.database (omega (arith, within, c.requires.few)) c.loop-place.invariant.is))

pub loop-place-preserved : goal.loop-place-preserved
loop-place-preserved g c =
    let within : c.loop-place.place < length c.args.texts.now = c.loop-place-test.true in
    let there : get_or c.args.texts.now c.loop-place.place c.index-texts-place.result ≡ c.bytes.result.now = sym (c.bytes.ensures ∙ c.index-texts-place.is) in
    so-far-on c.args.types.now c.args.texts.now c.loop-place.place c.bytes.result.now (store_kept c.loop-place.base) within c.index-texts-place.result there c.loop-place.invariant
    (store_kept c.run.new.base)
    (c.in_default.ensures (1 + c.loop-place.place) c.loop-place.invariant.database (omega (arith, within, c.requires.few)) c.loop-place.invariant.is)
