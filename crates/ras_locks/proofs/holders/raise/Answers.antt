use Rattle.std.proofs.Common.{◌∙◌, ap, sym, refl, length}
use Rattle.std.specs.Prelude.{slice_set}
use Rattle.std.proofs.lemmas.Option.{slice_get_read}
use Rattle.ras_locks.proofs.Places.{raised-none, raised-set}
use Rattle.ras_locks.proofs.holders.raise.Goals as goal

pub returns-in-Some-clause-items : goal.returns-in-Some-clause-items
returns-in-Some-clause-items c =
    ap (λ m. slice_set c.args.holders.now.items c.args.place (record { owner = c.in-Some.holder.now.owner; mode = m })) c.stronger-holder.ensures
    ∙ raised-set c.args.mode c.args.holders.now.items c.args.place c.in-Some.holder.now
    (slice_get_read c.args.holders.now.items (length c.args.holders.now.items) c.args.place c.in-Some.holder.now refl (c.in-Some.ensures.variant.0 refl) c.in-Some.ensures.value)

pub returns-in-None-clause-items : goal.returns-in-None-clause-items
returns-in-None-clause-items c = raised-none c.args.mode c.args.holders.now.items c.args.place c.in-None.ensures.item.3
