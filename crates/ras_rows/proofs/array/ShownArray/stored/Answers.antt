use Rattle.std.proofs.Common.{◌≡◌, ℤ, List, Some, true, false, sym, ap, ◌∙◌}
use Rattle.ras_domain.specs.declared.lock.LockName.TheVariants.{Tile}
use Rattle.ras_domain.proofs.Points.{length-from_IsIn}
use Rattle.spec_expressions.specs.Database.{Member, stored_at}
use Rattle.spec_expressions.specs.Shape.{Box}
use Rattle.spec_shown.specs.Shown.{array_within, numbers_shown}
use Rattle.ras_rows.specs.Arrays.{holdings_in}
use Rattle.ras_rows.proofs.Lookups.{stored-here, stored-out}
use Rattle.ras_rows.proofs.array.ShownArray.stored.Goals as goal

pub returns-then-not-contains : goal.returns-then-not-contains
returns-then-not-contains c =
    let kept = c.self.inside in
    sym (ap (λ (m : Member). stored_at m.array c.args.p.now.items) (sym c.self.view_is)
    ∙ ap (λ (d : Box). stored_at (array_within kept.source.now.of (holdings_in kept.view.now) kept.source.now.collection kept.oid d) c.args.p.now.items) (sym c.self.invariant.shown)
    ∙ stored-out kept.source.now.of (holdings_in kept.view.now) kept.source.now.collection kept.oid kept.domain c.args.p.now.items
    (λ within. let is_true : c.contains.result ≡ true = c.contains.ensures.1 within in let clash : true ≡ false = sym is_true ∙ c.if-not-contains.true in cc))

pub tile_of-place-requires-clause-axes : goal.tile_of-place-requires-clause-axes
tile_of-place-requires-clause-axes c =
    length-from_IsIn c.args.p.now.items c.self.inside.domain (c.contains.ensures.0 c.if-not-contains.false) ∙ c.self.invariant.axes

pub returns : goal.returns
returns c =
    let kept = c.self.inside in
    ap Some (c.numbers_at.ensures
    ∙ ap (λ (place : List ℤ). numbers_shown kept.source.now.of (holdings_in kept.view.now (Tile kept.source.now.collection kept.oid (record { items = place }))) c.args.p.now.items)
    c.tile_of-place.ensures.place)
    ∙ sym (ap (λ (m : Member). stored_at m.array c.args.p.now.items) (sym c.self.view_is)
    ∙ ap (λ (d : Box). stored_at (array_within kept.source.now.of (holdings_in kept.view.now) kept.source.now.collection kept.oid d) c.args.p.now.items) (sym c.self.invariant.shown)
    ∙ stored-here kept.source.now.of (holdings_in kept.view.now) kept.source.now.collection kept.oid kept.domain c.args.p.now.items (c.contains.ensures.0 c.if-not-contains.false))
