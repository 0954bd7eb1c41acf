use Rattle.std.proofs.Common.{◌≡◌, ◌&&◌, nat_lt, not, true, false, length, refl, ap, sym, ◌∙◌}
use Rattle.ras_syntax.specs.declared.limits.TheConstants.{MAX_TYPES}
use Rattle.ras_syntax.specs.declared.types.SetType.{SetType}
use Rattle.spec_grammar.specs.Tokens.{is_same}
use Rattle.ras_workload.proofs.Declaring.{right_false}
use Rattle.ras_workload.proofs.Free.{none_more, one_passes}
use Rattle.ras_workload.proofs.drafts.is_free_type.Goals as goal

pub returns-then-is_same : goal.returns-then-is_same
returns-then-is_same c =
    let earlier = c.args.earlier.now in
    let name = c.args.name.now in
    let passes : is_same c.get.result.now.name name ≡ true = ap (λ t. is_same t name) (sym c.bytes.ensures) ∙ sym c.is_same.ensures ∙ c.if-is_same.true in
    let there = one_passes (λ (other : SetType). is_same other.name name) earlier c.loop-place.place c.get.result.now c.get.ensures passes in
    sym (ap (λ v. nat_lt (length earlier) MAX_TYPES && not v) there ∙ right_false (nat_lt (length earlier) MAX_TYPES) false refl)

pub loop-place-preserved : goal.loop-place-preserved
loop-place-preserved c =
    let name = c.args.name.now in
    let fails : is_same c.get.result.now.name name ≡ false = ap (λ t. is_same t name) (sym c.bytes.ensures) ∙ sym c.is_same.ensures ∙ c.if-is_same.false in
    none_more (λ (other : SetType). is_same other.name name) c.args.earlier.now c.loop-place.place c.get.result.now c.get.ensures fails c.loop-place.invariant
