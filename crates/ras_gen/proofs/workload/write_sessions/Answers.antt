use Rattle.std.proofs.Common.{◌≡◌, ℕ, ◌+◌, ◌-◌, ◌*◌, ◌++◌, arith, sym, ap, ◌∙◌, append-nil}
use Rattle.std.specs.Prelude.{flat_map, string_bytes}
use Rattle.std.specs.List.{range_with_len}
use Rattle.ras_gen.specs.Draws.{state_after}
use Rattle.ras_gen.specs.Text.{session_of}
use Rattle.ras_gen.proofs.States.{state_after-zero}
use Rattle.ras_gen.proofs.Transactions.{flat_map-range-appended, session_of-here, state-later}
use Rattle.ras_gen.proofs.workload.write_sessions.Goals as goal

pub loop-number-init : goal.loop-number-init
loop-number-init c =
    let none : 3 * (c.args.size * 0) ≡ 0 = omega arith in
    let first = state_after-zero c.args.draws.now.state c.args.draws.now.small in
    (sym (append-nil (string_bytes c.args.text.now)), sym first ∙ ap (λ draws. state_after draws c.args.draws.now.state) (sym none))

pub loop-number-preserved : goal.loop-number-preserved
loop-number-preserved c =
    let seed = c.args.draws.now.state in
    let sessions : ℕ = c.loop-number.number - 1 in
    let here : c.loop-number.number ≡ 1 + sessions = omega (arith, c.loop-number.auto.number) in
    let more : c.loop-number.number + 1 - 1 ≡ sessions + 1 = omega (arith, c.loop-number.auto.number) in
    let session = session_of-here seed c.args.size sessions c.loop-number.number c.loop-number.draws.state here c.loop-number.invariant.1 in
    let text = flat_map-range-appended (session_of seed c.args.size) 1 sessions (string_bytes c.args.text.now) _ _ _
    c.loop-number.invariant.0 c.in_ok-write_session.ensures.text session in
    let state = state-later seed c.args.size sessions c.loop-number.draws.state _ c.loop-number.invariant.1 c.in_ok-write_session.ensures.state in (
      text ∙ ap (λ n. string_bytes c.args.text.now ++ flat_map (session_of seed c.args.size) (range_with_len 1 n)) (sym more),
      state ∙ ap (λ n. state_after (3 * (c.args.size * n)) seed) (sym more),
    )

pub returns : goal.returns
returns c =
    let all : c.loop-number.number - 1 ≡ 8 = omega (arith, c.loop-number.auto.number, c.loop-number.auto.number-end, c.loop-number-test.false) in
    c.loop-number.invariant.0 ∙ ap (λ n. string_bytes c.args.text.now ++ flat_map (session_of c.args.draws.now.state c.args.size) (range_with_len 1 n)) all
