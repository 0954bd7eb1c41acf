use Rattle.std.proofs.Common.{◌<◌, ◌+◌, subst, arith}
use Rattle.std.proofs.lemmas.Grind.{common_steps}
use Rattle.ras_syntax.specs.declared.limits.TheConstants.{MAX_WEIGHT}
use Rattle.ras_parse.proofs.Walked.{weighs_more, too_heavy, read_more, lies_further}
use Rattle.ras_parse.proofs.reading.front_of.Goals as goal

pub returns-then-weight-gt-MAX_WEIGHT-clause-front : goal.returns-then-weight-gt-MAX_WEIGHT-clause-front
returns-then-weight-gt-MAX_WEIGHT-clause-front c =
    too_heavy c.args.text.now c.loop-next.tokens.items c.push.new.self.items c.in-Token.token c.loop-next.weight
    c.in_ok-push.ensures.items (rw c.in-Token.is at c.loop-next.invariant.read) c.loop-next.invariant.weighed c.loop-next.invariant.light
    (subst (λ w. MAX_WEIGHT < c.loop-next.weight + w) c.weight-weight.ensures.weight c.if-weight-gt-MAX_WEIGHT.true)

pub loop-next-preserved : goal.loop-next-preserved
loop-next-preserved c =
    let more = weighs_more c.args.text.now c.loop-next.tokens.items c.push.new.self.items c.in-Token.token c.in_ok-push.ensures.items in
    record {
      read = read_more c.args.text.now c.loop-next.tokens.items c.push.new.self.items c.in-Token.token _
          c.in_ok-push.ensures.items (rw c.in-Token.is at c.loop-next.invariant.read) c.next_token-next-in-Token.ensures.steps;
      within = lies_further c.args.text.now c.in-Token.token.span.to _ c.next_token-next-in-Token.ensures.within;
      stand = grind (arith, common_steps);
      weighed = omega (arith, c.weight-weight.ensures.weight, c.loop-next.invariant.weighed);
      light = c.if-weight-gt-MAX_WEIGHT.false;
    }
