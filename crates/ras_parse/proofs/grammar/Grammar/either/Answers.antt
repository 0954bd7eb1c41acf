use Rattle.std.proofs.lemmas.Result.{err_from_is_err_and}
use Rattle.spec_grammar.specs.Grammar.{eithers}
use Rattle.law_grammar.specs.Reading.{both_read, either_read, reads}
use Rattle.ras_parse.proofs.Loops.{chain-begins, chain-none, chain-wrong, chain-goes, chain-ends}
use Rattle.ras_parse.proofs.grammar.Grammar.either.Goals as goal

pub returns-in_err-e : goal.returns-in_err-e
unfolding either_read
returns-in_err-e g c =
    let p = err_from_is_err_and c.from_residual.result c.from_residual.ensures.1 in
    rw (p.1, p.2) (chain-none eithers (both_read (reads c.args.self.now.depth)) c.in_err-e.ensures)

pub loop-op-init : goal.loop-op-init
loop-op-init g c = chain-begins eithers (both_read (reads c.args.self.now.depth)) c.in_ok-e.ensures

pub returns-in_err-other : goal.returns-in_err-other
unfolding either_read
returns-in_err-other g c =
    let p = err_from_is_err_and c.from_residual-in_err-other.result c.from_residual-in_err-other.ensures.1 in
    rw (p.1, p.2) (chain-wrong eithers (both_read (reads c.args.self.now.depth)) c.loop-op.invariant c.in-Some.ensures c.in_err-other.ensures)

pub loop-op-preserved : goal.loop-op-preserved
loop-op-preserved g c =
    chain-goes eithers (both_read (reads c.args.self.now.depth)) c.at-start.result c.binary.result _ c.loop-op.invariant c.in-Some.ensures c.in_ok-other.ensures
    c.at-start.ensures c.binary.ensures c.in_ok-e-2.ensures

pub returns : goal.returns
unfolding either_read
returns g c = chain-ends eithers (both_read (reads c.args.self.now.depth)) c.loop-op.invariant c.in_default.ensures
