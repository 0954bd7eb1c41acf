use Rattle.std.proofs.lemmas.Result.{err_from_is_err_and}
use Rattle.law_grammar.specs.Reading.{reads}
use Rattle.ras_parse.proofs.Loops.{parts-begin, parts-go, parts-wrong, parts-end}
use Rattle.ras_parse.proofs.grammar.Grammar.parts.Goals as goal

pub loop-is_index-init : goal.loop-is_index-init
loop-is_index-init g c = parts-begin (reads c.args.self.now.depth) c.args.start c.args.of c.args.cursor.now

pub returns-in_err-form : goal.returns-in_err-form
returns-in_err-form g c =
    let p = err_from_is_err_and c.from_residual.result c.from_residual.ensures.1 in
    rw (p.1, p.2) (parts-wrong (reads c.args.self.now.depth) c.args.start c.loop-is_index.invariant c.in-Some.ensures c.in_err-form.ensures)

pub loop-is_index-preserved : goal.loop-is_index-preserved
loop-is_index-preserved g c =
    parts-go (reads c.args.self.now.depth) c.args.start c.in_ok-form.form _ c.loop-is_index.invariant c.in-Some.ensures c.in_ok-form.ensures c.in_ok-e.ensures

pub returns : goal.returns
returns g c = parts-end (reads c.args.self.now.depth) c.args.start c.loop-is_index.invariant c.in_default.ensures
