use Rattle.ras_syntax.specs.declared.limits.TheConstants.{MAX_WEIGHT}
use Rattle.law_grammar.specs.Reading.{reads, read_at}
use Rattle.law_grammar.proofs.EachVerdict.{light_front-weight}
use Rattle.law_grammar.proofs.Shallow.{reads-agree, form-agrees}
use Rattle.law_grammar.proofs.laws.weight_bounds_the_depth_of_reading.Goals as goal

pub returns-clause-front : goal.returns-clause-front
returns-clause-front c = light_front-weight MAX_WEIGHT

pub returns-clause-depth : goal.returns-clause-depth
returns-clause-depth c = λ depth level tokens light. (reads-agree depth level).same tokens light

pub returns-clause-form : goal.returns-clause-form
returns-clause-form c = λ depth tokens light. (form-agrees depth (reads depth) read_at (λ level. reads-agree depth level)).same tokens light
