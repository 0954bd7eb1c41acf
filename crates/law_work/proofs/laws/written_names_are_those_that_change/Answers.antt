use Rattle.law_work.proofs.WrittenNames.{unwritten-stays, written-same}
use Rattle.law_work.proofs.laws.written_names_are_those_that_change.Goals as goal

pub returns : goal.returns
returns c = record {
  written = λ changes name kept other is. written-same (λ kept. kept) changes name kept other is;
  unwritten = λ changes name kept is. unwritten-stays (λ kept. kept) changes name kept is;
}
