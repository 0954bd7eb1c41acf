use Rattle.std.proofs.Common.{refl, arith}
use Rattle.spec_histories.specs.Worked.{committed_once, programs}
use Rattle.law_histories.proofs.Serializable.{legal_serial, legal_steady}
use Rattle.law_histories.proofs.WorkedEvents.{legal_committed_once}
use Rattle.law_histories.proofs.WorkedPrograms.{are_programs}
use Rattle.law_histories.proofs.worked_histories.the_laws_hold_of_the_legal_history.Goals as goal

pub returns-clause-premises : goal.returns-clause-premises
returns-clause-premises c = are_programs

pub returns-clause-serial : goal.returns-clause-serial
returns-clause-serial c = legal_serial programs 2 committed_once are_programs (omega arith) legal_committed_once

pub returns-clause-steady : goal.returns-clause-steady
returns-clause-steady c = legal_steady programs 2 committed_once 2 are_programs (omega arith) legal_committed_once refl
