use Rattle.std.proofs.Common.{refl}
use Rattle.ras_top.specs.Said.{no_memory, read_failed, too_long}
use Rattle.ras_top.proofs.judge.judge_source.Goals as goal

pub returns-in-Err-Read-clause-due : goal.returns-in-Err-Read-clause-due
returns-in-Err-Read-clause-due g c = record {
  said = read_failed;
  due = rw c.in-Err-Read.field-0-is at c.in-Err-Read.ensures.fault;
  says = record { status = refl; text = refl; written = tt };
}

pub returns-in-Err-TooLong-clause-due : goal.returns-in-Err-TooLong-clause-due
returns-in-Err-TooLong-clause-due g c = record {
  said = too_long;
  due = rw c.in-Err-TooLong.field-0-is at c.in-Err-TooLong.ensures.fault;
  says = record { status = refl; text = refl; written = tt };
}

pub returns-clause-due : goal.returns-clause-due
returns-clause-due g c = record { said = no_memory; due = tt; says = record { status = refl; text = refl; written = tt } }
