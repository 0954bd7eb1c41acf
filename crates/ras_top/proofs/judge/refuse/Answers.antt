use Rattle.ras_top.proofs.Due.{says-no-memory, says-refused}
use Rattle.ras_top.proofs.judge.refuse.Goals as goal

pub returns-then-is_memory : goal.returns-then-is_memory
returns-then-is_memory c = λ command text wanted. says-no-memory command text

pub returns : goal.returns
returns c = λ command text wanted. says-refused command text c.args.refusal (cc (c.is_memory.ensures, c.if-is_memory.false)) wanted
