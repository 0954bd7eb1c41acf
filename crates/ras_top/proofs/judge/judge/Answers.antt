use Rattle.std.proofs.Common.{map, string_bytes}
use Rattle.ras_top.proofs.Answered.{never-both}
use Rattle.ras_top.proofs.Due.{answer-due, words-due}
use Rattle.ras_top.proofs.judge.judge.Goals as goal

pub returns-in-Ok-clause-due : goal.returns-in-Ok-clause-due
returns-in-Ok-clause-due g c =
    answer-due _ _ _ _ (map string_bytes c.args.words.now) c.in-Ok.command c.judge_source.result (c.in-Ok.ensures (λ e. absurd (cc e))) c.judge_source.ensures.due

pub returns-in-Ok-clause-unread : goal.returns-in-Ok-clause-unread
returns-in-Ok-clause-unread g c = λ fault asked.
    absurd (never-both (map string_bytes c.args.words.now) c.in-Ok.command fault (c.in-Ok.ensures (λ e. absurd (cc e))) asked)

pub returns-in-Err-clause-due : goal.returns-in-Err-clause-due
returns-in-Err-clause-due g c =
    rw c.refuse_words.ensures (words-due _ _ _ _ (map string_bytes c.args.words.now) c.in-Err.fault c.in-Err.ensures)
