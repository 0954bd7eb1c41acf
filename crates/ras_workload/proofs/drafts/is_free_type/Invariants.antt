use Rattle.std.proofs.Common.{◌≡◌, take, false}
use Rattle.std.specs.List.{list_any}
use Rattle.spec_grammar.specs.Tokens.{is_same}
use Rattle.ras_workload.proofs.drafts.is_free_type.Given as goal

abbrev pub invariant-loop-place : goal.invariant-loop-place
invariant-loop-place l = list_any (λ other. is_same other.name l.name) (take l.place l.earlier) ≡ false
