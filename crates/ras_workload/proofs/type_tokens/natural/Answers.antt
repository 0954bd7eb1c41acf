use Rattle.std.proofs.Common.{◌≡◌, to_z, of_z, to_z-of_z, sym, ap, ◌∙◌, rules}
use Rattle.std.specs.Int.{w64}
use Rattle.spec_workloads.specs.TypeLines.{natural, size_of}
use Rattle.ras_parse.specs.Seen.{token_in}
use Rattle.ras_parse.proofs.Took.{takes-end, takes-not, takes-it}
use Rattle.ras_workload.proofs.TypeTokens.{natural_none, natural_is}
use Rattle.ras_workload.proofs.type_tokens.natural.Goals as goal

pub returns-in_default-clause-taken : goal.returns-in_default-clause-taken
returns-in_default-clause-taken c = takes-end natural _ c.in_default.ensures.token

pub returns-in_default-number-clause-taken : goal.returns-in_default-number-clause-taken
returns-in_default-number-clause-taken c =
    let t = token_in c.in-Some.front.text.now c.in-Some.front.token in
    takes-not natural _ t c.in-Some.ensures.token (natural_none t (sym (c.in_default-number.ensures c.in-Some.front.text.now)))

pub returns-in_default-size_of-clause-taken : goal.returns-in_default-size_of-clause-taken
returns-in_default-size_of-clause-taken c =
    let t = token_in c.in-Some.front.text.now c.in-Some.front.token in
    let value : to_z w64 (of_z w64 c.in-Some-number.value) ≡ c.in-Some-number.value = to_z-of_z {w = w64} (search rules) in
    takes-not natural _ t c.in-Some.ensures.token
    (natural_is t c.in-Some-number.value _ (sym (c.in-Some-number.ensures c.in-Some.front.text.now)) ∙ ap size_of (sym value) ∙ sym c.in_default-size_of.ensures.size)

pub returns-clause-taken : goal.returns-clause-taken
returns-clause-taken c =
    let t = token_in c.in-Some.front.text.now c.in-Some.front.token in
    let value : to_z w64 (of_z w64 c.in-Some-number.value) ≡ c.in-Some-number.value = to_z-of_z {w = w64} (search rules) in
    takes-it natural _ _ t _ c.in-Some.ensures.token
    (natural_is t c.in-Some-number.value _ (sym (c.in-Some-number.ensures c.in-Some.front.text.now)) ∙ ap size_of (sym value) ∙ sym c.in-Some-size_of.ensures.size)
    c.advance.ensures
