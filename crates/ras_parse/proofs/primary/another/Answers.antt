use Rattle.std.specs.Prelude.{◌≡◌, Bool as Truth, true, false, Option, None}
use Rattle.std.proofs.Common.{ap, length, arith}
use Rattle.std.proofs.lemmas.Bool.Decides.{nat_tests}
use Rattle.spec_grammar.specs.Tokens.{Token}
use Rattle.spec_grammar.specs.Grammar.{s}
use Rattle.law_grammar.specs.Readers.{exactly}
use Rattle.law_grammar.specs.Reading.{may_grow, if_room}
use Rattle.ras_parse.proofs.Took.{accepts-never}
use Rattle.ras_parse.proofs.primary.another.Goals as goal

pub returns-then-as_slice-ge-MAX_COMPONENTS : goal.returns-then-as_slice-ge-MAX_COMPONENTS
returns-then-as_slice-ge-MAX_COMPONENTS c =
    let full : may_grow (length c.args.all.now) ≡ false = grind (arith, nat_tests) in
    accepts-never (if_room may_grow c.args.all.now) c.args.cursor.now
    (λ t. ap (λ (room : Truth). elim room as (λ v. Option Token) [ true ↦ exactly (s ",") t | false ↦ None ]) full)
