use Rattle.std.proofs.Common.{refl}
use Rattle.spec_grammar.specs.Grammar.{w}
use Rattle.ras_parse.proofs.Readings.{give-is, refuse-is}
use Rattle.ras_parse.proofs.Follows.{goes-on, goes-past, found, missed, met}
use Rattle.ras_workload.proofs.type_parts.atom.Goals as goal

pub returns-in-Some-meaning : goal.returns-in-Some-meaning
returns-in-Some-meaning c = record {
  gives = (
    goes-on (goes-past c.in_default.ensures) (goes-on c.in_ok-expect_word.ensures.0 (goes-past c.in-Some-meaning.ensures)),
    rw (missed c.in_default.ensures, found (w "unsigned") c.in_ok-expect_word.ensures, met c.in-Some-meaning.ensures, give-is) refl,
  );
}

pub returns : goal.returns
returns c = record {
  gives = λ u. rw (missed c.in_default.ensures, found (w "unsigned") c.in_ok-expect_word.ensures, missed c.in_default-meaning.ensures, refuse-is) refl;
}
