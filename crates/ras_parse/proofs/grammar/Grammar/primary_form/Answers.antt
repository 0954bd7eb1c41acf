use Rattle.std.proofs.Common.{◌≡◌, refl, to_z, of_z, w64, to_z-of_z, rules}
use Rattle.law_grammar.specs.Reading.{primary_form}
use Rattle.ras_parse.proofs.Readings.{give-is}
use Rattle.ras_parse.proofs.Follows.{goes-on, goes-by, goes-past, skipped, entered, missed, met, tail}
use Rattle.ras_parse.proofs.grammar.Grammar.primary_form.Goals as goal

pub returns-in-Some : goal.returns-in-Some
unfolding primary_form
returns-in-Some g c =
    let same : to_z w64 (of_z w64 c.in-Some.value) ≡ c.in-Some.value = to_z-of_z {w = w64} (search rules) in
    rw same (record { gives = (goes-past c.in-Some.ensures, rw (met c.in-Some.ensures, give-is) refl) })

pub returns-in-Some-meaning : goal.returns-in-Some-meaning
unfolding primary_form
returns-in-Some-meaning g c = record {
  gives = (goes-on (goes-past c.in_default.ensures) (goes-past c.in-Some-meaning.ensures), rw (missed c.in_default.ensures, met c.in-Some-meaning.ensures, give-is) refl);
}

pub returns-in-Some-name : goal.returns-in-Some-name
unfolding primary_form
returns-in-Some-name g c = rw c.in_ok-of.ensures (record {
  gives = (
    goes-on (goes-past c.in_default.ensures) (goes-on (goes-past c.in_default-meaning.ensures) (goes-past c.in-Some-name.ensures)),
    rw (missed c.in_default.ensures, missed c.in_default-meaning.ensures, met c.in-Some-name.ensures, give-is) refl,
  );
})

pub returns-then-sign : goal.returns-then-sign
unfolding primary_form
returns-then-sign g c =
    tail (rw (missed c.in_default.ensures, missed c.in_default-meaning.ensures, missed c.in_default-name.ensures, entered c.sign.ensures c.if-sign.true) refl)
    (goes-on (goes-past c.in_default.ensures) (goes-on (goes-past c.in_default-meaning.ensures) (goes-on (goes-past c.in_default-name.ensures)
    (goes-by c.sign.ensures)))) c.braces_rest.ensures

pub returns-then-word : goal.returns-then-word
unfolding primary_form
returns-then-word g c =
    tail (rw (
      missed c.in_default.ensures,
      missed c.in_default-meaning.ensures,
      missed c.in_default-name.ensures,
      skipped c.sign.ensures c.if-sign.false,
      entered c.word.ensures c.if-word.true,
    ) refl)
    (goes-on (goes-past c.in_default.ensures) (goes-on (goes-past c.in_default-meaning.ensures) (goes-on (goes-past c.in_default-name.ensures)
    (goes-on (goes-by c.sign.ensures) (goes-by c.word.ensures))))) c.struct_rest.ensures

pub returns-then-word-2 : goal.returns-then-word-2
unfolding primary_form
returns-then-word-2 g c =
    tail (rw (
      missed c.in_default.ensures,
      missed c.in_default-meaning.ensures,
      missed c.in_default-name.ensures,
      skipped c.sign.ensures c.if-sign.false,
      skipped c.word.ensures c.if-word.false,
      entered c.word-2.ensures c.if-word-2.true,
    ) refl)
    (goes-on (goes-past c.in_default.ensures) (goes-on (goes-past c.in_default-meaning.ensures) (goes-on (goes-past c.in_default-name.ensures)
    (goes-on (goes-by c.sign.ensures) (goes-on (goes-by c.word.ensures) (goes-by c.word-2.ensures)))))) c.choice_rest.ensures

pub returns : goal.returns
unfolding primary_form
returns g c =
    tail (rw (
      missed c.in_default.ensures,
      missed c.in_default-meaning.ensures,
      missed c.in_default-name.ensures,
      skipped c.sign.ensures c.if-sign.false,
      skipped c.word.ensures c.if-word.false,
      skipped c.word-2.ensures c.if-word-2.false,
    ) refl)
    (goes-on (goes-past c.in_default.ensures) (goes-on (goes-past c.in_default-meaning.ensures) (goes-on (goes-past c.in_default-name.ensures)
    (goes-on (goes-by c.sign.ensures) (goes-on (goes-by c.word.ensures) (goes-by c.word-2.ensures)))))) c.function_form.ensures
