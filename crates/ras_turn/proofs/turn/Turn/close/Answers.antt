use Rattle.ras_turn.specs.Words.{known_of}
use Rattle.ras_turn.proofs.Ends.{closes, taken_out, some_home}
use Rattle.ras_turn.proofs.turn.Turn.close.Goals as goal

pub unwrap-requires : goal.unwrap-requires
unwrap-requires g c =
    let entries = g.S.Chronicle.entries in
    let charter = g.S.Chronicle.charter in
    let closed = c.close_with-closed.result in
    let end = closes entries charter _ _ known_of c.args.passes.items _ _ closed.words.items closed.slots.items c.gather-seat.ensures.view c.requires.numbers
    c.close_with-closed.ensures.values.2 in
    some_home entries charter _ _ known_of c.args.passes.items closed.slots.items c.take-home.result end c.take-home.ensures.value

pub returns-clause-charter : goal.returns-clause-charter
returns-clause-charter g c =
    let entries = g.S.Chronicle.entries in
    let charter = g.S.Chronicle.charter in
    let closed = c.close_with-closed.result in
    let end = closes entries charter _ _ known_of c.args.passes.items _ _ closed.words.items closed.slots.items c.gather-seat.ensures.view c.requires.numbers
    c.close_with-closed.ensures.values.2 in
    (taken_out entries charter _ _ known_of c.args.passes.items closed.slots.items c.take-home.result c.unwrap.result end c.take-home.ensures.value c.unwrap.ensures).charter_is

pub returns-clause-own : goal.returns-clause-own
returns-clause-own g c =
    let entries = g.S.Chronicle.entries in
    let charter = g.S.Chronicle.charter in
    let closed = c.close_with-closed.result in
    let end = closes entries charter _ _ known_of c.args.passes.items _ _ closed.words.items closed.slots.items c.gather-seat.ensures.view c.requires.numbers
    c.close_with-closed.ensures.values.2 in
    (taken_out entries charter _ _ known_of c.args.passes.items closed.slots.items c.take-home.result c.unwrap.result end c.take-home.ensures.value c.unwrap.ensures).own

pub returns-clause-seen : goal.returns-clause-seen
returns-clause-seen g c =
    let entries = g.S.Chronicle.entries in
    let charter = g.S.Chronicle.charter in
    let closed = c.close_with-closed.result in
    let end = closes entries charter _ _ known_of c.args.passes.items _ _ closed.words.items closed.slots.items c.gather-seat.ensures.view c.requires.numbers
    c.close_with-closed.ensures.values.2 in
    (taken_out entries charter _ _ known_of c.args.passes.items closed.slots.items c.take-home.result c.unwrap.result end c.take-home.ensures.value c.unwrap.ensures).seen

pub returns-clause-makers : goal.returns-clause-makers
returns-clause-makers g c =
    let entries = g.S.Chronicle.entries in
    let charter = g.S.Chronicle.charter in
    let closed = c.close_with-closed.result in
    let end = closes entries charter _ _ known_of c.args.passes.items _ _ closed.words.items closed.slots.items c.gather-seat.ensures.view c.requires.numbers
    c.close_with-closed.ensures.values.2 in
    (taken_out entries charter _ _ known_of c.args.passes.items closed.slots.items c.take-home.result c.unwrap.result end c.take-home.ensures.value c.unwrap.ensures).makers
