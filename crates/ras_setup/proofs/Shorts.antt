-- No statement of a text's outline is longer than the text, and its last heading ends in the text.
use Rattle.std.proofs.Common.{◌≡◌, ℕ, suc, ◌+◌, ◌≤◌, Bool, true, false, not, List, [], ◌∷◌, ◌++◌, length, length-append, length-drop, map, drop, Result, Ok, refl, ap, ◌∙◌, subst, arith}
use Rattle.std.specs.List.{AllByRecursion}
use Rattle.ras_cells.specs.Outcomes.{◌>>=◌}
use Rattle.ras_syntax.specs.declared.limits.TheConstants.{MAX_STATEMENTS}
use Rattle.ras_syntax.specs.declared.types.SetType.{SetType}
use Rattle.law_lists.proofs.Each.{each_map, each_weaker}
use Rattle.spec_grammar.specs.Tokens.{Text, begins_with, is_line_feed, is_same, space_length}
use Rattle.std.specs.Prelude.{codes, ◌==◌}
use Rattle.spec_workloads.specs.Outline.{Due, Heading, Outline, OutlineFault, all, bad_heading, begun_pieces, closed_before, end, heading_of, may_have_setup, may_have_types, no_outline, none_beyond}
use Rattle.spec_workloads.specs.Outline.{nothing_behind, outline_after, outline_in, outline_of, provided, section_statements, session, session_due, sessions_on, setup, setup_on, title, titled, types}
use Rattle.spec_workloads.specs.Outline.{types_of, unknown, with_section}
use Rattle.spec_workloads.specs.Sections.{Headed, Piece, Pieces, Section, headed, headed_from, is_heading, lines_of, parted, parted_from, parts_of, pieces_from, pieces_of, to_first, with_line, without_blank_end, line_feeds}
use Rattle.spec_workloads.proofs.Outlines.{bind_ok, ok_same}

-- ---- lines

abbrev total : List Text → ℕ
total [] = 0
total (text ∷ texts) = length text + total texts

first-total : (b : ℕ) (texts : List Text) → total (to_first b texts) ≡ suc (total texts)
first-total b [] = refl
first-total b (text ∷ texts) = omega arith

lines-total : (text : Text) → total (lines_of text) ≡ length text
lines-total [] = refl
lines-total (b ∷ bytes) = at (is_line_feed b) (lines-total bytes)
  where
    at : (feed : Bool) → total (lines_of bytes) ≡ length bytes
        → total (elim feed [ true ↦ (b ∷ []) ∷ lines_of bytes | false ↦ to_first b (lines_of bytes) ]) ≡ length (b ∷ bytes)
    at true is = omega (arith, is)
    at false is = first-total b (lines_of bytes) ∙ ap suc is

-- ---- sections

-- a section that ends at a place at most, and is no longer
record IsUpTo (most : ℕ) (section : Section) : Type 0 where
  place : section.behind ≤ most
  short : length section.body ≤ most

record AreUpTo (most front : ℕ) (headed : Headed) : Type 0 where
  few : length headed.front ≤ front
  each : AllByRecursion (IsUpTo most) headed.sections

with_line-up_to : (most line behind rest : ℕ) (text : Text) (later : Headed) → behind ≤ most → rest ≤ most → AreUpTo most rest later
    → AreUpTo most (length text + rest) (with_line line behind text later)
with_line-up_to most line behind rest text later within few are = at (is_heading text)
  where
    at : (heading : Bool) → AreUpTo most (length text + rest) (elim heading [
      | true ↦ record {
        front = [];
        sections = record { line = line; heading = without_blank_end text; behind = behind; body = later.front } ∷ later.sections;
      }
      | false ↦ record { front = text ++ later.front; sections = later.sections }
    ])
    at true = record { few = omega arith; each = (record { place = within; short = omega (arith, are.few, few) }, are.each) }
    at false = record { few = omega (arith, are.few, length-append text later.front); each = are.each }

headed-up_to : (most line place : ℕ) (texts : List Text) → place + total texts ≤ most → AreUpTo most (total texts) (headed_from line place texts)
headed-up_to most line place [] within = record { few = omega arith; each = tt }
headed-up_to most line place (text ∷ texts) within =
    with_line-up_to most line (place + length text) (total texts) text (headed_from (suc line) (place + length text) texts) (omega (arith, within))
    (omega (arith, within)) (headed-up_to most (suc line) (place + length text) texts (omega (arith, within)))

sections-up_to : (text : Text) → AllByRecursion (IsUpTo (length text)) (headed text).sections
sections-up_to text = (headed-up_to (length text) 1 0 (lines_of text) (omega (arith, lines-total text))).each

-- ---- pieces

abbrev IsShort : ℕ → Text → Type 0
IsShort most text = length text ≤ most

more-short : (most : ℕ) (texts : List Text) → AllByRecursion (IsShort most) texts → AllByRecursion (IsShort (suc most)) texts
more-short most = each_weaker (IsShort most) (IsShort (suc most)) (λ text short. omega (arith, short))

first-short : (b most : ℕ) (texts : List Text) → AllByRecursion (IsShort most) texts → AllByRecursion (IsShort (suc most)) (to_first b texts)
first-short b most [] short = (omega arith, tt)
first-short b most (text ∷ texts) short = (omega (arith, short.0), more-short most texts short.1)

parts-short : (in_comment : Bool) (text : Text) → AllByRecursion (IsShort (length text)) (parts_of in_comment text)
parts-short in_comment [] = (omega arith, tt)
parts-short true (b ∷ bytes) = first-short b (length bytes) (parts_of (not (is_line_feed b)) bytes) (parts-short (not (is_line_feed b)) bytes)
parts-short false (b ∷ bytes) = at (b == 59) (parts-short false bytes) (parts-short (begins_with (codes "--") (b ∷ bytes)) bytes)
  where
    at : (is : Bool) → AllByRecursion (IsShort (length bytes)) (parts_of false bytes)
        → AllByRecursion (IsShort (length bytes)) (parts_of (begins_with (codes "--") (b ∷ bytes)) bytes)
        → AllByRecursion (IsShort (length (b ∷ bytes))) (elim is [
          | true ↦ [] ∷ parts_of false bytes
          | false ↦ to_first b (parts_of (begins_with (codes "--") (b ∷ bytes)) bytes)
        ])
    at true next other = (omega arith, more-short (length bytes) (parts_of false bytes) next)
    at false next other = first-short b (length bytes) (parts_of (begins_with (codes "--") (b ∷ bytes)) bytes) other

abbrev IsShortPiece : ℕ → Piece → Type 0
IsShortPiece most piece = IsShort most piece.text

pieces-short : (most line : ℕ) (parts : List Text) → AllByRecursion (IsShort most) parts → AllByRecursion (IsShortPiece most) (pieces_from line parts)
pieces-short most line [] short = tt
pieces-short most line (part ∷ parts) short =
    (omega (arith, length-drop (space_length false part) part, short.0), pieces-short most (line + line_feeds part) parts short.1)

closed-short : (most : ℕ) (first : Piece) (pieces : List Piece) → IsShortPiece most first → AllByRecursion (IsShortPiece most) pieces
    → AllByRecursion (IsShortPiece most) (parted first pieces).closed
closed-short most first [] one short = tt
closed-short most first (second ∷ pieces) one short = (one, closed-short most second pieces short.0 short.1)

parted-short : (most line : ℕ) (pieces : List Piece) → AllByRecursion (IsShortPiece most) pieces → AllByRecursion (IsShortPiece most) (parted_from line pieces).closed
parted-short most line [] short = tt
parted-short most line (piece ∷ pieces) short = closed-short most piece pieces short.0 short.1

section-short : (most : ℕ) (section : Section) → IsUpTo most section → AllByRecursion (IsShort most) (map (λ piece. piece.text) (pieces_of section).closed)
section-short most section is =
    let body : AllByRecursion (IsShort most) (parts_of false section.body) = each_weaker (IsShort (length section.body)) (IsShort most)
    (λ text short. omega (arith, short, is.short)) (parts_of false section.body) (parts-short false section.body) in
    each_map (IsShortPiece most) (IsShort most) (λ piece. piece.text) (λ piece short. short) (pieces_of section).closed
    (parted-short most (suc section.line) (pieces_from (suc section.line) (parts_of false section.body)) (pieces-short most (suc section.line) (parts_of false section.body) body))

-- ---- outlines

provided_ok : {A : Type 0} (b : Bool) (fault : OutlineFault) (r : Result A OutlineFault) (y : A) → provided b fault r ≡ Ok y → r ≡ Ok y
provided_ok true fault r y is = is
provided_ok false fault r y is = absurd cc

closed-same : {A : Type 0} (rest : Text) (later : List Section) (x y : A) → closed_before rest later x ≡ Ok y → x ≡ y
closed-same [] later x y is = ok_same x y is
closed-same (b ∷ bytes) [] x y is = absurd cc
closed-same (b ∷ bytes) (section ∷ later) x y is = absurd cc

statements-short : (most : ℕ) (section : Section) (later : List Section) (found : List Text) → IsUpTo most section → section_statements section later ≡ Ok found
    → AllByRecursion (IsShort most) found
statements-short most section later found short is =
    let pieces : Pieces = pieces_of section in
    let texts : List Text = map (λ piece. piece.text) pieces.closed in
    let (none, few, closed) = bind_ok (none_beyond (drop MAX_STATEMENTS (begun_pieces pieces))) (λ few. closed_before pieces.rest.text later texts) found is in
    subst (AllByRecursion (IsShort most)) (closed-same pieces.rest.text later texts found closed) (section-short most section short)

-- what is found in a text of a length
pub record IsFoundWithin (most : ℕ) (found : Outline × ℕ) : Type 0 where
  pub place : found.1 ≤ most
  pub short : AllByRecursion (λ text. length text ≤ most) found.0.setup

module _ (most : ℕ) (found : Outline × ℕ) where
  with_section-within : (due : Due) (outline : Outline) (section : Section) (later : List Section) (heading : Heading)
      (goes_on : Due → Outline → Result (Outline × ℕ) OutlineFault) → IsUpTo most section → AllByRecursion (IsShort most) outline.setup
      → ((next : Due) (more : Outline) → AllByRecursion (IsShort most) more.setup → goes_on next more ≡ Ok found → IsFoundWithin most found)
      → with_section due outline section later heading goes_on ≡ Ok found → IsFoundWithin most found
  with_section-within due outline section later end goes_on up_to short on is =
      subst (IsFoundWithin most) (ok_same (outline, section.behind) found is) (record { place = up_to.place; short = short })
  with_section-within due outline section later unknown goes_on up_to short on is = absurd cc
  with_section-within due outline section later types goes_on up_to short on is =
      let next : List SetType → Result (Outline × ℕ) OutlineFault = λ declared. goes_on setup_on (record outline { types = declared }) in
      let behind = provided_ok (may_have_types due) (bad_heading section.line) (types_of section later >>= next) found is in
      let (declared, one, rest) = bind_ok (types_of section later) next found behind in
      on setup_on (record outline { types = declared }) short rest
  with_section-within due outline section later setup goes_on up_to short on is =
      let next : List Text → Result (Outline × ℕ) OutlineFault = λ texts. goes_on sessions_on (record outline { setup = texts }) in
      let behind = provided_ok (may_have_setup due) (bad_heading section.line) (section_statements section later >>= next) found is in
      let (texts, one, rest) = bind_ok (section_statements section later) next found behind in
      on sessions_on (record outline { setup = texts }) (statements-short most section later texts up_to one) rest
  with_section-within due outline section later (session name) goes_on up_to short on is =
      let (free, one, rest) = bind_ok (session_due section.line name outline.scripts) (λ free. section_statements section later >>= λ found.
      goes_on sessions_on (record outline { scripts = outline.scripts ++ record { name = free; statements = found } ∷ [] })) found is in
      let (texts, two, last) = bind_ok (section_statements section later)
      (λ found. goes_on sessions_on (record outline { scripts = outline.scripts ++ record { name = free; statements = found } ∷ [] })) found rest in
      on sessions_on (record outline { scripts = outline.scripts ++ record { name = free; statements = texts } ∷ [] }) short last

  after-within : (due : Due) (outline : Outline) (sections : List Section) → AllByRecursion (IsUpTo most) sections → AllByRecursion (IsShort most) outline.setup
      → outline_after due outline sections ≡ Ok found → IsFoundWithin most found
  after-within due outline [] up_to short is = absurd cc
  after-within due outline (section ∷ later) up_to short is =
      with_section-within due outline section later (heading_of section.heading) (λ next more. outline_after next more later) up_to.0 short
      (λ next more is_more rest. after-within next more later up_to.1 is_more rest) is

  titled-within : (section : Section) (later : List Section) → AllByRecursion (IsUpTo most) later → titled section later ≡ Ok found → IsFoundWithin most found
  titled-within section later up_to is =
      let next : ℕ → Result (Outline × ℕ) OutlineFault = λ behind. outline_after all no_outline later in
      let rest = provided_ok (is_same section.heading title) (bad_heading 1) (nothing_behind section >>= next) found is in
      let (behind, one, last) = bind_ok (nothing_behind section) next found rest in
      after-within all no_outline later up_to tt last

  in-within : (front : Text) (sections : List Section) → AllByRecursion (IsUpTo most) sections → outline_in front sections ≡ Ok found → IsFoundWithin most found
  in-within [] (section ∷ later) up_to is = titled-within section later up_to.1 is
  in-within [] [] up_to is = absurd cc
  in-within (b ∷ bytes) sections up_to is = absurd cc

pub outlines-within : (text : Text) (found : Outline × ℕ) → outline_of text ≡ Ok found → IsFoundWithin (length text) found
unfolding outline_of
outlines-within text found is = in-within (length text) found (headed text).front (headed text).sections (sections-up_to text) is
