-- The outline of a workload's text: its types, the statements of its setup and those of its sessions; or the first line that
-- breaks the text.
use Rattle.std.specs.Prelude.{◌≢◌, ℕ, suc, ◌+◌, ◌≤◌, nat_lt, Bool, true, false, not, ◌&&◌, List, [], ◌∷◌, ◌++◌, length, map, drop, take, Option, Some, None, Result, Ok, Err, All, codes}
use Rattle.std.specs.List.{AllPairs, list_all, list_any}
use Rattle.ras_cells.specs.Outcomes.{◌>>=◌}
use Rattle.ras_syntax.specs.declared.types.Script.{Script}
use Rattle.ras_syntax.specs.declared.types.SetType.{SetType}
use Rattle.spec_expressions.specs.SetTypes.{AreTypes}
use Rattle.spec_grammar.specs.Tokens.{Text, after_space, begins_name, begins_with, continues_name, first_is, in_small_letters, is_one_of, is_same, reserved_words, space_length}
use Rattle.ras_syntax.specs.declared.limits.TheConstants.{MAX_SESSIONS, MAX_STATEMENTS}
use Rattle.spec_workloads.specs.Sections.{Piece, Pieces, Section, headed, line_feeds, pieces_of}
use Rattle.spec_workloads.specs.TypeLines.{may_be_declared, type_of_line}

pub record Outline : Type 0 where
  pub types : List SetType
  pub setup : List Text
  pub scripts : List Script

-- why a text has none, with the line that breaks it
pub data OutlineFault : Type 0 where
  -- a heading that isn't due, a session's name that is taken, or text outside a section
  bad_heading : ℕ → OutlineFault
  bad_type : ℕ → OutlineFault
  too_many_sessions : ℕ → OutlineFault
  too_many_statements : ℕ → OutlineFault
  -- no line breaks the text, but it ends without its last heading
  no_end : OutlineFault

-- the result where a test passes, and else the fault
abbrev pub provided : {A : Type 0} → Bool → OutlineFault → Result A OutlineFault → Result A OutlineFault
provided true fault result = result
provided false fault result = Err fault

-- ---- headings

pub data Heading : Type 0 where
  types : Heading
  setup : Heading
  session : Text → Heading
  end : Heading
  -- any other
  unknown : Heading

-- a name is no reserved word
abbrev pub is_name : Text → Bool
is_name text = first_is begins_name text && list_all continues_name text && not (is_one_of reserved_words (in_small_letters text))

abbrev pub session_opening : Text
session_opening = codes "#session "

abbrev pub session_heading : Text → Heading
session_heading name = elim (is_name name) [ true ↦ session name | false ↦ unknown ]

abbrev pub heading_of : Text → Heading
heading_of text =
    elim (is_same text (codes "#types")) [
      | true ↦ types
      | false ↦
          elim (is_same text (codes "#setup")) [
            | true ↦ setup
            | false ↦
                elim (is_same text (codes "#end")) [
                  | true ↦ end
                  | false ↦
                      elim (begins_with session_opening text) [ true ↦ session_heading (drop (length session_opening) text) | false ↦ unknown ]
                ]
          ]
    ]

-- ---- the bodies of sections

-- what stands behind the last semicolon has to be blank; else the next heading stands inside it, or the text's end cuts it off
abbrev pub closed_before : {A : Type 0} → (rest : Text) → List Section → A → Result A OutlineFault
closed_before [] later x = Ok x
closed_before (b ∷ bytes) [] x = Err no_end
closed_before (b ∷ bytes) (section ∷ later) x = Err (bad_heading section.line)

abbrev pub with_type : List SetType → ℕ → Option SetType → Result (List SetType) OutlineFault
with_type earlier line None = Err (bad_type line)
with_type earlier line (Some of) = provided (may_be_declared earlier of) (bad_type line) (Ok (earlier ++ of ∷ []))

abbrev pub types_after : List SetType → List Piece → Result (List SetType) OutlineFault
types_after earlier [] = Ok earlier
types_after earlier (piece ∷ pieces) = do
  more ← with_type earlier piece.line (type_of_line piece.text)
  types_after more pieces

abbrev pub types_of : Section → List Section → Result (List SetType) OutlineFault
types_of section later = do
  found ← types_after [] (pieces_of section).closed
  closed_before (pieces_of section).rest.text later found

-- the pieces that have begun, also one that isn't closed
abbrev pub begun_with : (rest : Text) → Pieces → List Piece
begun_with [] pieces = pieces.closed
begun_with (b ∷ bytes) pieces = pieces.closed ++ pieces.rest ∷ []

abbrev pub begun_pieces : Pieces → List Piece
begun_pieces pieces = begun_with pieces.rest.text pieces

-- the first statement beyond the most that there may be
abbrev pub none_beyond : List Piece → Result (List Text) OutlineFault
none_beyond [] = Ok []
none_beyond (piece ∷ pieces) = Err (too_many_statements piece.line)

abbrev pub section_statements : Section → List Section → Result (List Text) OutlineFault
section_statements section later = do
  few ← none_beyond (drop MAX_STATEMENTS (begun_pieces (pieces_of section)))
  closed_before (pieces_of section).rest.text later (map (λ piece. piece.text) (pieces_of section).closed)

-- ---- sections in their order

-- which sections may still come: all, those behind the types, or sessions alone
pub data Due : Type 0 where
  all : Due
  setup_on : Due
  sessions_on : Due

abbrev pub may_have_types : Due → Bool
may_have_types all = true
may_have_types due = false

abbrev pub may_have_setup : Due → Bool
may_have_setup sessions_on = false
may_have_setup due = true

abbrev pub is_taken : Text → List Script → Bool
is_taken name = list_any (λ script. is_same script.name name)

-- a session's heading, behind others: there is room for one more, and its name is free
abbrev pub session_due : ℕ → Text → List Script → Result Text OutlineFault
session_due line name scripts =
    provided (nat_lt (length scripts) MAX_SESSIONS) (too_many_sessions line) (provided (not (is_taken name scripts)) (bad_heading line) (Ok name))

-- what was read so far, with a section more
abbrev pub with_section : Due → Outline → Section → List Section → Heading → (Due → Outline → Result (Outline × ℕ) OutlineFault) → Result (Outline × ℕ) OutlineFault
with_section due outline section later end goes_on = Ok (outline, section.behind)
with_section due outline section later unknown goes_on = Err (bad_heading section.line)
with_section due outline section later types goes_on =
    provided (may_have_types due) (bad_heading section.line)
    (types_of section later >>= λ found. goes_on setup_on (record outline { types = found }))
with_section due outline section later setup goes_on =
    provided (may_have_setup due) (bad_heading section.line)
    (section_statements section later >>= λ found. goes_on sessions_on (record outline { setup = found }))
with_section due outline section later (session name) goes_on = do
  free ← session_due section.line name outline.scripts
  found ← section_statements section later
  goes_on sessions_on (record outline { scripts = outline.scripts ++ record { name = free; statements = found } ∷ [] })

-- the outline of what was read so far and of the sections that follow, with the place behind the last heading
abbrev pub outline_after : Due → Outline → List Section → Result (Outline × ℕ) OutlineFault
outline_after due outline [] = Err no_end
outline_after due outline (section ∷ later) =
    with_section due outline section later (heading_of section.heading) (λ next more. outline_after next more later)

-- ---- the whole text

abbrev pub title : Text
title = codes "#rasq workload 1"

abbrev pub no_outline : Outline
no_outline = record { types = []; setup = []; scripts = [] }

-- behind the title stand blanks and comments alone
abbrev pub nothing_behind : Section → Result ℕ OutlineFault
nothing_behind section = elim (after_space section.body) [
  | [] ↦ Ok section.behind
  | b ∷ bytes ↦ Err (bad_heading (suc section.line + line_feeds (take (space_length false section.body) section.body)))
]

abbrev pub titled : Section → List Section → Result (Outline × ℕ) OutlineFault
titled section later =
    provided (is_same section.heading title) (bad_heading 1) (nothing_behind section >>= λ behind. outline_after all no_outline later)

abbrev pub outline_in : (front : Text) → List Section → Result (Outline × ℕ) OutlineFault
outline_in [] (section ∷ later) = titled section later
outline_in [] [] = Err (bad_heading 1)
outline_in (b ∷ bytes) sections = Err (bad_heading 1)

-- the outline of a text, and the place behind the line of its last heading
unfoldable pub outline_of : Text → Result (Outline × ℕ) OutlineFault
outline_of text = outline_in (headed text).front (headed text).sections

-- ---- what every outline has

pub record IsOutline (outline : Outline) : Type 0 where
  pub types : AreTypes outline.types
  pub few_in_setup : length outline.setup ≤ MAX_STATEMENTS
  pub few_sessions : length outline.scripts ≤ MAX_SESSIONS
  pub few_in_sessions : All (λ script. length script.statements ≤ MAX_STATEMENTS) outline.scripts
  pub names_differ : AllPairs (λ a b. a.name ≢ b.name) outline.scripts
