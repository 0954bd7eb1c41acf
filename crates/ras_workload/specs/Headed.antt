-- What a text is by its headings from a line on.
use Rattle.std.specs.Prelude.{ℕ, List, [], ◌∷◌, drop}
use Rattle.spec_grammar.specs.Tokens.{Text}
use Rattle.spec_workloads.specs.Outline.{OutlineFault, bad_heading, no_end}
use Rattle.spec_workloads.specs.Sections.{Headed, Section, headed_from, lines_of}

-- the line begins at the place
unfoldable pub headed_at : (line place : ℕ) → Text → Headed
headed_at line place text = headed_from line place (lines_of (drop place text))

-- the fault of a body that the next heading cuts off, or else the text's end
abbrev pub cut_by : List Section → OutlineFault
cut_by [] = no_end
cut_by (section ∷ later) = bad_heading section.line
