-- A text by its headings, one line at a time.
use Rattle.std.proofs.Common.{◌≡◌, ℕ, suc, ◌+◌, ◌-◌, ◌<◌, ◌≤◌, ◌==◌, Bool, true, false, List, [], ◌∷◌, ◌++◌, length, length-drop, length-take-le, take, take-add, drop, get_or, drop-cons, refl, append_assoc, ne_eqb, Err, ap, ap₂, sym, subst, ◌∙◌, arith}
use Rattle.std.specs.Prelude.{slice_index, slice_range}
use Rattle.std.proofs.lemmas.List.{append-nil, drop_all, drop-drop}
use Rattle.spec_grammar.specs.Tokens.{Text}
use Rattle.spec_workloads.specs.Sections.{Headed, Section, headed, headed_from, is_heading, lines_of, with_line, without_blank_end}
use Rattle.spec_workloads.specs.Outline.{OutlineFault, bad_heading, no_end, outline_in, outline_of}
use Rattle.ras_workload.specs.Headed.{cut_by, headed_at}
use Rattle.ras_workload.specs.Lines.{line_length}
use Rattle.ras_workload.proofs.ByLine.{line_at, line_length-some, line_length-within}

-- ---- ranges of a text

pub range_is : (text : Text) (from to : ℕ) → from < to → from < length text → slice_range text from to ≡ slice_index text from ∷ take (to - suc from) (drop (suc from) text)
range_is text from to some within =
    let n : to - from ≡ suc (to - suc from) = omega arith in
    ap₂ take n (drop-cons text from 0 within)

pub ranges_join : (text : Text) (a b c : ℕ) → a ≤ b → b ≤ c → c ≤ length text → slice_range text a b ++ slice_range text b c ≡ slice_range text a c
ranges_join text a b c low high within =
    let there : drop b text ≡ drop (b - a) (drop a text) = let k : b ≡ a + (b - a) = omega arith in ap (λ n. drop n text) k ∙ sym (drop-drop (b - a) a text) in
    ap (λ (r : Text). take (b - a) (drop a text) ++ take (c - b) r) there ∙ sym (take-add (b - a) (c - b) (drop a text)) ∙ ap (λ n. take n (drop a text)) (omega arith)

length_range : (text : Text) (a b : ℕ) → a ≤ b → b ≤ length text → length (slice_range text a b) ≡ b - a
length_range text a b low within = length-take-le (b - a) (drop a text) (omega (arith, length-drop a text))

-- ---- lines

module _ (line behind : ℕ) (text : Text) (later : Headed) where
  abbrev headed_line : Headed
  headed_line = record { front = []; sections = record { line = line; heading = without_blank_end text; behind = behind; body = later.front } ∷ later.sections }

  abbrev other_line : Headed
  other_line = record { front = text ++ later.front; sections = later.sections }

  with_line-heading : is_heading text ≡ true → with_line line behind text later ≡ headed_line
  with_line-heading is = at (is_heading text) is
    where
      at : (v : Bool) → v ≡ true → elim v as (λ _. Headed) [ true ↦ headed_line | false ↦ other_line ] ≡ headed_line
      at true is = refl
      at false is = absurd cc

  with_line-other : is_heading text ≡ false → with_line line behind text later ≡ other_line
  with_line-other is = at (is_heading text) is
    where
      at : (v : Bool) → v ≡ false → elim v as (λ _. Headed) [ true ↦ headed_line | false ↦ other_line ] ≡ other_line
      at true is = absurd cc
      at false is = refl

module _ (text : Text) (line at end : ℕ) (after : at < end) (within : end ≤ length text)
    (is : lines_of (drop at text) ≡ slice_range text at end ∷ lines_of (drop end text)) where
  line_taken : headed_at line at text ≡ with_line line end (slice_range text at end) (headed_at (suc line) end text)
  unfolding headed_at
  line_taken =
      let place : at + length (slice_range text at end) ≡ end = omega (arith, length_range text at end (omega arith) within) in
      ap (headed_from line at) is ∙ ap (λ n. with_line line n (slice_range text at end) (headed_from (suc line) n (lines_of (drop end text)))) place

  opens : is_heading (slice_range text at end) ≡ (slice_index text at == 35)
  opens = ap is_heading (range_is text at end after (omega arith))

  pub heading_taken : slice_index text at ≡ 35 → headed_at line at text ≡ headed_line line end (slice_range text at end) (headed_at (suc line) end text)
  heading_taken hash = line_taken ∙ with_line-heading line end (slice_range text at end) (headed_at (suc line) end text) (opens ∙ ap (λ b. b == 35) hash)

  pub other_taken : (slice_index text at == 35) ≡ false → headed_at line at text ≡ other_line line end (slice_range text at end) (headed_at (suc line) end text)
  other_taken other = line_taken ∙ with_line-other line end (slice_range text at end) (headed_at (suc line) end text) (opens ∙ other)

pub text_ended : (text : Text) (line at : ℕ) → length text ≤ at → headed_at line at text ≡ record { front = []; sections = [] }
unfolding headed_at
text_ended text line at past = ap (λ t. headed_from line at (lines_of t)) (drop_all at text past)

-- ---- what stands at a line's start

module _ (text : Text) (line at end : ℕ) (after : at < end) (within : end ≤ length text)
    (is : lines_of (drop at text) ≡ slice_range text at end ∷ lines_of (drop end text)) where
  pub heading_behind : slice_index text at ≡ 35 → headed_at line at text ≡ record {
    front = [];
    sections = record { line = line; heading = without_blank_end (slice_range text at end); behind = end; body = (headed_at (line + 1) end text).front }
        ∷ (headed_at (line + 1) end text).sections;
  }
  heading_behind hash =
      let next : suc line ≡ line + 1 = omega arith in
      heading_taken text line at end after within is hash ∙ ap (λ n. headed_line line end (slice_range text at end) (headed_at n end text)) next

  pub other_behind : (slice_index text at ≡ 35 → ⊥) → headed_at line at text
      ≡ record { front = slice_range text at end ++ (headed_at (line + 1) end text).front; sections = (headed_at (line + 1) end text).sections }
  other_behind other =
      let next : suc line ≡ line + 1 = omega arith in
      other_taken text line at end after within is (ne_eqb (slice_index text at) 35 other)
      ∙ ap (λ n. other_line line end (slice_range text at end) (headed_at n end text)) next

  -- what was passed, with one line more
  pub passes_line : (from first : ℕ) → from ≤ at → (slice_index text at ≡ 35 → ⊥)
      → headed_at first from text ≡ record { front = slice_range text from at ++ (headed_at line at text).front; sections = (headed_at line at text).sections }
      → headed_at first from text ≡ record { front = slice_range text from end ++ (headed_at (line + 1) end text).front; sections = (headed_at (line + 1) end text).sections }
  passes_line from first low other so_far =
      so_far ∙ ap (λ (h : Headed). record { front = slice_range text from at ++ h.front; sections = h.sections }) (other_behind other)
      ∙ ap (λ (t : Text). record { front = t; sections = (headed_at (line + 1) end text).sections })
      (sym (append_assoc (slice_range text from at) (slice_range text at end) (headed_at (line + 1) end text).front)
      ∙ ap (λ (t : Text). t ++ (headed_at (line + 1) end text).front) (ranges_join text from at end low (omega arith) within))

-- a heading stands there, or the text ends
module _ (text : Text) (line at : ℕ) where
  line_there : at < length text → lines_of (drop at text) ≡ slice_range text at (at + line_length (drop at text)) ∷ lines_of (drop (at + line_length (drop at text)) text)
  line_there within = line_at text at (at + line_length (drop at text)) within refl

  after_line : at < length text → (at < at + line_length (drop at text)) × (at + line_length (drop at text) ≤ length text)
  after_line within = (
    omega (arith, line_length-some (drop at text) (omega (arith, length-drop at text))),
    omega (arith, line_length-within (drop at text), length-drop at text),
  )

  pub front_none : slice_index text at ≡ 35 → at < length text → (headed_at line at text).front ≡ []
  front_none hash within =
      let bounds = after_line within in
      ap (λ (h : Headed). h.front) (heading_behind text line at (at + line_length (drop at text)) bounds.0 bounds.1 (line_there within) hash)

  pub front_ended : length text ≤ at → (headed_at line at text).front ≡ []
  front_ended past = ap (λ (h : Headed). h.front) (text_ended text line at past)

  pub passed : (from first : ℕ) → (headed_at line at text).front ≡ []
      → headed_at first from text ≡ record { front = slice_range text from at ++ (headed_at line at text).front; sections = (headed_at line at text).sections }
      → headed_at first from text ≡ record { front = slice_range text from at; sections = (headed_at line at text).sections }
  passed from first none so_far =
      so_far ∙ ap (λ (t : Text). record { front = t; sections = (headed_at line at text).sections })
      (ap (λ (t : Text). slice_range text from at ++ t) none ∙ append-nil (slice_range text from at))

  pub cut_heading : slice_index text at ≡ 35 → at < length text → cut_by (headed_at line at text).sections ≡ bad_heading line
  cut_heading hash within =
      let bounds = after_line within in
      ap (λ (h : Headed). cut_by h.sections) (heading_behind text line at (at + line_length (drop at text)) bounds.0 bounds.1 (line_there within) hash)

  pub cut_ended : length text ≤ at → cut_by (headed_at line at text).sections ≡ no_end
  cut_ended past = ap (λ (h : Headed). cut_by h.sections) (text_ended text line at past)

  pub other_front : (slice_index text at ≡ 35 → ⊥) → at < length text → (b : ℕ) × (bytes : Text) × ((headed_at line at text).front ≡ b ∷ bytes)
  other_front other within =
      let bounds = after_line within in
      let end : ℕ = at + line_length (drop at text) in (
        slice_index text at,
        take (at + line_length (drop at text) - suc at) (drop (suc at) text) ++ (headed_at (line + 1) (at + line_length (drop at text)) text).front,
        ap (λ (h : Headed). h.front) (other_behind text line at (at + line_length (drop at text)) bounds.0 bounds.1 (line_there within) other)
            ∙ ap (λ (t : Text). t ++ (headed_at (line + 1) (at + line_length (drop at text)) text).front) (range_is text at (at + line_length (drop at text)) bounds.0 within),
      )

-- ---- the whole text

pub outline_by : (text : Text) (sections : List Section) → headed text ≡ record { front = []; sections = sections } → outline_of text ≡ outline_in [] sections
unfolding outline_of
outline_by text sections is = ap (λ (h : Headed). outline_in h.front h.sections) is

pub headed_first : (text : Text) → 0 < length text → slice_index text 0 ≡ 35 → headed text ≡ record { front = []; sections = (headed_at 1 0 text).sections }
unfolding headed_at
headed_first text some hash = ap (λ (t : Text). record { front = t; sections = (headed text).sections }) (front_none text 1 0 hash some)

pub no_text : (text : Text) → text ≡ [] → outline_of text ≡ Err (bad_heading 1)
unfolding outline_of
no_text text none = ap outline_of none

pub no_heading : (text : Text) → 0 < length text → (slice_index text 0 ≡ 35 → ⊥) → outline_of text ≡ Err (bad_heading 1)
unfolding outline_of headed_at
no_heading text some other =
    let (b, bytes, is) = other_front text 1 0 other some in
    ap (λ (t : Text). outline_in t (headed text).sections) is
