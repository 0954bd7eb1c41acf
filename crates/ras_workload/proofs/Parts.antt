-- Statements between semicolons, one at a time.
use Rattle.std.proofs.Common.{◌≡◌, ℕ, suc, ◌+◌, ◌<◌, ◌≤◌, Bool, true, false, not, ◌==◌, List, [], ◌∷◌, length, length-drop, nat_lt, ltb-true, ltb-false, ◌-◌, take, drop, drop-cons, take_all, refl, ap, sym, subst, ◌∙◌, arith}
use Rattle.std.specs.Prelude.{codes, slice_range}
use Rattle.std.proofs.lemmas.List.{drop_all, drop-drop}
use Rattle.spec_grammar.specs.Tokens.{Text, begins_with, is_line_feed}
use Rattle.spec_workloads.specs.Sections.{Piece, Pieces, Section, line_feeds, parted_from, parts_of, piece_of, pieces_from, pieces_of, to_first}
use Rattle.ras_workload.specs.Lines.{part_length}
use Rattle.ras_workload.specs.Pieces.{parts_behind, pieces_on}

pub part_length-within : (in_comment : Bool) (text : Text) → part_length in_comment text ≤ length text
part_length-within true [] = omega arith
part_length-within false [] = omega arith
part_length-within true (b ∷ bytes) = omega (arith, part_length-within (not (is_line_feed b)) bytes)
part_length-within false (b ∷ bytes) = at (b == 59) (part_length-within (begins_with (codes "--") (b ∷ bytes)) bytes)
  where
    at : (v : Bool) → part_length (begins_with (codes "--") (b ∷ bytes)) bytes ≤ length bytes
        → elim v as (λ _. ℕ) [ true ↦ 0 | false ↦ suc (part_length (begins_with (codes "--") (b ∷ bytes)) bytes) ] ≤ suc (length bytes)
    at true is = omega arith
    at false is = omega arith

pub parts_are : (in_comment : Bool) (text : Text) → parts_of in_comment text ≡ take (part_length in_comment text) text ∷ parts_behind (drop (part_length in_comment text) text)
parts_are true [] = refl
parts_are false [] = refl
parts_are true (b ∷ bytes) = ap (to_first b) (parts_are (not (is_line_feed b)) bytes)
parts_are false (b ∷ bytes) = at (b == 59) (ap (to_first b) (parts_are (begins_with (codes "--") (b ∷ bytes)) bytes))
  where
    at : (v : Bool) → to_first b (parts_of (begins_with (codes "--") (b ∷ bytes)) bytes)
        ≡ (b ∷ take (part_length (begins_with (codes "--") (b ∷ bytes)) bytes) bytes) ∷ parts_behind (drop (part_length (begins_with (codes "--") (b ∷ bytes)) bytes) bytes)
        → elim v as (λ _. List Text) [ true ↦ [] ∷ parts_of false bytes | false ↦ to_first b (parts_of (begins_with (codes "--") (b ∷ bytes)) bytes) ]
        ≡ take (elim v as (λ _. ℕ) [ true ↦ 0 | false ↦ suc (part_length (begins_with (codes "--") (b ∷ bytes)) bytes) ]) (b ∷ bytes)
        ∷ parts_behind (drop (elim v as (λ _. ℕ) [ true ↦ 0 | false ↦ suc (part_length (begins_with (codes "--") (b ∷ bytes)) bytes) ]) (b ∷ bytes))
    at true is = refl
    at false is = is

-- ---- pieces

-- no semicolon: all is behind the last one
pub last_piece : (line : ℕ) (text : Text) → part_length false text ≡ length text → pieces_on line text ≡ record { closed = []; rest = piece_of line text }
unfolding pieces_on
last_piece line text is =
    ap (λ ps. parted_from line (pieces_from line ps))
    (parts_are false text ∙ ap (λ n. take n text ∷ parts_behind (drop n text)) is
    ∙ ap (λ (t : Text). t ∷ parts_behind (drop (length text) text)) (take_all (length text) text (omega arith))
    ∙ ap (λ (t : Text). text ∷ parts_behind t) (drop_all (length text) text (omega arith)))

-- a piece before a semicolon, and those behind it
abbrev pub piece_before : Piece → Pieces → Pieces
piece_before piece more = record { closed = piece ∷ more.closed; rest = more.rest }

pub next_piece : (line : ℕ) (text : Text) → part_length false text < length text
    → pieces_on line text ≡ piece_before (piece_of line (take (part_length false text) text))
    (pieces_on (line + line_feeds (take (part_length false text) text)) (drop (suc (part_length false text)) text))
unfolding pieces_on
next_piece line text within =
    ap (λ ps. parted_from line (pieces_from line ps)) (parts_are false text ∙ ap (λ (t : Text). part ∷ parts_behind t) (drop-cons text len 0 within))
    ∙ subst joined (sym (parts_are false behind)) refl
  where
    len : ℕ
    len = part_length false text

    part : Text
    part = take (part_length false text) text

    behind : Text
    behind = drop (suc (part_length false text)) text

    joined : List Text → Type 0
    joined ps = parted_from line (pieces_from line (take (part_length false text) text ∷ ps))
        ≡ piece_before (piece_of line (take (part_length false text) text))
        (parted_from (line + line_feeds (take (part_length false text) text)) (pieces_from (line + line_feeds (take (part_length false text) text)) ps))

pub pieces_behind : (section : Section) → pieces_on (section.line + 1) section.body ≡ pieces_of section
unfolding pieces_on
pieces_behind section = let next : section.line + 1 ≡ suc section.line = omega arith in ap (λ n. pieces_on n section.body) next

-- ---- pieces from a place on

module _ (line : ℕ) (body : Text) (at end : ℕ) (is : end ≡ at + part_length false (drop at body)) where
  pub next_at : end < length body → pieces_on line (drop at body)
      ≡ piece_before (piece_of line (slice_range body at end)) (pieces_on (line + line_feeds (slice_range body at end)) (drop (end + 1) body))
  next_at within =
      let len : end - at ≡ part_length false (drop at body) = omega arith in
      let place : at + suc (part_length false (drop at body)) ≡ end + 1 = omega arith in
      next_piece line (drop at body) (omega (arith, length-drop at body))
      ∙ ap (λ n. piece_before (piece_of line (take n (drop at body))) (pieces_on (line + line_feeds (take n (drop at body))) (drop (suc (part_length false (drop at body))) (drop at body)))) (sym len)
      ∙ ap (λ (t : Text). piece_before (piece_of line (slice_range body at end)) (pieces_on (line + line_feeds (slice_range body at end)) t))
      (drop-drop (suc (part_length false (drop at body))) at body ∙ ap (λ n. drop n body) place)

  pub last_at : length body ≤ end → pieces_on line (drop at body) ≡ record { closed = []; rest = piece_of line (drop at body) }
  last_at past = last_piece line (drop at body) (omega (arith, length-drop at body, part_length-within false (drop at body)))

-- where no piece is closed, the rest is all
pub last_of : (line : ℕ) (text : Text) → (pieces_on line text).closed ≡ [] → (pieces_on line text).rest ≡ piece_of line text
last_of line text none = cases (nat_lt (part_length false text) (length text)) refl
  where
    cases : (v : Bool) → nat_lt (part_length false text) (length text) ≡ v → (pieces_on line text).rest ≡ piece_of line text
    cases true is =
        let e = next_piece line text (ltb-true (part_length false text) (length text) is) in
        let some : [] ≡ piece_of line (take (part_length false text) text) ∷ (pieces_on (line + line_feeds (take (part_length false text) text)) (drop (suc (part_length false text)) text)).closed
        = sym none ∙ ap (λ (p : Pieces). p.closed) e in
        absurd cc
    cases false is = ap (λ (p : Pieces). p.rest)
        (last_piece line text (omega (arith, ltb-false (part_length false text) (length text) is, part_length-within false text)))
