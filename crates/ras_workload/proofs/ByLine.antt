-- Lines, byte by byte.
use Rattle.std.proofs.Common.{◌≡◌, ℕ, suc, ◌+◌, ◌-◌, ◌<◌, ◌≤◌, Bool, true, false, not, cond, List, [], ◌∷◌, ◌++◌, length, length-drop, take, drop, min, get_or, take-suc, take_all, refl, ap, sym, subst, ◌∙◌, arith}
use Rattle.std.specs.Prelude.{count_by, slice_range}
use Rattle.std.specs.List.{prefix_len}
use Rattle.std.proofs.lemmas.List.{drop-drop}
use Rattle.std.proofs.lemmas.List.Recursion.{is_count_by}
use Rattle.spec_grammar.specs.Tokens.{Text, is_blank, is_line_feed}
use Rattle.spec_workloads.specs.Sections.{line_feeds, lines_of, to_first, unless_blank, without_blank_end}
use Rattle.ras_workload.specs.Lines.{line_length}

-- ---- the first line

pub line_length_is : (text : Text) → line_length text ≡ min (length text) (prefix_len (λ b. not (is_line_feed b)) text + 1)
line_length_is [] = refl
line_length_is (b ∷ bytes) = at (is_line_feed b) (line_length_is bytes)
  where
    at : (v : Bool) → line_length bytes ≡ min (length bytes) (prefix_len (λ b. not (is_line_feed b)) bytes + 1)
        → elim v as (λ _. ℕ) [ true ↦ 1 | false ↦ suc (line_length bytes) ]
        ≡ min (suc (length bytes)) (cond (not v) (1 + prefix_len (λ b. not (is_line_feed b)) bytes) 0 + 1)
    at true is = omega arith
    at false is = omega arith

pub line_length-within : (text : Text) → line_length text ≤ length text
line_length-within text = omega (arith, line_length_is text)

pub line_length-some : (text : Text) → 0 < length text → 0 < line_length text
line_length-some text some = omega (arith, line_length_is text)

pub first_line : (b : ℕ) (bytes : Text) → lines_of (b ∷ bytes) ≡ take (line_length (b ∷ bytes)) (b ∷ bytes) ∷ lines_of (drop (line_length (b ∷ bytes)) (b ∷ bytes))
first_line b [] = at (is_line_feed b)
  where
    at : (v : Bool) → elim v as (λ _. List Text) [ true ↦ (b ∷ []) ∷ [] | false ↦ to_first b [] ]
        ≡ take (elim v as (λ _. ℕ) [ true ↦ 1 | false ↦ 1 ]) (b ∷ []) ∷ lines_of (drop (elim v as (λ _. ℕ) [ true ↦ 1 | false ↦ 1 ]) (b ∷ []))
    at true = refl
    at false = refl
first_line b (c ∷ bytes) = at (is_line_feed b) (ap (to_first b) (first_line c bytes))
  where
    at : (v : Bool) → to_first b (lines_of (c ∷ bytes)) ≡ (b ∷ take (line_length (c ∷ bytes)) (c ∷ bytes)) ∷ lines_of (drop (line_length (c ∷ bytes)) (c ∷ bytes))
        → elim v as (λ _. List Text) [ true ↦ (b ∷ []) ∷ lines_of (c ∷ bytes) | false ↦ to_first b (lines_of (c ∷ bytes)) ]
        ≡ take (elim v as (λ _. ℕ) [ true ↦ 1 | false ↦ suc (line_length (c ∷ bytes)) ]) (b ∷ c ∷ bytes)
        ∷ lines_of (drop (elim v as (λ _. ℕ) [ true ↦ 1 | false ↦ suc (line_length (c ∷ bytes)) ]) (b ∷ c ∷ bytes))
    at true is = refl
    at false is = is

pub line_at : (text : Text) (at end : ℕ) → at < length text → end ≡ at + line_length (drop at text)
    → lines_of (drop at text) ≡ slice_range text at end ∷ lines_of (drop end text)
line_at text at end within is = from (drop at text) refl (omega (arith, length-drop at text))
  where
    from : (rest : Text) → drop at text ≡ rest → 0 < length rest → lines_of (drop at text) ≡ slice_range text at end ∷ lines_of (drop end text)
    from [] same some = absurd (omega arith)
    from (b ∷ bytes) same some =
        let len : end - at ≡ line_length (b ∷ bytes) = omega (arith, is, ap line_length same) in
        let behind : drop end text ≡ drop (line_length (b ∷ bytes)) (b ∷ bytes) =
        ap (λ n. drop n text) (is ∙ ap (λ r. at + line_length r) same) ∙ sym (drop-drop (line_length (b ∷ bytes)) at text) ∙ ap (drop (line_length (b ∷ bytes))) same in
        ap lines_of same ∙ first_line b bytes
        ∙ ap (λ n. take n (b ∷ bytes) ∷ lines_of (drop (line_length (b ∷ bytes)) (b ∷ bytes))) (sym len)
        ∙ ap (λ (r : Text). take (end - at) r ∷ lines_of (drop (line_length (b ∷ bytes)) (b ∷ bytes))) (sym same)
        ∙ ap (λ (r : Text). slice_range text at end ∷ lines_of r) (sym behind)

-- ---- blanks at a line's end

unless_blank-keeps : (b c : ℕ) (front : Text) → unless_blank c (front ++ b ∷ []) ≡ c ∷ front ++ b ∷ []
unless_blank-keeps b c [] = refl
unless_blank-keeps b c (d ∷ front) = refl

pub blank_end : (front : Text) (b : ℕ) → is_blank b ≡ true → without_blank_end (front ++ b ∷ []) ≡ without_blank_end front
blank_end [] b is = ap (λ (v : Bool). elim v as (λ _. Text) [ true ↦ [] | false ↦ b ∷ [] ]) is
blank_end (c ∷ front) b is = ap (unless_blank c) (blank_end front b is)

pub other_end : (front : Text) (b : ℕ) → is_blank b ≡ false → without_blank_end (front ++ b ∷ []) ≡ front ++ b ∷ []
other_end [] b is = ap (λ (v : Bool). elim v as (λ _. Text) [ true ↦ [] | false ↦ b ∷ [] ]) is
other_end (c ∷ front) b is = ap (unless_blank c) (other_end front b is) ∙ unless_blank-keeps b c front

pub end_before : (line : Text) (end : ℕ) → 0 < end → end ≤ length line → take end line ≡ take (end - 1) line ++ get_or line (end - 1) 0 ∷ []
end_before line end some within =
    let same : suc (end - 1) ≡ end = omega arith in
    subst (λ n. take n line ≡ take (end - 1) line ++ get_or line (end - 1) 0 ∷ []) same (take-suc line (end - 1) 0 (omega arith))

-- ---- line feeds

pub feeds_counted : (text : Text) → line_feeds text ≡ count_by is_line_feed text
feeds_counted = is_count_by line_feeds is_line_feed refl (λ b bytes. at (is_line_feed b) (line_feeds bytes))
  where
    at : (v : Bool) (n : ℕ) → elim v as (λ _. ℕ) [ true ↦ suc n | false ↦ n ] ≡ cond v (1 + n) n
    at true n = omega arith
    at false n = refl

pub feeds_within : (text : Text) → line_feeds text ≤ length text
feeds_within [] = omega arith
feeds_within (b ∷ bytes) = at (is_line_feed b) (feeds_within bytes)
  where
    at : (v : Bool) → line_feeds bytes ≤ length bytes → elim v as (λ _. ℕ) [ true ↦ suc (line_feeds bytes) | false ↦ line_feeds bytes ] ≤ suc (length bytes)
    at true is = omega arith
    at false is = omega arith
