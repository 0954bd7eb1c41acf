-- The statements of a section, one after the other, are those that are told of it.
use Rattle.std.proofs.Common.{◌≡◌, ℕ, suc, ◌+◌, ◌-◌, ◌<◌, ◌≤◌, nat_lt, ltb-true, ltb-false, Bool, true, false, ◌⊎◌, inl, inr, List, [], ◌∷◌, ◌++◌, length, length-append, append_assoc, map, drop, Result, Ok, Err, refl, ap, ap₂, sym, subst, ◌∙◌, arith}
use Rattle.std.proofs.lemmas.List.{append-nil, drop_all}
use Rattle.ras_cells.specs.Outcomes.{◌>>=◌}
use Rattle.ras_syntax.specs.declared.limits.TheConstants.{MAX_STATEMENTS}
use Rattle.spec_grammar.specs.Tokens.{Text}
use Rattle.spec_workloads.specs.Outline.{OutlineFault, begun_with, closed_before, none_beyond, provided, section_statements, too_many_statements}
use Rattle.spec_workloads.specs.Sections.{Piece, Pieces, Section, pieces_of}
use Rattle.ras_workload.specs.Texts.{ended, texts_after, with_text}

-- there is room for one more, or there is none
full_or_not : (n : ℕ) → n ≤ MAX_STATEMENTS
    → ((nat_lt n MAX_STATEMENTS ≡ true) × (MAX_STATEMENTS - n ≡ suc (MAX_STATEMENTS - suc n))) ⊎ ((nat_lt n MAX_STATEMENTS ≡ false) × (MAX_STATEMENTS - n ≡ 0))
full_or_not n few = at (nat_lt n MAX_STATEMENTS) refl
  where
    at : (v : Bool) → nat_lt n MAX_STATEMENTS ≡ v
        → ((nat_lt n MAX_STATEMENTS ≡ true) × (MAX_STATEMENTS - n ≡ suc (MAX_STATEMENTS - suc n))) ⊎ ((nat_lt n MAX_STATEMENTS ≡ false) × (MAX_STATEMENTS - n ≡ 0))
    at true is = inl (is, omega (arith, ltb-true n MAX_STATEMENTS is))
    at false is = inr (is, omega (arith, ltb-false n MAX_STATEMENTS is))

begun_behind : (rest : Text) (piece : Piece) (pieces : List Piece) (last : Piece)
    → begun_with rest (record { closed = piece ∷ pieces; rest = last }) ≡ piece ∷ begun_with rest (record { closed = pieces; rest = last })
begun_behind [] piece pieces last = refl
begun_behind (b ∷ bytes) piece pieces last = refl

-- where something stands behind the last semicolon, the texts don't matter
closed_alike : (b : ℕ) (bytes : Text) (later : List Section) (some others : List Text) → closed_before (b ∷ bytes) later some ≡ closed_before (b ∷ bytes) later others
closed_alike b bytes [] some others = refl
closed_alike b bytes (section ∷ later) some others = refl

module _ (last : Piece) (later : List Section) where
  -- what is told where these texts were read before
  abbrev told_behind : List Text → List Piece → Text → Result (List Text) OutlineFault
  told_behind texts pieces rest =
      none_beyond (drop (MAX_STATEMENTS - length texts) (begun_with rest (record { closed = pieces; rest = last })))
      >>= λ few. closed_before rest later (texts ++ map (λ piece. piece.text) pieces)

  at_end : (texts : List Text) (rest : Text) → length texts ≤ MAX_STATEMENTS → ended texts last.line rest later ≡ told_behind texts [] rest
  at_end texts [] few =
      ap (λ (xs : List Text). let r : Result (List Text) OutlineFault = Ok xs in r) (sym (append-nil texts))
      ∙ ap (λ (ps : List Piece). none_beyond ps >>= λ few. closed_before [] later (texts ++ [])) (sym (drop_all (MAX_STATEMENTS - length texts) [] (omega arith)))
  at_end texts (b ∷ bytes) few = at (full_or_not (length texts) few)
    where
      goes : Bool → ℕ → Type 0
      goes v n = provided v (too_many_statements last.line) (closed_before (b ∷ bytes) later texts)
          ≡ (none_beyond (drop n (last ∷ [])) >>= λ few. closed_before (b ∷ bytes) later (texts ++ []))

      room : (n : ℕ) → goes true (suc n)
      room n = closed_alike b bytes later texts (texts ++ [])
          ∙ ap (λ (ps : List Piece). none_beyond ps >>= λ few. closed_before (b ∷ bytes) later (texts ++ [])) (sym (drop_all n [] (omega arith)))

      at : ((nat_lt (length texts) MAX_STATEMENTS ≡ true) × (MAX_STATEMENTS - length texts ≡ suc (MAX_STATEMENTS - suc (length texts))))
          ⊎ ((nat_lt (length texts) MAX_STATEMENTS ≡ false) × (MAX_STATEMENTS - length texts ≡ 0)) → goes (nat_lt (length texts) MAX_STATEMENTS) (MAX_STATEMENTS - length texts)
      at (inl (is, more)) = subst (λ v. goes v (MAX_STATEMENTS - length texts)) (sym is) (subst (λ n. goes true n) (sym more) (room (MAX_STATEMENTS - suc (length texts))))
      at (inr (is, none)) = subst (λ v. goes v (MAX_STATEMENTS - length texts)) (sym is) (subst (λ n. goes false n) (sym none) refl)

  same_texts : (texts : List Text) (pieces : List Piece) → length texts ≤ MAX_STATEMENTS → texts_after texts pieces last later ≡ told_behind texts pieces last.text
  same_texts texts [] few = at_end texts last.text few
  same_texts texts (piece ∷ pieces) few = at (full_or_not (length texts) few) (same_texts (texts ++ piece.text ∷ []) pieces)
      ∙ ap (λ (ps : List Piece). none_beyond (drop (MAX_STATEMENTS - length texts) ps) >>= λ few. closed_before last.text later (texts ++ map (λ piece. piece.text) (piece ∷ pieces)))
      (sym (begun_behind last.text piece pieces last))
    where
      goes : Bool → ℕ → Type 0
      goes v n = (provided v (too_many_statements piece.line) (Ok (texts ++ piece.text ∷ [])) >>= λ more. texts_after more pieces last later)
          ≡ (none_beyond (drop n (piece ∷ begun_with last.text (record { closed = pieces; rest = last })))
          >>= λ few. closed_before last.text later (texts ++ map (λ piece. piece.text) (piece ∷ pieces)))

      len : length (texts ++ piece.text ∷ []) ≡ suc (length texts)
      len = omega (arith, length-append texts (piece.text ∷ []))

      at : ((nat_lt (length texts) MAX_STATEMENTS ≡ true) × (MAX_STATEMENTS - length texts ≡ suc (MAX_STATEMENTS - suc (length texts))))
          ⊎ ((nat_lt (length texts) MAX_STATEMENTS ≡ false) × (MAX_STATEMENTS - length texts ≡ 0))
          → (length (texts ++ piece.text ∷ []) ≤ MAX_STATEMENTS → texts_after (texts ++ piece.text ∷ []) pieces last later ≡ told_behind (texts ++ piece.text ∷ []) pieces last.text)
          → goes (nat_lt (length texts) MAX_STATEMENTS) (MAX_STATEMENTS - length texts)
      at (inl (is, more)) same = subst (λ v. goes v (MAX_STATEMENTS - length texts)) (sym is) (subst (λ n. goes true n) (sym more)
          (same (omega (arith, len, ltb-true (length texts) MAX_STATEMENTS is))
          ∙ ap₂ (λ (n : ℕ) (xs : List Text). none_beyond (drop (MAX_STATEMENTS - n) (begun_with last.text (record { closed = pieces; rest = last }))) >>= λ few. closed_before last.text later xs)
          len (append_assoc texts (piece.text ∷ []) (map (λ piece. piece.text) pieces))))
      at (inr (is, none)) same = subst (λ v. goes v (MAX_STATEMENTS - length texts)) (sym is) (subst (λ n. goes false n) (sym none) refl)

pub statements_are : (section : Section) (later : List Section)
    → section_statements section later ≡ texts_after [] (pieces_of section).closed (pieces_of section).rest later
statements_are section later = sym (same_texts (pieces_of section).rest later [] (pieces_of section).closed (omega arith))
