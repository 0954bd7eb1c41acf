-- An event answers one statement at most, so there are no more answered statements than events that answer.
use Rattle.std.proofs.Common.{◌≡◌, ℕ, ◌+◌, ◌≤◌, inl, inr, Bool, true, false, ◌&&◌, ◌||◌, eqb, [], ◌∷◌, length, refl, sym, subst, ap, ◌∙◌, arith, length-append, cond}
use Rattle.std.specs.Prelude.{IsTrue, is_some, not}
use Rattle.std.specs.List.{list_any}
use Rattle.std.proofs.lemmas.Bool.{and_parts, or_parts, or_cases, eqb-true, not-true, cases_eq, ne_eqb, false≢true, eq-eqb, false_from_ne_true}
use Rattle.ras_syntax.specs.declared.event.Event.{Event}
use Rattle.ras_syntax.specs.declared.event.Event.TheVariants.{Begun, Granted, Refused, Answered, GaveUp, Committed, Aborted}
use Rattle.spec_histories.specs.History.{History, Programs, answered_statements, begun_at, ends, is_live, events_of, owner_of}
use Rattle.spec_histories.specs.Legal.{IsLegal}
use Rattle.spec_histories.specs.Serializable.{HasRoom, answer_count, committed_statements, is_answered}
use Rattle.law_histories.proofs.Grants.{answer_count-cons, answered-few}
use Rattle.law_histories.proofs.Owners.{mine-own, mine-other}

-- room for a history is room for the one before its last event
pub room-before : (bound : ℕ) (event : Event) (past : History) → HasRoom bound (event ∷ past) → HasRoom bound past
room-before bound event past room = omega (arith, answer_count-cons event past)

-- ---- counts of answers by owners

abbrev owned : (ℕ → Bool) → History → ℕ
owned chosen [] = 0
owned chosen (event ∷ past) = cond (is_answered event && chosen (owner_of event)) 1 0 + owned chosen past

more-own : (c a b : Bool) (x y n l : ℕ) → a ≡ false → b ≡ true → l ≡ cond c 1 0 + n → x ≡ y + n → cond (c && (a || b)) 1 0 + x ≡ cond (c && a) 1 0 + y + l
more-own c true b x y n l none here long is = absurd cc
more-own c false false x y n l none here long is = absurd cc
more-own true false true x y n l none here long is = omega arith
more-own false false true x y n l none here long is = omega arith

more-other : (c a b : Bool) (x y n l : ℕ) → b ≡ false → l ≡ n → x ≡ y + n → cond (c && (a || b)) 1 0 + x ≡ cond (c && a) 1 0 + y + l
more-other c a true x y n l none long is = absurd cc
more-other false a false x y n l none long is = omega arith
more-other true true false x y n l none long is = omega arith
more-other true false false x y n l none long is = omega arith

-- those of chosen owners and of one more
owned-more : (chosen : ℕ → Bool) (t : ℕ) (past : History) → chosen t ≡ false → owned (λ u. chosen u || eqb u t) past ≡ owned chosen past + answer_count (events_of t past)
owned-more chosen t [] none = refl
owned-more chosen t (event ∷ past) none = elim (cases_eq (owner_of event) t) [
  | inl is ↦ more-own (is_answered event) (chosen (owner_of event)) (eqb (owner_of event) t) _ _ _ _ (subst (λ u. chosen u ≡ false) (sym is) none) (eq-eqb _ _ is)
      (ap (λ m. answer_count m) (mine-own t event past is) ∙ answer_count-cons event (events_of t past)) (owned-more chosen t past none)
  | inr other ↦ more-other (is_answered event) (chosen (owner_of event)) (eqb (owner_of event) t) _ _ _ _ (ne_eqb _ _ other)
      (ap (λ m. answer_count m) (mine-other t event past other)) (owned-more chosen t past none)
]

-- none of the chosen has ended
abbrev HaveNotEnded : (ℕ → Bool) → History → Type 0
HaveNotEnded chosen past = (t : ℕ) → chosen t ≡ true → list_any ends (events_of t past) ≡ false

ended-later : (chosen : ℕ → Bool) (event : Event) (past : History) → HaveNotEnded chosen (event ∷ past) → HaveNotEnded chosen past
ended-later chosen event past going t of = elim (cases_eq (owner_of event) t) [
  | inl is ↦ (or_parts (ends event) (list_any ends (events_of t past)) (subst (λ m. list_any ends m ≡ false) (mine-own t event past is) (going t of))).1
  | inr other ↦ subst (λ m. list_any ends m ≡ false) (mine-other t event past other) (going t of)
]

-- the one that ends is not chosen
ends-unchosen : (chosen : ℕ → Bool) (event : Event) (past : History) → ends event ≡ true → HaveNotEnded chosen (event ∷ past) → chosen (owner_of event) ≡ false
ends-unchosen chosen event past end going =
    false_from_ne_true (chosen (owner_of event)) λ of. false≢true
    (sym (or_parts (ends event) (list_any ends (events_of (owner_of event) past))
    (subst (λ m. list_any ends m ≡ false) (mine-own (owner_of event) event past refl) (going (owner_of event) of))).0 ∙ end)

-- the committed statements, and the answers of any that have not ended, are together no more than the answers
pub committed-few : (programs : Programs) (chosen : ℕ → Bool) (past : History) → IsLegal programs past → HaveNotEnded chosen past
    → length (committed_statements programs past) + owned chosen past ≤ answer_count past
committed-few programs chosen [] legal going = omega arith
committed-few programs chosen (Begun u s n ∷ past) legal going = omega (arith, committed-few programs chosen past legal.1 (ended-later chosen (Begun u s n) past going))
committed-few programs chosen (Granted u n q list ∷ past) legal going = omega (arith, committed-few programs chosen past legal.1 (ended-later chosen (Granted u n q list) past going))
committed-few programs chosen (Refused u n q name mode holder ∷ past) legal going =
    omega (arith, committed-few programs chosen past legal.1 (ended-later chosen (Refused u n q name mode holder) past going))
committed-few programs chosen (Answered u n answer ∷ past) legal going =
    one_more (chosen u) (owned chosen past) (answer_count past) _ (length (committed_statements programs past)) (answer_count-cons (Answered u n answer) past)
    (committed-few programs chosen past legal.1 (ended-later chosen (Answered u n answer) past going))
  where
    one_more : (a : Bool) (x n m c : ℕ) → m ≡ 1 + n → c + x ≤ n → c + (cond a 1 0 + x) ≤ m
    one_more true x n m c more few = omega arith
    one_more false x n m c more few = omega arith
committed-few programs chosen (GaveUp u n ∷ past) legal going = omega (arith, committed-few programs chosen past legal.1 (ended-later chosen (GaveUp u n) past going))
committed-few programs chosen (Aborted u ∷ past) legal going = omega (arith, committed-few programs chosen past legal.1 (ended-later chosen (Aborted u) past going))
committed-few programs chosen (Committed u n ∷ past) legal going =
    omega (
      arith,
      length-append (committed_statements programs past) (answered_statements programs (events_of u past)),
      answered-few programs (events_of u past),
      owned-more chosen u past (ends-unchosen chosen (Committed u n) past refl going),
      committed-few programs (λ t. chosen t || eqb t u) past legal.1 with_one,
    )
  where
    with_one : HaveNotEnded (λ t. chosen t || eqb t u) past
    with_one t of = elim (or_cases (chosen t) (eqb t u) of) [
      | inl chosen_too ↦ ended-later chosen (Committed u n) past going t chosen_too
      | inr same ↦ subst (λ v. list_any ends (events_of v past) ≡ false) (sym (eqb-true t u same))
          (not-true (list_any ends (events_of u past)) (and_parts (is_some (begun_at (events_of u past))) (not (list_any ends (events_of u past))) legal.0.0).1)
    ]

-- so are the committed statements and those that a live transaction had answered
pub live-few : (programs : Programs) (past : History) (t : ℕ) → IsLegal programs past → IsTrue (is_live t past)
    → length (committed_statements programs past) + length (answered_statements programs (events_of t past)) ≤ answer_count past
live-few programs past t legal live = omega (arith, committed-few programs (λ u. eqb u t) past legal only, owned-more (λ u. false) t past refl, answered-few programs (events_of t past))
  where
    only : HaveNotEnded (λ u. eqb u t) past
    only u same = subst (λ v. list_any ends (events_of v past) ≡ false) (sym (eqb-true u t same))
        (not-true (list_any ends (events_of t past)) (and_parts (is_some (begun_at (events_of t past))) (not (list_any ends (events_of t past))) live).1)
