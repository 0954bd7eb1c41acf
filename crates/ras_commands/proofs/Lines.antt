-- The texts of sessions and of their lines, one after another.
use Rattle.std.proofs.Common.{◌≡◌, ℕ, zero, suc, ◌+◌, ◌≤◌, List, [], ◌∷◌, ◌++◌, length, take, drop, refl, sym, ◌∙◌, ap, subst, arith, append-nil, append_assoc, add-one}
use Rattle.std.specs.Prelude.{Option, Some, min, slice_get}
use Rattle.ras_commands.specs.Texts.{line_of, lines_of, sessions_of}
use Rattle.ras_commands.specs.declared.checks.StatementCheck.{StatementCheck}
use Rattle.ras_edges.specs.Sink.{Wrote, Stopped}
use Rattle.ras_edges.proofs.Writing.{Wrote-more, Stopped-later, Stopped-longer}
use Rattle.ras_syntax.specs.declared.types.Script.{Script}
use Rattle.spec_grammar.specs.Tokens.{Text}

behind-first : (s a b c : List ℕ) → s ++ ((a ++ b) ++ c) ≡ ((s ++ a) ++ b) ++ c
behind-first s a b c = sym (append_assoc s (a ++ b) c) ∙ ap (λ t. t ++ c) (sym (append_assoc s a b))

-- ---- lines

-- up to the line at a place
pub lines-take : (name : Text) (k i : ℕ) (checks : List StatementCheck) (check : StatementCheck) → slice_get checks i ≡ Some check
    → lines_of name k (take (suc i) checks) ≡ lines_of name k (take i checks) ++ line_of name (k + i) check
lines-take name k i [] check e = absurd cc
lines-take name k zero (c ∷ checks) check e =
    let same : c ≡ check = cc in
    let here : k + zero ≡ k = omega arith in
    rw (same, here) (append-nil (line_of name k check))
lines-take name k (suc i) (c ∷ checks) check e =
    let later : suc k + i ≡ k + suc i = omega arith in
    let rest = lines-take name (suc k) i checks check e in
    ap (λ t. line_of name k c ++ t) (rest ∙ ap (λ (n : ℕ). lines_of name (suc k) (take i checks) ++ line_of name n check) later)
    ∙ sym (append_assoc (line_of name k c) (lines_of name (suc k) (take i checks)) (line_of name (k + suc i) check))

-- all of them are those up to the one at a place, and then more
pub lines-split : (name : Text) (k i : ℕ) (checks : List StatementCheck) (check : StatementCheck) → slice_get checks i ≡ Some check
    → lines_of name k checks ≡ (lines_of name k (take i checks) ++ line_of name (k + i) check) ++ lines_of name (suc (k + i)) (drop (suc i) checks)
lines-split name k i [] check e = absurd cc
lines-split name k zero (c ∷ checks) check e =
    let same : c ≡ check = cc in
    let here : k + zero ≡ k = omega arith in
    rw (same, here) refl
lines-split name k (suc i) (c ∷ checks) check e =
    let later : suc k + i ≡ k + suc i = omega arith in
    let rest = lines-split name (suc k) i checks check e in
    ap (λ t. line_of name k c ++ t)
    (rest ∙ ap (λ (n : ℕ). (lines_of name (suc k) (take i checks) ++ line_of name n check) ++ lines_of name (suc n) (drop (suc i) checks)) later)
    ∙ behind-first (line_of name k c) (lines_of name (suc k) (take i checks)) (line_of name (k + suc i) check)
    (lines_of name (suc (k + suc i)) (drop (suc i) checks))

-- ---- sessions

-- up to the session at a place
pub sessions-take : (i : ℕ) (scripts : List Script) (checks : List (List StatementCheck)) (script : Script) (own : List StatementCheck)
    → slice_get scripts i ≡ Some script → slice_get checks i ≡ Some own
    → sessions_of (take (suc i) scripts) (take (suc i) checks) ≡ sessions_of (take i scripts) (take i checks) ++ lines_of script.name 1 own
sessions-take i [] checks script own e h = absurd cc
sessions-take i (s ∷ scripts) [] script own e h = absurd cc
sessions-take zero (s ∷ scripts) (l ∷ checks) script own e h =
    let same : s ≡ script = cc in
    let mine : l ≡ own = cc in
    rw (same, mine) (append-nil (lines_of script.name 1 own))
sessions-take (suc i) (s ∷ scripts) (l ∷ checks) script own e h =
    ap (λ t. lines_of s.name 1 l ++ t) (sessions-take i scripts checks script own e h)
    ∙ sym (append_assoc (lines_of s.name 1 l) (sessions_of (take i scripts) (take i checks)) (lines_of script.name 1 own))

-- the texts end with the shorter list
pub sessions-end : (n : ℕ) (scripts : List Script) (checks : List (List StatementCheck)) → min (length scripts) (length checks) ≤ n
    → sessions_of (take n scripts) (take n checks) ≡ sessions_of scripts checks
sessions-end zero [] checks h = refl
sessions-end zero (s ∷ scripts) [] h = refl
sessions-end zero (s ∷ scripts) (l ∷ checks) h = absurd (omega arith)
sessions-end (suc n) [] checks h = refl
sessions-end (suc n) (s ∷ scripts) [] h = refl
sessions-end (suc n) (s ∷ scripts) (l ∷ checks) h = ap (λ t. lines_of s.name 1 l ++ t) (sessions-end n scripts checks (omega arith))

-- all of them are those up to the session at a place, and then more
pub sessions-split : (i : ℕ) (scripts : List Script) (checks : List (List StatementCheck)) (script : Script) (own : List StatementCheck)
    → slice_get scripts i ≡ Some script → slice_get checks i ≡ Some own
    → sessions_of scripts checks
    ≡ (sessions_of (take i scripts) (take i checks) ++ lines_of script.name 1 own) ++ sessions_of (drop (suc i) scripts) (drop (suc i) checks)
sessions-split i [] checks script own e h = absurd cc
sessions-split i (s ∷ scripts) [] script own e h = absurd cc
sessions-split zero (s ∷ scripts) (l ∷ checks) script own e h =
    let same : s ≡ script = cc in
    let mine : l ≡ own = cc in
    rw (same, mine) refl
sessions-split (suc i) (s ∷ scripts) (l ∷ checks) script own e h =
    ap (λ t. lines_of s.name 1 l ++ t) (sessions-split i scripts checks script own e h)
    ∙ behind-first (lines_of s.name 1 l) (sessions_of (take i scripts) (take i checks)) (lines_of script.name 1 own)
    (sessions_of (drop (suc i) scripts) (drop (suc i) checks))

-- ---- what is written

module _ {K : Type 0} {taken : K → Option (List ℕ)} {faults : K → ℕ} where
  -- the line at a place was written too
  pub Wrote-line : {a b c : K} (name : Text) (i : ℕ) (checks : List StatementCheck) (check : StatementCheck) → slice_get checks i ≡ Some check
      → Wrote taken faults a b (lines_of name 1 (take i checks)) → Wrote taken faults b c (line_of name (i + 1) check)
      → Wrote taken faults a c (lines_of name 1 (take (i + 1) checks))
  Wrote-line {a} {b} {c} name i checks check e p q =
      let number : i + 1 ≡ 1 + i = omega arith in
      let line : Wrote taken faults b c (line_of name (1 + i) check) = subst (λ (n : ℕ). Wrote taken faults b c (line_of name n check)) number q in
      rw add-one (subst (Wrote taken faults a c) (sym (lines-take name 1 i checks check e)) (Wrote-more p line))

  -- it stopped within the line at a place
  pub Stopped-line : {a b c : K} (name : Text) (i : ℕ) (checks : List StatementCheck) (check : StatementCheck) → slice_get checks i ≡ Some check
      → Wrote taken faults a b (lines_of name 1 (take i checks)) → Stopped taken faults b c (line_of name (i + 1) check)
      → Stopped taken faults a c (lines_of name 1 checks)
  Stopped-line {a} {b} {c} name i checks check e p q =
      let number : i + 1 ≡ 1 + i = omega arith in
      let line : Stopped taken faults b c (line_of name (1 + i) check) = subst (λ (n : ℕ). Stopped taken faults b c (line_of name n check)) number q in
      subst (Stopped taken faults a c) (sym (lines-split name 1 i checks check e))
      (Stopped-longer (lines_of name (suc (1 + i)) (drop (suc i) checks)) (Stopped-later p line))

  -- the session at a place was written too
  pub Wrote-session : {a b c : K} (i : ℕ) (scripts : List Script) (checks : List (List StatementCheck)) (script : Script) (own : List StatementCheck)
      → slice_get scripts i ≡ Some script → slice_get checks i ≡ Some own
      → Wrote taken faults a b (sessions_of (take i scripts) (take i checks)) → Wrote taken faults b c (lines_of script.name 1 own)
      → Wrote taken faults a c (sessions_of (take (i + 1) scripts) (take (i + 1) checks))
  Wrote-session i scripts checks script own e h p q =
      rw add-one (subst (Wrote taken faults _ _) (sym (sessions-take i scripts checks script own e h)) (Wrote-more p q))

  -- it stopped within the session at a place
  pub Stopped-session : {a b c : K} (i : ℕ) (scripts : List Script) (checks : List (List StatementCheck)) (script : Script) (own : List StatementCheck)
      → slice_get scripts i ≡ Some script → slice_get checks i ≡ Some own
      → Wrote taken faults a b (sessions_of (take i scripts) (take i checks)) → Stopped taken faults b c (lines_of script.name 1 own)
      → Stopped taken faults a c (sessions_of scripts checks)
  Stopped-session i scripts checks script own e h p q =
      subst (Stopped taken faults _ _) (sym (sessions-split i scripts checks script own e h))
      (Stopped-longer (sessions_of (drop (suc i) scripts) (drop (suc i) checks)) (Stopped-later p q))
