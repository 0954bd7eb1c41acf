-- How the parts of a text are put together.
use Rattle.std.proofs.Common.{◌≡◌, ℕ, ℤ, List, [], ◌∷◌, ◌++◌, Result, length, refl, subst, arith, append_assoc, append-nil}
use Rattle.std.specs.Prelude.{Option, ◌≢◌, codes}
use Rattle.std.specs.Fmt.{signed_decimal}
use Rattle.std.specs.List.{join_by}
use Rattle.ras_edges.specs.Sink.{Wrote, Stopped, Writes}
use Rattle.ras_edges.proofs.Writing.{Writes-after}
use Rattle.spec_sessions.specs.Report.{numbers_text_of}

-- a text behind five others
pub after-five : (a b c d e p : List ℕ) → (a ++ (b ++ (c ++ (d ++ (e ++ []))))) ++ p ≡ a ++ (b ++ (c ++ (d ++ (e ++ (p ++ [])))))
after-five a b c d e p = simp (append_assoc, append-nil)

-- two texts behind four others
pub line-parts : (a b c d p q : List ℕ) → ((a ++ (b ++ (c ++ (d ++ [])))) ++ p) ++ q ≡ a ++ (b ++ (c ++ (d ++ (p ++ (q ++ [])))))
line-parts a b c d p q = simp (append_assoc, append-nil)

-- one number stands alone
pub one_alone : (numbers : List ℤ) → length numbers ≡ 1 → join_by signed_decimal (codes ",") numbers ≡ numbers_text_of numbers
one_alone [] h = absurd (omega arith)
one_alone (z ∷ []) h = append-nil (signed_decimal z)
one_alone (z ∷ y ∷ numbers) h = absurd (omega arith)

-- other numbers stand in braces
pub in_braces : (numbers : List ℤ) → length numbers ≢ 1 → numbers_text_of numbers ≡ codes "{" ++ join_by signed_decimal (codes ",") numbers ++ codes "}"
in_braces [] h = refl
in_braces (z ∷ []) h = absurd (h refl)
in_braces (z ∷ y ∷ numbers) h = refl

module _ {K : Type 0} {taken : K → Option (List ℕ)} {faults : K → ℕ} where
  -- the same text, put together otherwise
  pub Stopped-as : {a b : K} (xs ys : List ℕ) → xs ≡ ys → Stopped taken faults a b xs → Stopped taken faults a b ys
  Stopped-as {a} {b} xs ys e p = subst (Stopped taken faults a b) e p

  pub Writes-as : {E : Type 0} {a b : K} (c : K) (xs ys whole : List ℕ) (result : Result (Unit {0}) E) → xs ++ ys ≡ whole
      → Wrote taken faults a b xs → Writes taken faults b c result ys → Writes taken faults a c result whole
  Writes-as {E} {a} {b} c xs ys whole result e p q =
      let P : List ℕ → Type 0 = λ text. Writes taken faults a c result text in
      subst P e (Writes-after c ys result p q)
