use Rattle.std.proofs.Common.{◌≡◌, ℕ, zero, suc, ◌<◌, [], ◌∷◌, length, sym, subst, arith}
use Rattle.std.specs.List.{All, HoldsAt}
use Rattle.ras_turn.specs.Words.{pass_turn, pass_number, turn_id, HasNumber}
use Rattle.ras_turn.proofs.tests.close_two.Goals as goal

module _ {A : Type 0} where
  all_two : (P : A → Type 0) (a b : A) → P a → P b → All P (a ∷ b ∷ [])
  all_two P a b p q zero d near = p
  all_two P a b p q (suc zero) d near = q
  all_two P a b p q (suc (suc k)) d near = absurd (omega arith)

  numbered : (f : A → ℕ) (a b : A) → f a ≡ 0 → f b ≡ 1 → (k : ℕ) → k < 2 → (i : ℕ) × (i < length (a ∷ b ∷ [])) × HoldsAt (λ (x : A). f x ≡ k) (a ∷ b ∷ []) i
  numbered f a b p q zero below = (0, omega arith, λ _. p)
  numbered f a b p q (suc zero) below = (1, omega arith, λ _. q)
  numbered f a b p q (suc (suc k)) below = absurd (omega arith)

pub close-requires-clause-turn : goal.close-requires-clause-turn
close-requires-clause-turn c = subst (All (λ p. pass_turn p ≡ turn_id c.args.turn)) (sym c.in_ok-passes.ensures)
    (all_two (λ p. pass_turn p ≡ turn_id c.args.turn) c.args.first c.args.second c.requires.first.0 c.requires.second.0)

pub close-requires-clause-numbers : goal.close-requires-clause-numbers
close-requires-clause-numbers c = λ k below. subst (λ ps. HasNumber ps k) (sym c.in_ok-passes.ensures)
    (numbered pass_number c.args.first c.args.second c.requires.first.1 c.requires.second.1 k (subst (λ n. k < n) c.requires.passes below))
