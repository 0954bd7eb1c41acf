-- Readers, one step at a time.
use Rattle.std.specs.Prelude.{◌≡◌, Bool as Truth, true, false, List, [], ◌∷◌, Option, Some, None, option_map, Ok, Err}
use Rattle.std.proofs.Common.{refl}
use Rattle.spec_grammar.specs.Tokens.{Token}
use Rattle.law_grammar.specs.Readers.{ReadOutcome, Reader, then_read, give, refuse, bind, mapped, accept_or, choose, with_tokens, before}
use Rattle.ras_parse.specs.Inputs.{taken, first_passes}

-- what follows what was taken, else the other
abbrev pub chosen : {A B : Type 0} → Option (A × List Token) → (A → Reader B) → ReadOutcome B → ReadOutcome B
chosen (Some p) g other = g p.0 p.1
chosen None g other = other

-- one or the other
abbrev pub either : {B : Type 0} → Truth → ReadOutcome B → ReadOutcome B → ReadOutcome B
either true a b = a
either false a b = b

pub accept_or-is : {A B : Type 0} (p : Token → Option A) (g : A → Reader B) (f : Reader B) (s : List Token) → accept_or p g f s ≡ chosen (taken p s) g (f s)
unfolding accept_or taken
accept_or-is p g f [] = refl
accept_or-is {A} {B} p g f (t ∷ s) = at (p t)
  where
    at : (o : Option A) → elim o as (λ v. ReadOutcome B) [ Some x ↦ g x s | None ↦ f (t ∷ s) ] ≡ chosen (option_map (λ x. (x, s)) o) g (f (t ∷ s))
    at (Some x) = refl
    at None = refl

pub choose-is : {A : Type 0} (p : Token → Truth) (f g : Reader A) (s : List Token) → choose p f g s ≡ either (first_passes p s) (f s) (g s)
unfolding choose
choose-is p f g [] = refl
choose-is {A} p f g (t ∷ s) = at (p t)
  where
    at : (b : Truth) → elim b as (λ v. ReadOutcome A) [ true ↦ f (t ∷ s) | false ↦ g (t ∷ s) ] ≡ either b (f (t ∷ s)) (g (t ∷ s))
    at true = refl
    at false = refl

pub give-is : {A : Type 0} (x : A) (s : List Token) → give x s ≡ Ok (x, s)
unfolding give
give-is x s = refl

pub refuse-is : {A : Type 0} (s : List Token) → refuse {A = A} s ≡ Err s
unfolding refuse
refuse-is s = refl

pub bind-is : {A B : Type 0} (f : Reader A) (g : A → Reader B) (s : List Token) → bind f g s ≡ then_read (f s) g
unfolding bind
bind-is f g s = refl

pub mapped-is : {A B : Type 0} (h : A → B) (f : Reader A) (s : List Token) → mapped h f s ≡ then_read (f s) (λ x rest. Ok (h x, rest))
unfolding mapped
mapped-is h f s = refl

pub with_tokens-is : {A : Type 0} (f : Reader (List Token → A)) (s : List Token) → with_tokens f s ≡ then_read (f s) (λ told rest. Ok (told (before s rest), rest))
unfolding with_tokens
with_tokens-is f s = refl

pub ruleset reading = (accept_or-is, choose-is, give-is, refuse-is, bind-is, mapped-is, with_tokens-is)
