-- What the tokens of type lines mean.
use Rattle.std.specs.Prelude.{◌≡◌, ℕ, ℤ, pos, negsuc, Bool as Truth, true, false, not, if◌then◌else◌, Option, Some, None, List, ◌∷◌}
use Rattle.std.proofs.Common.{refl, sym, ap, subst, ◌∙◌}
use Rattle.ras_cells.specs.declared.atom.Atom.{Atom}
use Rattle.spec_grammar.specs.Tokens.{Text, Token, is_one_of, is_same}
use Rattle.law_grammar.specs.Reading.{name_of, number_of}
use Rattle.spec_workloads.specs.TypeLines.{free_name, if_text, natural, size_of, type_word, type_words, zero_digit}
use Rattle.ras_parse.specs.Inputs.{Input, left, next, first, Accepts, TakesToken}
use Rattle.ras_parse.proofs.Took.{takes-end, takes-not, takes-it}

-- ---- names

module _ (w : Text) (t : Token) where
  told : Option Text → Option Text
  told o = elim o [ None ↦ None | Some other ↦ if_text (is_same w other) other ]

  pub word_none : name_of t ≡ None → type_word w t ≡ None
  unfolding told
  word_none e = ap told e

  pub word_other : (name : Text) → name_of t ≡ Some name → is_same w name ≡ false → type_word w t ≡ None
  unfolding told
  word_other name e is = ap told e ∙ ap (λ v. if_text v name) is

  pub word_is : (name : Text) → name_of t ≡ Some name → is_same w name ≡ true → type_word w t ≡ Some name
  unfolding told
  word_is name e is = ap told e ∙ ap (λ v. if_text v name) is

module _ (t : Token) where
  freed : Option Text → Option Text
  freed o = elim o [ None ↦ None | Some text ↦ if_text (not (is_one_of type_words text)) text ]

  pub free_none : name_of t ≡ None → free_name t ≡ None
  unfolding freed
  free_none e = ap freed e

  pub free_other : (name : Text) → name_of t ≡ Some name → is_one_of type_words name ≡ true → free_name t ≡ None
  unfolding freed
  free_other name e is = ap freed e ∙ ap (λ v. if_text (not v) name) is

  pub free_is : (name : Text) → name_of t ≡ Some name → is_one_of type_words name ≡ false → free_name t ≡ Some name
  unfolding freed
  free_is name e is = ap freed e ∙ ap (λ v. if_text (not v) name) is

-- ---- numbers

module _ (t : Token) where
  sized : Option (ℤ × Atom) → Option ℕ
  sized o = elim o [ None ↦ None | Some n ↦ size_of n.0 ]

  pub natural_none : number_of t ≡ None → natural t ≡ None
  unfolding sized
  natural_none e = ap sized e

  pub natural_is : (value : ℤ) (atom : Atom) → number_of t ≡ Some (value, atom) → natural t ≡ size_of value
  unfolding sized
  natural_is value atom e = ap sized e

-- ---- tokens that are given themselves

pub choice_not : {A : Type 0} (o : Option A) (x : A) (b : Truth) → o ≡ (if b then Some x else None) → b ≡ false → o ≡ None
choice_not o x b e is = e ∙ ap (λ v. if v then Some x else None) is

pub choice_is : {A : Type 0} (o : Option A) (x : A) (b : Truth) → o ≡ (if b then Some x else None) → b ≡ true → o ≡ Some x
choice_is o x b e is = e ∙ ap (λ v. if v then Some x else None) is

pub not_taken : (p : Token → Option Token) (i : Input) → TakesToken p i None i → Accepts p i false i
not_taken p i h = record { steps = h.steps; took = h.took }

pub is_taken : (p : Token → Option Token) (i j : Input) (t : Token) → left i ≡ t ∷ left (next i) → p t ≡ Some t → j ≡ next i → Accepts p i true j
is_taken p i j t e is k =
    let h : TakesToken p i (Some t) j = takes-it p i j t t e is k in
    record { steps = h.steps; took = h.took ∙ ap (λ u. Some (u, left j)) (sym (ap first e)) }
