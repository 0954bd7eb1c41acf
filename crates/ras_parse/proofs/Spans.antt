-- Where tokens that were read begin and end.
use Rattle.std.specs.Prelude.{◌≡◌, ℕ, zero, suc, ◌+◌, ◌-◌, ◌<◌, ◌≤◌, List, [], ◌∷◌, length, drop, take}
use Rattle.std.proofs.Common.{refl, sym, ap, ap₂, ◌∙◌, get_or, add-one, arith, length-drop}
use Rattle.std.proofs.Math.Seq.{drop-cons}
use Rattle.std.proofs.lemmas.List.{get_or-drop, get_or-map, length-map}
use Rattle.spec_grammar.specs.Tokens as spec
use Rattle.spec_grammar.specs.Tokens.{Text}
use Rattle.spec_grammar.specs.Grammar.{end_of, span_of}
use Rattle.law_grammar.specs.Readers.{before}
use Rattle.ras_parse.specs.declared.token.Token.{Token}
use Rattle.ras_parse.specs.Seen.{token_in, tokens_in}

end_of-take : (t : spec.Token) (ts : List spec.Token) (m : ℕ) (d : spec.Token) → m ≤ length ts → end_of t.to (take m ts) ≡ (get_or (t ∷ ts) m d).to
end_of-take t ts zero d h = refl
end_of-take t [] (suc m) d h = absurd (let k : suc m ≤ 0 = h in omega arith)
end_of-take t (u ∷ ts) (suc m) d h = end_of-take u ts m d (let k : suc m ≤ suc (length ts) = h in omega arith)

span_of-take : (ts : List spec.Token) (m : ℕ) (d : spec.Token) → m < length ts → span_of (take (suc m) ts) ≡ record { from = (get_or ts 0 d).from; to = (get_or ts m d).to }
span_of-take [] m d h = absurd (let k : m < 0 = h in omega arith)
span_of-take (t ∷ ts) m d h = ap (λ to. record { from = t.from; to = to }) (end_of-take t ts m d (let k : m < suc (length ts) = h in omega arith))

-- the token at a place, as the definitions see it
pub front_is : (text : Text) (tokens : List Token) (at : ℕ) (d : Token) → at < length tokens
    → drop at (tokens_in text tokens) ≡ token_in text (get_or tokens at d) ∷ drop (at + 1) (tokens_in text tokens)
front_is text tokens at d h =
    let len : length (tokens_in text tokens) ≡ length tokens = length-map tokens (token_in text) in
    drop-cons (tokens_in text tokens) at (token_in text d) (omega arith)
    ∙ ap₂ (λ t k. t ∷ drop k (tokens_in text tokens)) (get_or-map (token_in text) tokens at d (token_in text d) h) (sym (add-one at))

-- from the first to the last token of those that were read
pub span_is : (text : Text) (tokens : List Token) (start at : ℕ) (d : Token) → start < at → at ≤ length tokens
    → record { from = (get_or tokens start d).span.from; to = (get_or tokens (at - 1) d).span.to }
    ≡ span_of (before (drop start (tokens_in text tokens)) (drop at (tokens_in text tokens)))
span_is text tokens start at d h k =
    let ts : List spec.Token = tokens_in text tokens in
    let e : spec.Token = token_in text d in
    let len : length ts ≡ length tokens = length-map tokens (token_in text) in
    let here : length (drop start ts) ≡ length ts - start = length-drop start ts in
    let there : length (drop at ts) ≡ length ts - at = length-drop at ts in
    let many : length (drop start ts) - length (drop at ts) ≡ suc (at - 1 - start) = omega arith in
    let from : get_or (drop start ts) 0 e ≡ token_in text (get_or tokens start d) =
    get_or-drop start ts 0 e ∙ ap (λ i. get_or ts i e) (let z : start + 0 ≡ start = omega arith in z)
    ∙ get_or-map (token_in text) tokens start d e (omega arith) in
    let to : get_or (drop start ts) (at - 1 - start) e ≡ token_in text (get_or tokens (at - 1) d) =
    get_or-drop start ts (at - 1 - start) e ∙ ap (λ i. get_or ts i e) (let z : start + (at - 1 - start) ≡ at - 1 = omega arith in z)
    ∙ get_or-map (token_in text) tokens (at - 1) d e (omega arith) in
    sym (ap (λ n. span_of (take n (drop start ts))) many
    ∙ span_of-take (drop start ts) (at - 1 - start) e (omega arith)
    ∙ ap₂ (λ (t u : spec.Token). record { from = t.from; to = u.to }) from to)
