use Rattle.std.proofs.Common.{◌≡◌, ◌∙◌, ℕ, Bool, true, false, ◌-◌, ◌&&◌, ap, ap₂, sym, List, map, drop, take, length, take_all, length-drop, arith}
use Rattle.std.specs.List.{list_any}
use Rattle.std.specs.Str.{bytes_eq}
use Rattle.std.specs.String.{string_bytes}
use Rattle.ras_settings.specs.Form.{are_pairs, is_option, is_value}
use Rattle.ras_settings.proofs.Forms.{any-map, from_two, one_left, pairs_again, pairs_on}
use Rattle.ras_settings.proofs.form.+are_pairs.Goals as goal

pub returns-in-len1 : goal.returns-in-len1
returns-in-len1 t c = sym (one_left string_bytes c.args.words.now c.in-len1.len_at_least c.in-len1.len_below)

-- the words after the first two
others : {X : Type 0} (xs : List X) → take (length xs - 2) (drop 2 xs) ≡ drop 2 xs
others xs = take_all _ _ (simp length-drop (omega arith))

-- whether the option's word is among them
seen : {X : Type 0} (f : X → List ℕ) (word : List ℕ) (xs : List X) (found answer : Bool)
    → found ≡ list_any (λ y. bytes_eq (f y) word) (take (length xs - 2) (drop 2 xs)) → found ≡ answer
    → list_any (λ w. bytes_eq w word) (map f (drop 2 xs)) ≡ answer
seen f word xs found answer is known =
    sym (any-map f word (drop 2 xs)) ∙ ap (list_any (λ y. bytes_eq (f y) word)) (sym (others xs)) ∙ sym is ∙ known

pub returns-then-contains : goal.returns-then-contains
returns-then-contains t c =
    let option = string_bytes c.option-item.result in
    let value = string_bytes c.value-item.result in
    let words = from_two string_bytes c.args.words.now _ _ c.in-len2-up.len_at_least c.option-item.is c.value-item.is in
    let again = seen string_bytes option c.args.words.now c.contains.result true c.contains.ensures.value c.if-contains.true in
    sym (ap are_pairs words ∙ pairs_again option value (map string_bytes (drop 2 c.args.words.now)) again)

pub returns-else-contains : goal.returns-else-contains
returns-else-contains t c =
    let option = string_bytes c.option-item.result in
    let value = string_bytes c.value-item.result in
    let words = from_two string_bytes c.args.words.now _ _ c.in-len2-up.len_at_least c.option-item.is c.value-item.is in
    let once = seen string_bytes option c.args.words.now c.contains.result false c.contains.ensures.value c.if-contains.false in
    let pair = ap₂ (λ o v. is_option o && is_value v) (sym c.deref.ensures) (sym c.deref-in-len2-up.ensures)
    ∙ sym c.is_pair.ensures ∙ c.if-not-is_pair.false in
    let rest = map string_bytes (drop 2 c.args.words.now) in
    c.are_pairs.ensures ∙ ap (λ xs. are_pairs (map string_bytes xs)) (others c.args.words.now)
    ∙ sym (ap are_pairs words ∙ pairs_on option value rest pair once)
