use Rattle.std.proofs.Common.{◌≡◌, ◌∙◌, ◌-◌, ap, sym, subst, List, map, drop, take, length, take_all, length-drop, arith}
use Rattle.std.specs.String.{string_bytes}
use Rattle.ras_settings.specs.Form.{HasSomeForm, IsValue, are_pairs, is_value}
use Rattle.ras_settings.proofs.Forms.{form_from, form_to, from_one, value_from}
use Rattle.ras_settings.proofs.form.has_form.Goals as goal

others : {X : Type 0} (xs : List X) → take (length xs - 1) (drop 1 xs) ≡ drop 1 xs
others xs = take_all _ _ (simp length-drop (omega arith))

pub returns-then-is_value : goal.returns-then-is_value
returns-then-is_value c =
    let words = from_one string_bytes c.args.words.now _ c.in-len1-up.len_at_least c.command-item.is in
    let rest = c.are_pairs.ensures ∙ ap (λ xs. are_pairs (map string_bytes xs)) (others c.args.words.now) in
    let named : IsValue (string_bytes c.command-item.result) = value_from _ (ap is_value (sym c.deref.ensures) ∙ sym c.is_value.ensures ∙ c.if-is_value.true) in (
      λ h. subst HasSomeForm (sym words) (form_from _ _ named (sym rest ∙ h)),
      λ form. (rest ∙ (form_to (string_bytes c.command-item.result) _ (subst HasSomeForm words form)).1),
    )
