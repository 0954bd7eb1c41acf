use Rattle.std.proofs.Common.{◌≡◌, ◌∙◌, ap, sym, subst, true, [], ◌∷◌, ◌||◌}
use Rattle.std.specs.Prelude.{OnOk}
use Rattle.std.proofs.lemmas.Bool.{or_left, or_right}
use Rattle.std.proofs.lemmas.List.Folds.{list_any-append}
use Rattle.ras_locks.specs.Tables.{lists_name, equals_lock_name}
use Rattle.ras_locks.proofs.Same.{same_name-refl}
use Rattle.ras_locks.proofs.owners.put.Goals as goal
use Rattle.ras_locks.proofs.owners.put.Goals.{in-Ok, in-Err}

pub returns-clause-listed : goal.returns-clause-listed
returns-clause-listed c = elim c.match-push.branch [
  | in-Ok w ↦ let pushed = w.in-Ok.ensures.ok in
      subst (λ r. OnOk r (lists_name c.args.name c.push.new.self ≡ true)) (sym w.result-is)
      (ap (lists_name c.args.name) pushed ∙ list_any-append (λ x. equals_lock_name x c.args.name) c.args.names.now (c.args.name ∷ [])
      ∙ or_right (lists_name c.args.name c.args.names.now) _ (or_left (equals_lock_name c.args.name c.args.name) _ (same_name-refl c.args.name)))
  | in-Err w ↦ subst (λ r. OnOk r (lists_name c.args.name c.push.new.self ≡ true)) (sym w.result-is) tt
]
