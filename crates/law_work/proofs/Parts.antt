-- What changes make of what is held of a database.
use Rattle.std.proofs.Common.{◌≡◌, ◌⊎◌, inl, inr, List, Option, None, refl, sym, ap, ◌∙◌}
use Rattle.ras_domain.specs.declared.lock.LockName.{LockName}
use Rattle.ras_store.specs.declared.change.Change.{Change}
use Rattle.ras_store.specs.Databases.{holding_kept, holdings_of, rewrites_of}
use Rattle.ras_store.specs.Kept.{Kept, changed_by_all}
use Rattle.ras_store.proofs.KeptDatabases.{seen-all-changed}
use Rattle.ras_syntax.specs.declared.types.SetType.{SetType}
use Rattle.spec_expressions.specs.Database.{Database}
use Rattle.spec_shown.specs.Shown.{IsPartOf}
use Rattle.spec_views.specs.Holdings.{Holding, Holdings, holding_at}
use Rattle.spec_views.specs.Work.{RewritesTo}
use Rattle.law_work.proofs.WrittenNames.{by_parts}

pub view-rewritten : (changes : List Change) (kept : LockName → Option Kept) (name : LockName)
    → holdings_of (λ name. changed_by_all changes name (kept name)) name ≡ rewrites_of changes name (holdings_of kept name)
view-rewritten changes kept name = seen-all-changed holding_kept changes name (kept name)

pub part-rewritten : (types : List SetType) (changes : List Change) (holdings : Holdings) (before next : Database) → IsPartOf types holdings before
    → RewritesTo types (rewrites_of changes) before next → IsPartOf types (λ name. rewrites_of changes name (holdings name)) next
part-rewritten types changes holdings before next part rewrites name = at (by_parts holding_kept changes name) (part name)
  where
    at : ((held : Option Holding) → rewrites_of changes name held ≡ held) ⊎ ((held : Option Holding) → rewrites_of changes name held ≡ rewrites_of changes name None)
        → (holdings name ≡ None) ⊎ (holdings name ≡ holding_at types name before)
        → (rewrites_of changes name (holdings name) ≡ None) ⊎ (rewrites_of changes name (holdings name) ≡ holding_at types name next)
    at (inl stays) (inl nothing) = inl (stays (holdings name) ∙ nothing)
    at (inl stays) (inr held) = inr (ap (rewrites_of changes name) held ∙ sym (rewrites name))
    at (inr same) held = inr (same (holdings name) ∙ sym (same (holding_at types name before)) ∙ sym (rewrites name))
