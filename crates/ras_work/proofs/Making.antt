-- The changes of each statement.
use Rattle.std.proofs.Common.{◌≡◌, ℕ, ℤ, false, List, [], ◌∷◌, ◌++◌, map, Option, None, Result, Ok, Err, refl, ap, ◌∙◌}
use Rattle.std.specs.Option.{option_map}
use Rattle.std.specs.Result.{IfOk}
use Rattle.ras_domain.specs.declared.lock.LockName.{LockName}
use Rattle.ras_domain.specs.declared.lock.LockName.TheVariants.{Collection, Domain}
use Rattle.ras_store.specs.declared.change.Change.{Change}
use Rattle.ras_store.specs.declared.write.Write.{Write}
use Rattle.ras_store.specs.Databases.{holding_kept, holdings_of}
use Rattle.ras_store.specs.Kept.{Kept}
use Rattle.ras_syntax.specs.declared.types.SetType.{SetType}
use Rattle.spec_expressions.specs.Shape.{Box}
use Rattle.spec_statements.specs.Effects.{Stores}
use Rattle.spec_statements.specs.Limits.{is_select}
use Rattle.spec_statements.specs.Statement.{Request}
use Rattle.spec_views.specs.Holdings.{Holdings}
use Rattle.law_work.specs.ChangesFor.{changes_for, number_done, tile_after, tile_name, tile_replaced}
use Rattle.law_work.specs.Replacements.{Replacement, replacement_of}
use Rattle.law_work.specs.Sound.{AreSound, IsSoundWrite}
use Rattle.ras_grid.specs.Grid.{tile_in}
use Rattle.ras_domain.specs.declared.lock.LockName.TheVariants as locks
use Rattle.law_work.specs.ChangesFor.{held_domain}
use Rattle.ras_work.specs.Made.{AreMade}
use Rattle.ras_work.specs.Rows.{IsFitting}

-- what was made, part by part
pub made-of : {E : Type 0} (r : Result (List Change × ℕ) E) (request : Request) (holdings : Holdings) (writes : List Write)
    → IfOk r (λ made. map replacement_of made.0 ≡ changes_for request holdings writes) → IfOk r (λ made. made.1 ≡ number_done request holdings writes)
    → IfOk r (λ made. AreSound request holdings writes) → is_select request ≡ false → IfOk r (λ made. AreMade request holdings writes made.0 made.1)
made-of (Ok made) request holdings writes replaced counted sound no_select = record { replaced = replaced; counted = counted; sound = sound; no_select = no_select }
made-of (Err e) request holdings writes replaced counted sound no_select = tt

-- a write that was looked at is sound
pub fitting-sound : (of : SetType) (name : List ℕ) (holdings : Holdings) (write : Write) → IsFitting of write (held_domain (holdings (locks.Domain name write.oid)))
    → IsSoundWrite of name holdings write
fitting-sound of name holdings write fits = record { region = fits.region; axes = fits.region_axes; each_point = fits.each_point; grows = fits.covers }

-- where nothing is seen, the tiles are new
pub new-tiles : (of : SetType) (name : List ℕ) (id : ℕ) (grown : Box) (stores : Stores) (kept : LockName → Option Kept) (places : List (List ℤ)) → ((lock : LockName) → kept lock ≡ None)
    → map (tile_replaced of name id grown stores (holdings_of kept)) places ≡ map (tile_replaced of name id grown stores (λ lock. None)) places
new-tiles of name id grown stores kept [] nothing = refl
new-tiles of name id grown stores kept (place ∷ places) nothing =
    let one : tile_replaced of name id grown stores (holdings_of kept) place ≡ tile_replaced of name id grown stores (λ lock. None) place =
    λ i. (tile_name name id place, tile_after of (option_map holding_kept (nothing (tile_name name id place) i)) stores (tile_in of.extents.items grown place)) in
    λ i. one i ∷ new-tiles of name id grown stores kept places nothing i

-- two changes and then others
pub two_and_more : (first second : Change) (none one two all : List Change) (tiles : List Replacement) → none ≡ [] → one ≡ none ++ first ∷ [] → two ≡ one ++ second ∷ []
    → map replacement_of all ≡ map replacement_of two ++ tiles → map replacement_of all ≡ replacement_of first ∷ replacement_of second ∷ tiles
two_and_more first second none one two all tiles no_change is_one is_two rest =
    rest ∙ ap (λ l. map replacement_of l ++ tiles) (is_two ∙ ap (λ l. l ++ second ∷ []) (is_one ∙ ap (λ l. l ++ first ∷ []) no_change))
