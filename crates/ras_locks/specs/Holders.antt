-- The holders of one lock, in the order of owners, each owner once.
use Rattle.std.specs.Prelude.{ℕ, zero, suc, ◌==◌, ◌≡◌, ◌⊎◌, Bool, true, false, not, ◌&&◌, ◌||◌, if◌then◌else◌, List, [], ◌∷◌, filter, Option, Some, None, slice_get}
use Rattle.std.specs.List.{list_any}
use Rattle.std.specs.Ordering.{nat_cmp, match_ordering}
use Rattle.std.specs.declared.cmp.Ordering.{Ordering}
use Rattle.smallvec.specs.SmallVec.{SmallVec, HasRoomFor}
use Rattle.ras_domain.specs.declared.lock.Mode.{Mode}
use Rattle.ras_domain.specs.declared.lock.Mode.TheVariants.{Shared, Exclusive}
use Rattle.spec_statements.specs.Locks.{stronger}
use Rattle.ras_locks.specs.declared.holders.Holder.{Holder}

abbrev pub by_owner : Holder → Holder → Ordering
by_owner holder other = nat_cmp holder.owner other.owner

abbrev pub is_exclusive : Mode → Bool
is_exclusive Exclusive = true
is_exclusive Shared = false

-- a holder stands against a lock that another one asks for in this mode
abbrev pub stands_against : ℕ → Mode → Holder → Bool
stands_against owner mode holder = not (holder.owner == owner) && (is_exclusive mode || is_exclusive holder.mode)

-- the first of the holders that does
abbrev pub blocker : ℕ → Mode → List Holder → Option ℕ
blocker owner mode [] = None
blocker owner mode (holder ∷ holders) = if stands_against owner mode holder then Some holder.owner else blocker owner mode holders

abbrev pub is_among : ℕ → List Holder → Bool
is_among owner holders = list_any (λ holder. holder.owner == owner) holders

-- an owner more, in its place; one that is there keeps the stronger of both modes
abbrev pub with_holder : ℕ → Mode → List Holder → List Holder
with_holder owner mode [] = record { owner = owner; mode = mode } ∷ []
with_holder owner mode (holder ∷ holders) =
    match_ordering (nat_cmp owner holder.owner)
    (record { owner = owner; mode = mode } ∷ holder ∷ holders)
    (record { owner = owner; mode = stronger mode holder.mode } ∷ holders)
    (holder ∷ with_holder owner mode holders)

-- whether that place is taken by the owner already
abbrev pub has_place : ℕ → List Holder → Bool
has_place owner [] = false
has_place owner (holder ∷ holders) = match_ordering (nat_cmp owner holder.owner) false true (has_place owner holders)

abbrev pub without_owner : ℕ → List Holder → List Holder
without_owner owner holders = filter (λ holder. not (holder.owner == owner)) holders

-- the holder at a place with the stronger of its mode and this one
abbrev pub raised : Mode → List Holder → ℕ → List Holder
raised mode [] place = []
raised mode (holder ∷ holders) zero = record { owner = holder.owner; mode = stronger mode holder.mode } ∷ holders
raised mode (holder ∷ holders) (suc place) = holder ∷ raised mode holders place

abbrev pub is_owner : ℕ → Option Holder → Bool
is_owner owner None = false
is_owner owner (Some holder) = holder.owner == owner

abbrev pub is_owner_at : ℕ → List Holder → ℕ → Bool
is_owner_at owner holders place = is_owner owner (slice_get holders place)

-- the owner can be put among the holders without memory
abbrev pub HasRoomToHold : ℕ → SmallVec Holder → Type 0
HasRoomToHold owner slot = (has_place owner slot.items ≡ true) ⊎ HasRoomFor slot 1
