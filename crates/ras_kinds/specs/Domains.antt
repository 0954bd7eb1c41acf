-- A checked domain as it is kept.
use Rattle.std.specs.Prelude.{ℕ, Bool}
use Rattle.ras_syntax.specs.declared.typed.TypedDomain.{TypedDomain}
use Rattle.spec_expressions.specs.Check.{CheckedDomain}

abbrev pub domain_seen : TypedDomain → ℕ → Bool → Bool → CheckedDomain
domain_seen domain axes has_numbers is_fixed = record { domain = domain; axes = axes; has_numbers = has_numbers; is_fixed = is_fixed }
