-- Readers of single axes, extents and null intervals.
use Rattle.std.specs.Prelude.{ℕ, suc, ℤ, codes}
use Rattle.ras_domain.specs.declared.region.Interval.{Interval}
use Rattle.ras_syntax.specs.declared.types.SetType.{SetType}
use Rattle.spec_grammar.specs.Grammar.{s}
use Rattle.spec_grammar.specs.Tokens.{Text}
use Rattle.law_grammar.specs.Readers.{Reader, accept, accept_or, bind, exactly, expect, give, mapped}
use Rattle.spec_workloads.specs.TypeLines.{bound_read, cells_read, declared_type_of, extents_read, intervals_read, natural, nulls_read, optional_after_word, signed_number, told_interval, zero_digit}

-- bound ":" bound
abbrev pub interval_read : Reader Interval
interval_read = bind bound_read (λ lo. expect (s ":") (mapped (λ hi. told_interval lo hi) bound_read))

-- "0" ":" number
abbrev pub extent_read : Reader ℕ
extent_read = accept zero_digit (λ z. expect (s ":") (accept natural (λ n. give (suc n))))

-- value |[ ":" value ]|
abbrev pub null_read : Reader (ℤ × ℤ)
null_read = bind signed_number (λ lo. accept_or (exactly (s ":")) (λ c. mapped (λ hi. (lo, hi)) signed_number) (give (lo, lo)))

-- cells bounds |[ "tiles" extents ]| |[ "null" nulls ]|
abbrev pub type_rest : Text → Reader SetType
type_rest name = bind cells_read (λ cells. bind intervals_read (λ bounds. bind (optional_after_word (codes "tiles") extents_read) (λ extents.
    mapped (λ nulls. declared_type_of name cells bounds extents nulls) (optional_after_word (codes "null") nulls_read))))
