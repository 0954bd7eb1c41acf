-- What stands behind a text's last heading.
use Rattle.std.proofs.Common.{◌≡◌, ◌≢◌, ℕ, ◌+◌, ◌<◌, ◌≤◌, [], length, length-drop, drop, take, ap, ◌∙◌, arith}
use Rattle.std.proofs.lemmas.List.{drop_all}
use Rattle.std.specs.List.{prefix_len}
use Rattle.spec_commands.specs.Commands.{after_blanks, line_behind}
use Rattle.spec_grammar.specs.Tokens.{Text, is_blank}
use Rattle.spec_workloads.specs.Sections.{line_feeds}

pub all-blank : (text : Text) (blanks : ℕ) → blanks ≡ prefix_len is_blank text → length text ≤ blanks → after_blanks text ≡ []
all-blank text blanks is all = drop_all (prefix_len is_blank text) text (omega (arith, is, all))

pub not-blank : (text : Text) (blanks : ℕ) → blanks ≡ prefix_len is_blank text → blanks < length text → after_blanks text ≢ []
not-blank text blanks is fewer none = absurd (omega (arith, is, fewer, length-drop (prefix_len is_blank text) text, ap length none))

pub line-is : (text : Text) (behind blanks feeds : ℕ) → blanks ≡ prefix_len is_blank (drop behind text) → feeds ≡ line_feeds (take (behind + blanks) text)
    → feeds + 1 ≡ line_behind text behind
line-is text behind blanks feeds is counted = omega (arith, counted ∙ ap (λ n. line_feeds (take (behind + n) text)) is)
