-- Session words have few tokens, and none that weighs.
use Rattle.std.specs.Prelude.{◌≡◌, ◌≤◌, List, length}
use Rattle.std.proofs.Common.{ap, arith}
use Rattle.ras_syntax.specs.declared.statement.StatementForm.TheVariants as statements
use Rattle.ras_syntax.specs.declared.statement.Word.{Word}
use Rattle.spec_grammar.specs.Tokens.{Token}
use Rattle.spec_grammar.specs.Weight.{weight_of, weight_of_kind}
use Rattle.spec_grammar.specs.Grammar.{IsForm, IsStatement}

pub few_tokens : (ts : List Token) (word : Word) → IsStatement ts (statements.Word word) → (length ts ≤ 3) × (weight_of ts ≡ 0)
few_tokens _ _ (IsForm.begin k is) = (omega arith, (let e : weight_of_kind k.kind ≡ 0 = ap weight_of_kind is in omega arith))
few_tokens _ _ (IsForm.begin_retry k r n times is retry at low high) = (
  omega arith,
  (let e : weight_of_kind k.kind ≡ 0 = ap weight_of_kind is in
      let f : weight_of_kind r.kind ≡ 0 = ap weight_of_kind retry in
      let g : weight_of_kind n.kind ≡ 0 = ap weight_of_kind at in omega arith),
)
few_tokens _ _ (IsForm.commit k is) = (omega arith, (let e : weight_of_kind k.kind ≡ 0 = ap weight_of_kind is in omega arith))
few_tokens _ _ (IsForm.commit_anyway k a is anyway) = (
  omega arith,
  (let e : weight_of_kind k.kind ≡ 0 = ap weight_of_kind is in
      let f : weight_of_kind a.kind ≡ 0 = ap weight_of_kind anyway in omega arith),
)
few_tokens _ _ (IsForm.abort k is) = (omega arith, (let e : weight_of_kind k.kind ≡ 0 = ap weight_of_kind is in omega arith))
