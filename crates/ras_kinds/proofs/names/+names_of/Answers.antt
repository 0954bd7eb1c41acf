use Rattle.std.proofs.Common.{ap, sym, ◌∙◌}
use Rattle.ras_syntax.specs.declared.typed.TypedExpr.{TypedExpr}
use Rattle.spec_expressions.specs.Tree.{tree_of}
use Rattle.spec_expressions.specs.Names.{names_of}
use Rattle.ras_kinds.proofs.TreeNames.{names_of_index, names_of_other, names_of_branch, names_of_none, names_of_first}
use Rattle.ras_kinds.proofs.names.+names_of.Goals as goal

pub returns-in-Index : goal.returns-in-Index
returns-in-Index t c =
    c.names_of-in-Index.ensures ∙ ap (λ (e : TypedExpr). names_of c.args.sources.now (tree_of e)) c.get-in-Index.ensures
    ∙ sym (names_of_index c.args.sources.now c.args.e.now c.in-Index.e c.in-Index.axes c.in-Index.is)

pub returns-in-empty : goal.returns-in-empty
returns-in-empty t c =
    c.names_of-in-empty.ensures ∙ ap (λ (e : TypedExpr). names_of c.args.sources.now (tree_of e)) c.get-in-empty.ensures
    ∙ sym (names_of_other c.args.sources.now c.args.e.now c.as_slice.result.now c.in-Case.arms c.in-Case.other c.in-Case.is c.as_slice.ensures c.in-empty.len_below)

pub returns-in-len1-up : goal.returns-in-len1-up
returns-in-len1-up t c =
    c.names_of-in-len1-up.ensures
    ∙ sym (names_of_branch c.args.sources.now c.args.e.now c.as_slice.result.now c.in-Case.arms c.in-Case.other c.in-Case.is c.as_slice.ensures
    c.first-item.result c.in-len1-up.len_at_least c.first-item.is)

pub returns-in-empty-as_slice : goal.returns-in-empty-as_slice
returns-in-empty-as_slice t c =
    sym (names_of_none c.args.sources.now c.args.e.now c.as_slice-in-Concat.result.now c.in-Concat.parts c.in-Concat.along c.in-Concat.is
    c.as_slice-in-Concat.ensures c.in-empty-as_slice.len_below)

pub returns-in-len1-up-as_slice : goal.returns-in-len1-up-as_slice
returns-in-len1-up-as_slice t c =
    c.names_of-in-len1-up-as_slice.ensures
    ∙ sym (names_of_first c.args.sources.now c.args.e.now c.as_slice-in-Concat.result.now c.in-Concat.parts c.in-Concat.along c.in-Concat.is
    c.as_slice-in-Concat.ensures c.first-item-in-Concat.result c.in-len1-up-as_slice.len_at_least c.first-item-in-Concat.is)
