use Rattle.std.proofs.lemmas.Result.{IfErr-weaker, IfOk-weaker}
use Rattle.ras_settings.proofs.Parses.{finds, taken}
use Rattle.ras_settings.proofs.values.parse.Goals as goal

pub returns-clause-found : goal.returns-clause-found
returns-clause-found c =
    IfOk-weaker c.try_get_matches_from.result _ _ (λ m h command given form. finds _ _ _ command given c.in_ok-command.ensures form h)
    c.try_get_matches_from.ensures.matches

pub returns-clause-refused : goal.returns-clause-refused
returns-clause-refused c =
    IfErr-weaker c.try_get_matches_from.result _ _ (λ e h. h (taken _ _ c.in_ok-command.ensures c.requires)) c.try_get_matches_from.ensures.passes
