use Rattle.std.proofs.Common.{ap, ap₂, true, ◌≡◌, ◌∙◌}
use Rattle.std.proofs.lemmas.Result.{IfOk-weaker}
use Rattle.clap.specs.Words.{App, app_of, with_rule}
use Rattle.clap.specs.Simple.{app_of_fields}
use Rattle.ras_settings.specs.App.{bare_app}
use Rattle.ras_settings.proofs.values.simple_command.Goals as goal

pub returns : goal.returns
returns c =
    let bare : app_of c.disable_help_flag-bare.result ≡ bare_app =
    ap app_of_fields c.disable_help_flag-bare.ensures
    ∙ ap (λ f. app_of_fields (record f { disable_help_flag = true })) c.no_binary_name.ensures
    ∙ ap (λ (a : App). record a { top = record a.top { no_binary_name = true; disable_help_flag = true } }) c.new.ensures.app in
    let named = c.in_ok-arg.ensures.shape c.name_arg.ensures.own ∙ ap₂ with_rule bare c.name_arg.ensures.rule in
    let workers = c.in_ok-arg-2.ensures.shape c.option_arg.ensures.own ∙ ap₂ with_rule named c.option_arg.ensures.rule in
    let schedule = c.in_ok-arg-3.ensures.shape c.option_arg-2.ensures.own ∙ ap₂ with_rule workers c.option_arg-2.ensures.rule in
    let seed = c.in_ok-arg-4.ensures.shape c.option_arg-3.ensures.own ∙ ap₂ with_rule schedule c.option_arg-3.ensures.rule in
    IfOk-weaker c.arg-5.result _ _ (λ r h. h.shape c.option_arg-4.ensures.own ∙ ap₂ with_rule seed c.option_arg-4.ensures.rule) c.arg-5.ensures
