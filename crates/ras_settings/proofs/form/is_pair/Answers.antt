use Rattle.std.proofs.Common.{refl}
use Rattle.ras_settings.proofs.Forms.{names_option}
use Rattle.ras_settings.proofs.form.is_pair.Goals as goal

pub returns-else-is_some : goal.returns-else-is_some
returns-else-is_some c =
    let known = names_option c.args.option.now c.option_named.result c.option_named.ensures in
    rw (known, ← c.is_some.ensures, c.if-is_some.false) refl
