use Rattle.std.proofs.Common.{codes, refl}
use Rattle.ras_settings.proofs.Readings.{schedule_from}
use Rattle.ras_settings.proofs.laws.schedules_as_texts.Goals as goal

pub returns-clause-one : goal.returns-clause-one
returns-clause-one c = schedule_from (codes "1") _ _ refl refl

pub returns-clause-repeated : goal.returns-clause-repeated
returns-clause-repeated c = schedule_from (codes "1x5,2x11") _ _ refl refl

pub returns-clause-mixed : goal.returns-clause-mixed
returns-clause-mixed c = schedule_from (codes "1x5,2x4,1") _ _ refl refl

pub returns-clause-largest : goal.returns-clause-largest
returns-clause-largest c = schedule_from (codes "64x999999,64") _ _ refl refl
