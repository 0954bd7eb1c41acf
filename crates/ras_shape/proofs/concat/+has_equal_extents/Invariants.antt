use Rattle.ras_shape.proofs.concat.+has_equal_extents.Given as goal

abbrev pub decreases-has_equal_extents : goal.decreases-has_equal_extents
decreases-has_equal_extents l = l.along
