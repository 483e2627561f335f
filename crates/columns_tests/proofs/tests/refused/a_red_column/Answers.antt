use Rattle.std.proofs.Common.{rules}
use Rattle.columns_tests.proofs.tests.refused.a_red_column.Goals as goal

pub expect_front-requires : goal.expect_front-requires
expect_front-requires g c = record { narrow = c.style_is_plain.ensures.0 (search rules); close = c.colors_close.ensures.0 (search rules) }
