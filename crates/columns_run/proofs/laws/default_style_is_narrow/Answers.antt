use Rattle.columns_run.proofs.Plain.{default-narrow_glyphs}
use Rattle.columns_run.proofs.laws.default_style_is_narrow.Goals as goal

pub returns : goal.returns
returns c = default-narrow_glyphs
