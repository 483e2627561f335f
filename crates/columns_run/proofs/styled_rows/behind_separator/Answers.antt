-- After an ASCII character a text can be cut.
use Rattle.std.proofs.lemmas.Str.{IsCharBoundary-after_ascii}
use Rattle.columns_run.proofs.styled_rows.behind_separator.Goals as goal

pub range_from-requires : goal.range_from-requires
range_from-requires c = λ some. IsCharBoundary-after_ascii c.args.text.now 0 c.utf8.text c.requires.0 c.requires.1
