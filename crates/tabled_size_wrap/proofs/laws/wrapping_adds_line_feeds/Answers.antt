-- A lemma of `Wrapped`.
use Rattle.tabled_size_wrap.proofs.Wrapped.{wrapped-adds}
use Rattle.tabled_size_wrap.proofs.laws.wrapping_adds_line_feeds.Goals as goal

pub returns : goal.returns
returns c = λ width keep_words text bytes ps qs some utf8 whole wrapped of_bytes narrow. wrapped-adds keep_words text bytes ps utf8 whole.of_text whole.none_broken width some wrapped qs of_bytes narrow
