-- A lemma of `Wrapped`.
use Rattle.tabled_size_wrap.proofs.Wrapped.{wrapped-fits}
use Rattle.tabled_size_wrap.proofs.laws.wrapped_lines_fit.Goals as goal

pub returns : goal.returns
returns c = λ width keep_words text bytes ps qs some utf8 whole wrapped of_bytes narrow plain_all.
    wrapped-fits keep_words text bytes ps utf8 whole.of_text whole.none_broken width some wrapped qs of_bytes narrow plain_all
