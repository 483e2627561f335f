-- The lemmas of `Wrapped`.
use Rattle.tabled_size_wrap.proofs.Wrapped.{wrapped-shows, wrapped-closed}
use Rattle.tabled_size_wrap.proofs.laws.wrapped_lines_show_their_runs.Goals as goal

pub returns-clause-shown : goal.returns-clause-shown
returns-clause-shown c = λ width keep_words text bytes ps qs some utf8 whole wrapped of_bytes. wrapped-shows keep_words text bytes ps utf8 whole.of_text whole.none_broken width some wrapped qs of_bytes

pub returns-clause-closed : goal.returns-clause-closed
returns-clause-closed c = λ width keep_words text bytes ps qs lines some utf8 whole wrapped of_bytes are.
    wrapped-closed keep_words text bytes ps utf8 whole.of_text whole.none_broken width some wrapped qs of_bytes lines are
