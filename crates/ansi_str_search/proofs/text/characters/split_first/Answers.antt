-- One step of `chars`.
use Rattle.std.proofs.Common.{List, ℕ, ◌++◌, ap, sym, ◌∙◌}
use Rattle.std.specs.Prelude.{encode_utf8}
use Rattle.std.proofs.lemmas.Str.{chars_past_char}
use Rattle.ansi_str_search.proofs.text.characters.split_first.Goals as goal

pub returns : goal.returns
returns c =
    let first : ℕ = c.in_ok-first.first in
    chars_past_char c.args.text.now c.as_str.result.now first c.utf8.text
    (sym c.chars-characters.ensures.rest ∙ c.in_ok-first.ensures.steps.0 ∙ ap (λ (rest : List ℕ). encode_utf8 first ++ rest) (sym c.as_str.ensures))
