-- One step of `chars`, from the end.
use Rattle.std.proofs.Common.{rules, List, ℕ, ◌++◌, ap, sym, ◌∙◌}
use Rattle.std.specs.Prelude.{encode_utf8}
use Rattle.std.specs.Char.{IsScalar}
use Rattle.ansi_str_search.proofs.TextLemmas.ShownCharacters.{chars-before_char}
use Rattle.ansi_str_search.proofs.text.characters.split_last.Goals as goal

pub returns : goal.returns
returns c =
    let last : ℕ = c.in_ok-last.last in
    let scalar : IsScalar last = search rules in
    chars-before_char c.args.text.now c.as_str.result.now last c.as_str.utf8 scalar
    (sym c.chars-characters.ensures.rest ∙ c.in_ok-last.ensures.steps ∙ ap (λ (rest : List ℕ). rest ++ encode_utf8 last) (sym c.as_str.ensures))
