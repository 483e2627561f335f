-- The character and what comes after it are the text.
use Rattle.std.proofs.Common.{◌≡◌, ◌∙◌, ◌++◌, ◌∷◌, List, ℕ, ap, sym}
use Rattle.std.specs.Prelude.{chars, encode_utf8}
use Rattle.std.specs.Str.Iter.{chars_rest}
use Rattle.std.proofs.lemmas.Str.{chars_past_char}
use Rattle.tabled_size_wrap.proofs.words.split_character.Goals as goal

pub returns : goal.returns
returns c =
    let text = c.args.text.now in
    let character = c.in_ok-c.c in
    let behind = chars_rest c.next.new.self in
    let spelled : text ≡ encode_utf8 character ++ behind = sym c.chars-characters.ensures.rest ∙ c.in_ok-c.ensures.steps.0 in
    let left : c.as_str.result.now ≡ behind = c.as_str.ensures in (
      spelled ∙ ap (λ (bytes : List ℕ). encode_utf8 character ++ bytes) (sym left),
      chars_past_char text behind character c.utf8.text spelled ∙ ap (λ (bytes : List ℕ). character ∷ chars bytes) (sym left),
    )
