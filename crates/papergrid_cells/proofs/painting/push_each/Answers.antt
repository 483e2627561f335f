-- One character alone.
use Rattle.std.proofs.Common.{◌∙◌, ◌++◌, [], List, ℕ, ap, append-nil, string_bytes, sym}
use Rattle.std.specs.Prelude.{encode_utf8}
use Rattle.std.proofs.lemmas.List.Concat.{flat_map-cons}
use Rattle.papergrid_cells.specs.Painting.{fill_bytes}
use Rattle.papergrid_cells.proofs.painting.push_each.Goals as goal

pub returns-then-width-eq1 : goal.returns-then-width-eq1
returns-then-width-eq1 c =
    let character = c.args.character in
    c.in_ok-push.ensures.bytes ∙ ap (λ (bytes : List ℕ). string_bytes c.args.out.now ++ bytes)
    (sym (append-nil (encode_utf8 character)) ∙ sym (flat_map-cons encode_utf8 character []) ∙ ap (fill_bytes character) (sym c.if-width-eq1.true))
