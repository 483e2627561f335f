use Rattle.std.proofs.Common.{◌≡◌, ◌++◌, ap, string_bytes, ◌∙◌}
use Rattle.papergrid_cells.specs.Painting.{fill_bytes}
use Rattle.papergrid_cells.proofs.Spaces.{spaced-made}
use Rattle.papergrid_cells.proofs.spaced.Spaced.new.Goals as goal

pub invariant_of-result : goal.invariant_of-result
invariant_of-result c =
    let are : string_bytes c.push_str.new.self ≡ fill_bytes 0x20 64 ++ c.args.text.now =
    c.in_ok-push_str.ensures.bytes ∙ ap (λ l. l ++ c.args.text.now) (c.in_ok-push_repeated.ensures ∙ ap (λ l. l ++ fill_bytes 0x20 64) c.new-spaced.ensures.bytes) in
    record { spaced = spaced-made 64 c.args.text.now are c.utf8.text }
