-- The rule is ASCII.
use Rattle.std.proofs.Common.{◌≡◌, ◌∙◌, ap, append_assoc, arith, ◌++◌, List, ℕ, length, string_bytes, string_len}
use Rattle.basinmug_expanded.specs.Columns.{head_of}
use Rattle.basinmug_expanded.specs.Records.{cross_behind, dashes}
use Rattle.basinmug_expanded.proofs.Ascii.{rule-ascii, split-ascii}
use Rattle.basinmug_expanded.proofs.lines.whole_rule.Goals as goal

pub truncate-requires : goal.truncate-requires
truncate-requires c = λ inside.
    let number = c.args.number in
    let names = c.args.columns.names in
    let taken = c.len-taken.result in
    let rule = c.args.columns.rule in
    let made : string_bytes c.push_repeated.new.out ≡ head_of number ++ (cross_behind names taken ++ dashes rule) =
    c.in_ok-push_repeated.ensures ∙ ap (λ (bytes : List ℕ). bytes ++ dashes rule) (c.in_ok-push_cross.ensures ∙ ap (λ (bytes : List ℕ). bytes ++ cross_behind names taken) c.in_ok-rule.ensures)
    ∙ append_assoc (head_of number) (cross_behind names taken) (dashes rule) in
    let counted : string_len c.push_repeated.new.out ≡ length (string_bytes c.push_repeated.new.out) = c.push_repeated.new.out.bytes.ok.0 in
    split-ascii (string_bytes c.push_repeated.new.out) (head_of number ++ (cross_behind names taken ++ dashes rule)) rule made (rule-ascii number names taken rule c.ranges.number.fits) (omega (arith, inside, counted))
