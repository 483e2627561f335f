-- A line that shows no text is one part; any other is wrapped run by run.
use Rattle.std.proofs.Common.{◌≡◌, ◌∙◌, ◌==◌, [], ◌++◌, List, ℕ, length, true, ap, sym, subst, arith, refl, string_bytes}
use Rattle.std.specs.List.{join_with_byte}
use Rattle.std.specs.Str.{IsAscii}
use Rattle.std.proofs.lemmas.Bool.Decides.{nat_tests}
use Rattle.std.proofs.lemmas.Result.{on_ok_weaker}
use Rattle.ansi_scan.specs.Pieces.{pieces}
use Rattle.ansi_scan.proofs.Existence.{ArePiecesOf-pieces}
use Rattle.ansi_str.specs.StyledText.{strip}
use Rattle.grid_records_measure.specs.TextLines.{line_feed}
use Rattle.tabled_size_wrap.specs.Wrapping.{line_part}
use Rattle.tabled_size_wrap.specs.Runs.{wrapped_lines}
use Rattle.tabled_size_wrap.proofs.Wraps.{wrapped_lines-nothing, no-bytes}
use Rattle.tabled_size_wrap.proofs.wrapped_lines.push_wrapped_lines.Goals as goal

pub push_nothing-requires : goal.push_nothing-requires
push_nothing-requires c =
    let empty : (length c.deref.result.now == 0) ≡ true = sym c.is_empty.ensures ∙ c.if-is_empty.true in
    let none : length c.deref.result.now ≡ 0 = grind (arith, nat_tests) in
    sym (c.deref.ensures.value ∙ c.in_ok-stripped.ensures.strips (pieces c.args.line.now) (ArePiecesOf-pieces c.args.line.now)) ∙ no-bytes c.deref.result.now none

pub returns-then-is_empty : goal.returns-then-is_empty
returns-then-is_empty c =
    let empty : (length c.deref.result.now == 0) ≡ true = sym c.is_empty.ensures ∙ c.if-is_empty.true in
    let none : length c.deref.result.now ≡ 0 = grind (arith, nat_tests) in
    let nothing : strip (pieces c.args.line.now) ≡ [] = sym (c.deref.ensures.value ∙ c.in_ok-stripped.ensures.strips (pieces c.args.line.now) (ArePiecesOf-pieces c.args.line.now)) ∙ no-bytes c.deref.result.now none in
    let out = string_bytes c.args.out.now in
    let more : string_bytes c.push_nothing.new.out ≡ out ++ line_part (pieces c.args.line.now) 0 0 → string_bytes c.push_nothing.new.out ≡ out ++ join_with_byte line_feed (wrapped_lines c.args.width c.args.keep_words (pieces c.args.line.now)) =
    λ pushed. pushed ∙ ap (λ (bytes : List ℕ). out ++ bytes) (sym (wrapped_lines-nothing c.args.width c.args.keep_words (pieces c.args.line.now) nothing)) in
    on_ok_weaker c.push_nothing.result more c.push_nothing.ensures

pub push_full_lines-requires-clause-shown : goal.push_full_lines-requires-clause-shown
push_full_lines-requires-clause-shown c =
    c.len.ensures ∙ ap length (c.in_ok-stripped.ensures.strips (pieces c.args.line.now) (ArePiecesOf-pieces c.args.line.now))

pub push_full_lines-requires-clause-ascii : goal.push_full_lines-requires-clause-ascii
push_full_lines-requires-clause-ascii c =
    subst IsAscii (c.deref-then-not-keep_words.ensures.value ∙ c.in_ok-stripped.ensures.strips (pieces c.args.line.now) (ArePiecesOf-pieces c.args.line.now)) (c.if-is_ascii.ensures refl)

pub push_runs-requires-clause-shown : goal.push_runs-requires-clause-shown
push_runs-requires-clause-shown c = c.deref-2.ensures.value ∙ c.in_ok-stripped.ensures.strips (pieces c.args.line.now) (ArePiecesOf-pieces c.args.line.now)
