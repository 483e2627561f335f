-- A line at a time comes off the text.
use Rattle.std.proofs.Common.{◌≡◌, ◌∙◌, List, Option, false, ℕ, ap, subst, sym}
use Rattle.std.specs.Borrow.{Bor}
use Rattle.std.specs.Prelude.{◌&&◌}
use Rattle.std.specs.List.{list_all}
use Rattle.std.specs.Option.{IfSome}
use Rattle.ansi_str.specs.StyledText.{has_escape}
use Rattle.grid_records_measure.specs.RawLines.{lines_behind}
use Rattle.basinmug_columns.specs.Fitting.Fitting.{is_not_blank}
use Rattle.basinmug_columns.proofs.FittingLemmas.Plain.{lines-shown, split-first}
use Rattle.basinmug_columns.proofs.fitting.wrapping.each_line_shows.Goals as goal

pub plain_line_shows-requires : goal.plain_line_shows-requires
plain_line_shows-requires c =
    let plain : has_escape c.in-Some.rest.now ≡ false = subst (λ (left : Option (Bor (List ℕ))). IfSome left (λ other. has_escape other.now ≡ false)) c.in-Some.is c.loop-left.invariant.plain in
    (split-first c.in-Some.rest.now c.split_line.result.0.now c.split_line.result.1 plain c.split_line.ensures.parted c.split_line.ensures.lines).1

pub returns-then-not-plain_line_shows : goal.returns-then-not-plain_line_shows
returns-then-not-plain_line_shows c =
    let plain : has_escape c.in-Some.rest.now ≡ false = subst (λ (left : Option (Bor (List ℕ))). IfSome left (λ other. has_escape other.now ≡ false)) c.in-Some.is c.loop-left.invariant.plain in
    let first = split-first c.in-Some.rest.now c.split_line.result.0.now c.split_line.result.1 plain c.split_line.ensures.parted c.split_line.ensures.lines in
    sym (ap (list_all is_not_blank) (lines-shown c.args.text.now c.requires) ∙ c.loop-left.invariant.same
    ∙ ap (λ (left : Option (Bor (List ℕ))). list_all is_not_blank (lines_behind left)) c.in-Some.is ∙ ap (list_all is_not_blank) first.0
    ∙ ap (λ b. b && list_all is_not_blank (lines_behind c.split_line.result.1)) (sym c.plain_line_shows.ensures ∙ c.if-not-plain_line_shows.true))

pub loop-left-preserved : goal.loop-left-preserved
loop-left-preserved c =
    let plain : has_escape c.in-Some.rest.now ≡ false = subst (λ (left : Option (Bor (List ℕ))). IfSome left (λ other. has_escape other.now ≡ false)) c.in-Some.is c.loop-left.invariant.plain in
    let first = split-first c.in-Some.rest.now c.split_line.result.0.now c.split_line.result.1 plain c.split_line.ensures.parted c.split_line.ensures.lines in
    record {
      same = c.loop-left.invariant.same ∙ ap (λ (left : Option (Bor (List ℕ))). list_all is_not_blank (lines_behind left)) c.in-Some.is ∙ ap (list_all is_not_blank) first.0
          ∙ ap (λ b. b && list_all is_not_blank (lines_behind c.split_line.result.1)) (sym c.plain_line_shows.ensures ∙ c.if-not-plain_line_shows.false);
      plain = first.2;
    }

pub returns : goal.returns
returns c =
    sym (ap (list_all is_not_blank) (lines-shown c.args.text.now c.requires) ∙ c.loop-left.invariant.same
    ∙ ap (λ (left : Option (Bor (List ℕ))). list_all is_not_blank (lines_behind left)) c.in_default.is)
