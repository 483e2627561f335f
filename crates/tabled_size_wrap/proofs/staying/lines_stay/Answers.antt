-- A line at a time comes off the text.
use Rattle.std.proofs.Common.{◌≡◌, ◌∙◌, Bool, List, Option, false, ℕ, ap, subst, sym}
use Rattle.std.specs.Borrow.{Bor}
use Rattle.std.specs.Prelude.{◌&&◌}
use Rattle.std.specs.List.{list_all}
use Rattle.std.specs.Option.{IfSome}
use Rattle.ansi_str.specs.StyledText.{has_escape}
use Rattle.grid_records_measure.specs.RawLines.{lines_behind}
use Rattle.tabled_size_wrap.specs.Staying.{line_stays}
use Rattle.tabled_size_wrap.proofs.StayingTexts.{split_stays}
use Rattle.tabled_size_wrap.proofs.staying.lines_stay.Goals as goal

pub returns-then-not-line_stays : goal.returns-then-not-line_stays
returns-then-not-line_stays c =
    let f : List ℕ → Bool = line_stays c.args.keep_words c.args.width in
    let behind = list_all f (lines_behind c.split_line.result.1) in
    let first = split_stays f c.args.text.now c.split_line.result.0.now c.split_line.result.1 c.requires c.split_line.ensures.parted c.split_line.ensures.lines in
    sym (first.0 ∙ ap (λ b. b && behind) (sym c.line_stays.ensures ∙ c.if-not-line_stays.true))

pub loop-rest-init : goal.loop-rest-init
loop-rest-init c =
    let f : List ℕ → Bool = line_stays c.args.keep_words c.args.width in
    let behind = list_all f (lines_behind c.split_line.result.1) in
    let first = split_stays f c.args.text.now c.split_line.result.0.now c.split_line.result.1 c.requires c.split_line.ensures.parted c.split_line.ensures.lines in
    record {
      same = first.0 ∙ ap (λ b. b && behind) (sym c.line_stays.ensures ∙ c.if-not-line_stays.false);
      plain = first.1;
    }

pub returns-then-not-line_stays-2 : goal.returns-then-not-line_stays-2
returns-then-not-line_stays-2 c =
    let f : List ℕ → Bool = line_stays c.args.keep_words c.args.width in
    let behind = list_all f (lines_behind c.split_line-in-Some.result.1) in
    let plain : has_escape c.in-Some.others.now ≡ false = subst (λ (rest : Option (Bor (List ℕ))). IfSome rest (λ other. has_escape other.now ≡ false)) c.in-Some.is c.loop-rest.invariant.plain in
    let next = split_stays f c.in-Some.others.now c.split_line-in-Some.result.0.now c.split_line-in-Some.result.1 plain c.split_line-in-Some.ensures.parted c.split_line-in-Some.ensures.lines in
    sym (c.loop-rest.invariant.same ∙ ap (λ (rest : Option (Bor (List ℕ))). list_all f (lines_behind rest)) c.in-Some.is ∙ next.0
    ∙ ap (λ b. b && behind) (sym c.line_stays-in-Some.ensures ∙ c.if-not-line_stays-2.true))

pub loop-rest-preserved : goal.loop-rest-preserved
loop-rest-preserved c =
    let f : List ℕ → Bool = line_stays c.args.keep_words c.args.width in
    let behind = list_all f (lines_behind c.split_line-in-Some.result.1) in
    let plain : has_escape c.in-Some.others.now ≡ false = subst (λ (rest : Option (Bor (List ℕ))). IfSome rest (λ other. has_escape other.now ≡ false)) c.in-Some.is c.loop-rest.invariant.plain in
    let next = split_stays f c.in-Some.others.now c.split_line-in-Some.result.0.now c.split_line-in-Some.result.1 plain c.split_line-in-Some.ensures.parted c.split_line-in-Some.ensures.lines in
    record {
      same = c.loop-rest.invariant.same ∙ ap (λ (rest : Option (Bor (List ℕ))). list_all f (lines_behind rest)) c.in-Some.is ∙ next.0
          ∙ ap (λ b. b && behind) (sym c.line_stays-in-Some.ensures ∙ c.if-not-line_stays-2.false);
      plain = next.1;
    }
