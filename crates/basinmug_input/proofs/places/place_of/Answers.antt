-- Each byte that is passed is another one, so that it isn't passed at all.
use Rattle.std.proofs.Common.{◌≡◌, ◌∙◌, ◌+◌, ◌<◌, ◌≤◌, ℕ, List, length, take, get_or, sym, ap, subst, arith}
use Rattle.std.proofs.lemmas.Bool.{false≢true}
use Rattle.std.proofs.lemmas.List.{take_all, take_more}
use Rattle.std.proofs.lemmas.List.Sums.{fold_more}
use Rattle.csv.specs.Machine.{step}
use Rattle.basinmug_input.specs.Places.{read_before}
use Rattle.basinmug_input.specs.Reading.{SoFar, nothing, read_of, read_on, settings, with_byte}
use Rattle.basinmug_input.specs.Walking.{IsReadOf}
use Rattle.basinmug_input.proofs.Bytes.{HasAtMost, few-with, no-bytes, read-all}
use Rattle.basinmug_input.proofs.places.place_of.Goals as goal

pub loop-i-init : goal.loop-i-init
loop-i-init c = record {
  read = c.start-read.ensures.read c.args.delimiter;
  few = c.start-read.ensures.few;
  not_yet = no-bytes c.args.row c.args.field c.args.byte;
}

pub loop-i-preserved : goal.loop-i-preserved
loop-i-preserved c =
    let text = c.args.text.now in
    let i = c.loop-i.i in
    let cfg = settings c.args.delimiter in
    let known = c.loop-i.invariant in
    let before = read_before cfg text i in
    let b = get_or text i 0 in
    let below : i < length text = omega arith in
    let after : read_before cfg text (i + 1) ≡ with_byte (step cfg before.state b).1 (step cfg before.state b).0 before b = fold_more (read_on cfg) nothing text i 0 below in
    record {
      read = subst (λ (front : List ℕ). IsReadOf cfg front c.with-read.result) (sym (take_more text i 0 below)) (c.with-read.ensures.read (take i text) known.read);
      few = c.with-read.ensures.few i known.few;
      not_yet = subst (λ (r : SoFar). HasAtMost r c.args.row c.args.field c.args.byte) (sym after)
          (few-with (step cfg before.state b).1 (step cfg before.state b).0 before b c.args.row c.args.field c.args.byte known.not_yet
          (λ copies in_row in_field as_byte.
          let joins = c.step-action.ensures.action ∙ ap (λ s. (step cfg s b).1) known.read.state ∙ copies in
          let found = c.is_read_as.ensures.1 (joins, known.read.records ∙ in_row, known.read.fields ∙ in_field, known.read.bytes ∙ as_byte) in
          false≢true (sym c.if-is_read_as.false ∙ found)));
    }

pub returns : goal.returns
returns c =
    let text = c.args.text.now in
    let cfg = settings c.args.delimiter in
    let all : length text ≤ c.loop-i.i = omega arith in
    let few = subst (λ (front : List ℕ). HasAtMost (read_of cfg front) c.args.row c.args.field c.args.byte) (take_all c.loop-i.i text all) c.loop-i.invariant.not_yet in
    absurd (read-all cfg text c.args.row c.args.field c.args.byte few c.requires)
