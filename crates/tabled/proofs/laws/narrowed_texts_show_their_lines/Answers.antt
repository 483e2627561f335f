use Rattle.std.proofs.Common.{◌≡◌, ◌==◌, ◌-◌, ◌<◌, ℕ, None, Some, IfSome, true, false, arith, chars, cond, length, nat_lt, refl}
use Rattle.std.proofs.lemmas.Bool.Decides.{nat_tests}
use Rattle.ansi_str.specs.StyledText.{strip}
use Rattle.grid_records_measure.specs.Measures.{measure}
use Rattle.ansi_scan.specs.Pieces.{pieces}
use Rattle.ansi_scan.proofs.Existence.{ArePiecesOf-pieces}
use Rattle.grid_records_measure.specs.Cutting.{ShowsCut}
use Rattle.grid_records_measure.specs.TextLines.{text_width}
use Rattle.grid_records_measure.proofs.ShownCuts.{cut-shows}
use Rattle.tabled_size_wrap.specs.Bytes.{cut_at, wrapped_text}
use Rattle.grid_records_measure.proofs.Cuts.{cut_at-meets}
use Rattle.tabled_size_wrap.proofs.Bytes.{wrapped_text-meets}
use Rattle.tabled_size_wrap.proofs.Wrapped.{wrapped-shows}
use Rattle.tabled_width.specs.Rooms.{in_room, text_room}
use Rattle.tabled_steps.proofs.ChangedTexts.{text-at}
use Rattle.grid_config_values.specs.declared.entity.Entity.TheVariants.{Global}
use Rattle.tabled.proofs.laws.narrowed_texts_show_their_lines.Goals as goal

pub returns-clause-texts : goal.returns-clause-texts
returns-clause-texts c = λ change least widths s place inside column. text-at (λ place text. in_room change text (text_room s.look least widths place)) s.rows place inside Global column

pub returns-clause-wrapped : goal.returns-clause-wrapped
returns-clause-wrapped c = λ width keep_words text some whole.
    let of_text = ArePiecesOf-pieces text in
    let bytes = wrapped_text width keep_words text in
    wrapped-shows keep_words text bytes (pieces text) whole.utf8 of_text whole.whole width some (wrapped_text-meets width keep_words text (pieces text) of_text) (pieces bytes) (ArePiecesOf-pieces bytes)

pub returns-clause-cut : goal.returns-clause-cut
returns-clause-cut c = λ width text whole.
    let of_text = ArePiecesOf-pieces text in
    let bytes = cut_at width text in
    elim (nat_lt width (text_width text)) as (λ b. IfSome (cond b (Some bytes) None) (λ bytes. ShowsCut width (pieces text) (pieces bytes))) [
      | true ↦ cut-shows width text bytes (pieces text) (pieces bytes) whole.utf8 of_text whole.whole (cut_at-meets width text (pieces text) of_text) (ArePiecesOf-pieces bytes)
      | false ↦ tt
    ]

some-suffix : (n : ℕ) → 0 < n → (n == 0) ≡ false
some-suffix n some = grind (arith, nat_tests)

has-room : (taken room : ℕ) → taken < room → nat_lt taken room ≡ true
has-room taken room fits = grind (arith, nat_tests)

pub returns-clause-before_suffix : goal.returns-clause-before_suffix
returns-clause-before_suffix c = λ cutting room text whole some fits.
    let of_text = ArePiecesOf-pieces text in
    let taken = measure (chars (strip (pieces cutting.suffix))) in
    let bytes = cut_at (room - taken) text in (
      rw (some-suffix (length cutting.suffix) some) (rw (has-room taken room fits) refl),
      cut-shows (room - taken) text bytes (pieces text) (pieces bytes) whole.utf8 of_text whole.whole (cut_at-meets (room - taken) text (pieces text) of_text) (ArePiecesOf-pieces bytes),
    )
