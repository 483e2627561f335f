use Rattle.std.proofs.Common.{◌≡◌, Option, None, Some, List, ℕ, refl, ap, ◌∙◌, map, subst, sym, unwrap_or}
use Rattle.std.specs.Prelude.{IfOk}
use Rattle.std.specs.List.{join_with_byte}
use Rattle.std.specs.Option.{option_or}
use Rattle.grid_records_measure.specs.TextLines.{line_feed, text_lines}
use Rattle.grid_records_traits.specs.Rows.{text_at}
use Rattle.tabled_width_texts.specs.WrappedOrCut.{cutting_wider, justifying}
use Rattle.tabled_width_texts.specs.Filling.{filled_line}
use Rattle.tabled_width_texts.proofs.Measuring.{narrow_changes, narrow_stays}
use Rattle.tabled_width_texts.proofs.justifying.JustifyingRoomChange.fit.Goals as goal

or-none : {X : Type 0} (a : Option X) → option_or a None ≡ a
or-none None = refl
or-none (Some x) = refl

-- the text with its lines filled
abbrev filled_text : ℕ → List ℕ → List ℕ
filled_text room text = join_with_byte line_feed (map (filled_line room 0x20) (text_lines text))

pub returns-then-width-room : goal.returns-then-width-room
returns-then-width-room g c =
    let text = text_at (g.R.RecordTexts.rows c.args.records.now) c.args.pos in
    let room = c.args.room in
    let stays = narrow_stays text c.get_width-width.result room c.get_width-width.ensures (filled_text room text) c.if-width-room.true in
    let same : cutting_wider room text ≡ justifying room text = sym (or-none (cutting_wider room text)) ∙ ap (λ first. option_or (cutting_wider room (unwrap_or first text)) first) stays in
    subst (λ (wanted : Option (List ℕ)). IfOk c.cut_measured.result (λ out. out ≡ wanted)) (ap (cutting_wider room) c.get_text-text.ensures ∙ same) c.cut_measured.ensures

pub returns : goal.returns
returns g c =
    let text = text_at (g.R.RecordTexts.rows c.args.records.now) c.args.pos in
    let room = c.args.room in
    let filled = c.in_ok-filled.filled in
    let is_filled : filled ≡ filled_text room text = c.in_ok-filled.ensures ∙ c.in_ok-fill_lines.ensures ∙ ap (filled_text room) c.get_text-text.ensures in
    let changes = narrow_changes text c.get_width-width.result room c.get_width-width.ensures (filled_text room text) c.if-width-room.false in
    c.or.ensures
    ∙ ap (λ first. option_or first (Some filled)) (c.in_ok-cut.ensures ∙ ap (cutting_wider room) c.text.ensures)
    ∙ ap (λ (bytes : List ℕ). option_or (cutting_wider room bytes) (Some bytes)) is_filled
    ∙ ap (λ first. option_or (cutting_wider room (unwrap_or first text)) first) changes
