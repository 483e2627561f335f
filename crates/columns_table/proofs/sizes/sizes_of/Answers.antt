use Rattle.std.proofs.Common.{◌≡◌, ℕ, inr, List, subst, ◌∙◌}
use Rattle.std.specs.Prelude.{IfErr, IfOk, OnOk}
use Rattle.std.proofs.lemmas.Result.{IfErr-weaker, IfOk-weaker}
use Rattle.grid_config.specs.Compact.{Compact, compact_of}
use Rattle.grid_config.specs.Looks.{compact_look}
use Rattle.grid_records_estimate.specs.Sizes.{IsRefusal}
use Rattle.grid_records_estimate.proofs.Meets.{IfErr-told}
use Rattle.grid_records_estimate.proofs.Sizes.{IsRefusal-implies}
use Rattle.papergrid_picture.specs.Fitting.{InRange, table_width}
use Rattle.papergrid_picture.specs.Frame.{Frame, frame_of, line_count}
use Rattle.columns_asked.specs.DrawnTables.{frame_under, heights_of, widths_of}
use Rattle.columns_table.proofs.SplitRows.{one-too_great}
use Rattle.columns_table.proofs.sizes.sizes_of.Goals as goal

-- of these sizes
module _ (style : Compact) (texts : List (List (List ℕ))) (w h : List ℕ) (ew : w ≡ widths_of style texts) (eh : h ≡ heights_of style texts) where
  moved : (P : Frame → Type 0) → P (frame_of (compact_look style) w h) → P (frame_under style texts)
  moved P here = subst (λ heights. P (frame_of (compact_look style) (widths_of style texts) heights)) eh (subst (λ widths. P (frame_of (compact_look style) widths h)) ew here)

pub returns-clause-widths : goal.returns-clause-widths
returns-clause-widths c =
    IfOk-weaker c.totalled.result _ _ (λ sizes told. told.0 ∙ c.in_ok-widths.ensures.widths) c.totalled.ensures.sizes

pub returns-clause-heights : goal.returns-clause-heights
returns-clause-heights c =
    IfOk-weaker c.totalled.result _ _ (λ sizes told. told.1 ∙ c.in_ok-widths.ensures.heights) c.totalled.ensures.sizes

pub returns-clause-whole_width : goal.returns-clause-whole_width
returns-clause-whole_width c =
    moved (compact_of c.args.style.now) _ c.in_ok-widths.widths.items c.in_ok-widths.heights.items c.in_ok-widths.ensures.widths c.in_ok-widths.ensures.heights
    (λ frame. IfOk c.totalled.result (λ sizes. sizes.whole_width ≡ table_width frame)) c.totalled.ensures.whole_width

pub returns-clause-whole_height : goal.returns-clause-whole_height
returns-clause-whole_height c =
    moved (compact_of c.args.style.now) _ c.in_ok-widths.widths.items c.in_ok-widths.heights.items c.in_ok-widths.ensures.widths c.in_ok-widths.ensures.heights
    (λ frame. IfOk c.totalled.result (λ sizes. sizes.whole_height ≡ line_count frame)) c.totalled.ensures.whole_height

pub returns-clause-fits : goal.returns-clause-fits
returns-clause-fits c =
    moved (compact_of c.args.style.now) _ c.in_ok-widths.widths.items c.in_ok-widths.heights.items c.in_ok-widths.ensures.widths c.in_ok-widths.ensures.heights
    (λ frame. OnOk c.totalled.result (InRange frame)) c.totalled.ensures.fits

pub returns-clause-refused : goal.returns-clause-refused
returns-clause-refused c =
    moved (compact_of c.args.style.now) _ c.in_ok-widths.widths.items c.in_ok-widths.heights.items c.in_ok-widths.ensures.widths c.in_ok-widths.ensures.heights
    (λ frame. IfErr c.totalled.result (λ fault. IsRefusal fault (¬ (InRange frame)))) (IfErr-weaker c.totalled.result _ _ (λ fault known. inr known) c.totalled.ensures.refused)

pub returns-in_err-widths-clause-refused : goal.returns-in_err-widths-clause-refused
returns-in_err-widths-clause-refused c =
    IfErr-told c.from_residual.result c.in_err-widths.field-0.0 _ c.from_residual.ensures.1
    (IsRefusal-implies c.in_err-widths.field-0.0 _ _
    (λ high. one-too_great (compact_of c.args.style.now) _ high)
    c.in_err-widths.ensures.refused)
