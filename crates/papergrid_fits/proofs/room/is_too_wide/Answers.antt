use Rattle.std.proofs.Common.{◌≡◌, ℕ, ◌&&◌, nat_lt, Bool, true, false, length, refl, map, ap, sym, ◌∙◌}
use Rattle.std.specs.List.{range_with_len}
use Rattle.std.proofs.lemmas.List.FromFn.{length-map-range_with_len}
use Rattle.grid_config_values.specs.Glyphs.{boundary_kind, has_column_boundary}
use Rattle.grid_config_values.specs.Order.{same_place}
use Rattle.grid_config_values.specs.declared.position.Position.{Position}
use Rattle.grid_config_values.specs.Spans.Spans.{extent_at}
use Rattle.grid_config_values.specs.Spans.Owners.{owner}
use Rattle.grid_config.specs.Looks.{look_of}
use Rattle.grid_config.specs.Settings.{Settings}
use Rattle.papergrid_picture.specs.Fitting.{need as needed}
use Rattle.papergrid_picture.specs.Frame.{stretch}
use Rattle.papergrid_fits.proofs.room.is_too_wide.Goals as goal

both : (a b : Bool) → b ≡ true → a ≡ (a && b)
both true b is = sym is
both false b is = refl

neither : (a b : Bool) → b ≡ false → false ≡ (a && b)
neither true b is = sym is
neither false b is = refl

-- what a cell needs is more than its columns and the boundaries between them have, of so many columns of the table
abbrev needs_of : Settings → (ℕ → ℕ) → ℕ → Position → ℕ → ℕ → Bool
needs_of settings size columns pos asked n =
    nat_lt (stretch (record { margin = settings.margin.left.size; sizes = map size (range_with_len 0 columns); has_boundary = λ j. has_column_boundary settings.borders (boundary_kind j n) })
    pos.col (extent_at settings.spans pos).columns) asked

-- the table has as many columns as it has widths
counted : (settings : Settings) (size : ℕ → ℕ) (columns : ℕ) (pos : Position) (asked : ℕ) → needs_of settings size columns pos asked (length (map size (range_with_len 0 columns))) ≡ needs_of settings size columns pos asked columns
counted settings size columns pos asked = ap (needs_of settings size columns pos asked) (length-map-range_with_len size 0 columns)

pub returns-then-needs_more : goal.returns-then-needs_more
returns-then-needs_more g c =
    let cfg = c.args.cfg.now in
    let pos = c.args.pos in
    let more = counted cfg (g.D.Dimension.width c.args.dims.now) c.args.columns pos (needed (look_of cfg) (g.R.RecordTexts.rows c.args.records.now) pos) ∙ (sym c.needs_more.ensures ∙ c.if-needs_more.true) in
    c.eq.ensures ∙ (ap (λ p. same_place p pos) c.owner.ensures.first ∙ both (same_place (owner (extent_at cfg.spans) pos) pos) _ more)

pub returns-else-needs_more : goal.returns-else-needs_more
returns-else-needs_more g c =
    let cfg = c.args.cfg.now in
    let pos = c.args.pos in
    let enough = counted cfg (g.D.Dimension.width c.args.dims.now) c.args.columns pos (needed (look_of cfg) (g.R.RecordTexts.rows c.args.records.now) pos) ∙ (sym c.needs_more.ensures ∙ c.if-needs_more.false) in
    c.if-needs_more.false ∙ neither (same_place (owner (extent_at cfg.spans) pos) pos) _ enough
