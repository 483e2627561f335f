use Rattle.std.proofs.Common.{◌≡◌, ◌∙◌, ◌-◌, ◌<◌, ◌≤◌, ◌^◌, List, None, Ok, Some, ℕ, ap, arith, length, subst, sym}
use Rattle.std.proofs.lemmas.List.FromFn.{length-map-range_with_len}
use Rattle.std.specs.Prelude.{slice_index}
use Rattle.grid_config_values.specs.declared.entity.Entity.TheVariants.{Global}
use Rattle.grid_config.specs.Looks.{look_of}
use Rattle.grid_records.specs.RecordRows.Sources.{columns_of}
use Rattle.grid_records_traits.specs.Sources.{texts_of_rows}
use Rattle.tabled_size.specs.Dimension.Stored.{Stored}
use Rattle.tabled_steps.proofs.Changing.{count_texts}
use Rattle.tabled_steps.specs.Changes.{changed_rows}
use Rattle.tabled_steps.specs.Outcomes.{all_sized}
use Rattle.tabled_steps.specs.States.{column_count, state_with}
use Rattle.tabled_width.specs.WholeTables.Rooms.{empty_widths, in_room, text_room}
use Rattle.tabled_width.specs.WholeTables.Widths.{width_with_columns}
use Rattle.tabled_width.proofs.TablesLemmas.Drawing.{width_with_columns-le}
use Rattle.tabled_width.proofs.TablesLemmas.Tabling.{narrows}
use Rattle.tabled_width.proofs.tables.table.narrow.Goals as goal

pub shrunk-widths-requires-clause-leasts : goal.shrunk-widths-requires-clause-leasts
shrunk-widths-requires-clause-leasts g c =
    let columns = columns_of c.args.records.now.rows.items in
    let widths = c.in_ok-table_sizes.table_sizes.widths.items in
    ap length c.deref.ensures.value ∙ c.in_ok-least.ensures.count ∙ c.count_columns.ensures
    ∙ sym (ap length c.into_columns-columns.ensures ∙ ap length c.in_ok-table_sizes.ensures.columns ∙ length-map-range_with_len (λ column. slice_index widths column) 0 columns)

pub invariant_of-rooms : goal.invariant_of-rooms
invariant_of-rooms g c =
    let columns = columns_of c.args.records.now.rows.items in
    let widths = c.in_ok-table_sizes.table_sizes.widths.items in
    let look = look_of c.args.cfg.now in
    let given = c.into_columns-columns.result.items in
    let least : length c.deref-2.result.now ≡ length given = ap length c.deref-2.ensures.value ∙ c.in_ok-least.ensures.count ∙ c.count_columns.ensures
    ∙ sym (ap length c.into_columns-columns.ensures ∙ ap length c.in_ok-table_sizes.ensures.columns ∙ length-map-range_with_len (λ column. slice_index widths column) 0 columns) in
    let whole : width_with_columns look given < 2 ^ 64 = subst (λ (list : List ℕ). width_with_columns look list < 2 ^ 64) (sym c.into_columns-columns.ensures) (omega (arith, c.in_ok-table_sizes.ensures.whole)) in
    let below : width_with_columns look c.shrunk-widths.result.items ≤ width_with_columns look given =
    width_with_columns-le look given c.shrunk-widths.result.items c.shrunk-widths.ensures.count c.shrunk-widths.ensures.less in
    let small : width_with_columns look c.shrunk-widths.result.items < 2 ^ 64 = omega (arith, below, whole) in
    record {
      fits = subst (λ (list : List ℕ). width_with_columns look list < 2 ^ 64) (sym c.deref-3.ensures.value) small;
      leasts = least ∙ sym (ap length c.deref-3.ensures.value ∙ c.shrunk-widths.ensures.count);
    }

pub returns : goal.returns
returns g c = λ colors.
    let look = look_of c.args.cfg.now in
    let rows = texts_of_rows g.T.Cell.text c.args.records.now.rows.items in
    let columns = columns_of c.args.records.now.rows.items in
    let counted : columns ≡ column_count rows = sym (count_texts g.T.Cell.text c.args.records.now.rows.items) in
    let table_sizes = c.in_ok-table_sizes.table_sizes in
    let least = c.in_ok-least.least.items in
    let left = c.shrunk-widths.result.items in
    let fitted = g.X.RoomChange.fitted c.args.change.now in
    let leasts : all_sized (empty_widths look columns (length rows)) ≡ Ok least =
    ap (λ (n : ℕ). all_sized (empty_widths look columns n)) (sym c.count_rows.ensures) ∙ ap (λ (n : ℕ). all_sized (empty_widths look n c.count_rows.result)) (sym c.count_columns.ensures) ∙ c.in_ok-least.ensures.least in
    let taken = subst (λ (list : List ℕ). g.P.Peaker.shrinks c.args.priority least (table_sizes.whole - c.args.asked) list c.shrunk-widths.ensures.shrunk.0 left) (c.into_columns-columns.ensures ∙ c.in_ok-table_sizes.ensures.columns)
    (subst (λ (list : List ℕ). g.P.Peaker.shrinks c.args.priority list (table_sizes.whole - c.args.asked) c.into_columns-columns.result.items c.shrunk-widths.ensures.shrunk.0 left) c.deref.ensures.value c.shrunk-widths.ensures.shrunk.1) in
    let lent = λ (least widths : List ℕ). changed_rows (λ place text. in_room fitted text (text_room look least widths place)) Global (column_count rows) rows in
    let texts : texts_of_rows g.T.Cell.text c.change_texts.new.records.rows.items ≡ lent least left =
    c.in_ok-change_texts.ensures.changed ∙ ap (λ (list : List ℕ). lent list c.deref-3.result.now) c.deref-2.ensures.value ∙ ap (lent least) c.deref-3.ensures.value in
    let sizes : c.clear_height.new.self ≡ record { widths = Some left; heights = None } = c.clear_height.ensures ∙ ap (λ (stored : Stored). record stored { heights = None }) c.set_widths.ensures in
    narrows g.P.Peaker.shrinks c.args.priority fitted (state_with rows look colors c.args.dims.now) columns counted c.args.asked table_sizes.widths.items table_sizes.heights.items table_sizes.whole c.in_ok-table_sizes.ensures.table_sizes
    c.if-table_sizes-asked.false least left leasts c.shrunk-widths.ensures.shrunk.0 taken (state_with (texts_of_rows g.T.Cell.text c.change_texts.new.records.rows.items) look colors c.clear_height.new.self)
    (ap (λ (stored : Stored). state_with (lent least left) look colors stored) (sym sizes) ∙ ap (λ (texts : List (List (List ℕ))). state_with texts look colors c.clear_height.new.self) (sym texts))
