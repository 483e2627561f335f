-- What a table prints.
use Rattle.std.specs.Prelude.{◌≡◌, ◌≢◌, ◌⊎◌, ℕ, List, Result, Ok, Err, IfErr, OnOk, length}
use Rattle.grid_config_values.specs.declared.fault.Fault.{Fault}
use Rattle.grid_config_values.specs.declared.fault.Fault.TheVariants.{Memory}
use Rattle.grid_config_values.specs.declared.position.Position.{Position}
use Rattle.grid_config_values.specs.declared.spans.extent.Extent.{Extent}
use Rattle.grid_config_values.specs.Spans.Rectangles.{Holds, IsInside}
use Rattle.grid_config_values.specs.Spans.Spans.{IsInTable, single}
use Rattle.papergrid_picture.specs.Fitting.{FitsAnswer}
use Rattle.papergrid_picture.specs.Frame.{Frame, frame_of}
use Rattle.papergrid_picture.specs.Tables.{sizes_of, table_text}
use Rattle.tabled_size.specs.Dimension.Sizes.{given_size}
use Rattle.tabled_size.specs.Dimension.Stored.{Stored, completed, stored_sizes}
use Rattle.tabled_steps.specs.Sizes.{natural_heights, natural_widths}
use Rattle.tabled_steps.specs.States.{State, column_count}

-- in a table of `rows` rows and `columns` columns, each cell of several rows or columns has its rectangle inside the
-- table. No two of these rectangles share a place
pub record SpansAreGood (extent : Position → Extent) (rows columns : ℕ) : Type 0 where
  pub inside : (anchor : Position) → extent anchor ≢ single → IsInTable rows columns anchor → IsInside anchor (extent anchor) rows columns
  pub apart : (a b place : Position) → extent a ≢ single → extent b ≢ single → IsInTable rows columns a → IsInTable rows columns b → Holds a (extent a) place → Holds b (extent b) place → a ≡ b

module _ (s : State) where
  -- the sizes that are kept, and the least ones in place of those that aren't
  abbrev pub drawn_sizes : Stored
  drawn_sizes =
      let columns = column_count s.rows in
      completed (record { widths = natural_widths s.look columns s.rows; heights = natural_heights s.look columns s.rows }) s.sizes

  -- of each column and row of the table by its number
  abbrev pub drawn_widths : List ℕ
  drawn_widths = sizes_of (given_size (stored_sizes drawn_sizes.widths)) (column_count s.rows)

  abbrev pub drawn_heights : List ℕ
  drawn_heights = sizes_of (given_size (stored_sizes drawn_sizes.heights)) (length s.rows)

  abbrev pub drawn_frame : Frame
  drawn_frame = frame_of s.look drawn_widths drawn_heights

  -- whether the table fits these sizes, refused as `Spans`, `Range` or `Room`, in this order
  abbrev pub IsFitsAnswer : Result (Unit {0}) Fault → Type 0
  IsFitsAnswer answer = FitsAnswer drawn_frame s.rows (SpansAreGood s.look.extent (length s.rows) (column_count s.rows)) answer

  -- what is made of the table says that it fits; a refusal says how it does not, or that allocation failed
  pub record FitsOrFails {A : Type 0} (result : Result A Fault) : Type 0 where
    pub fits : OnOk result (IsFitsAnswer (Ok tt))
    pub refused : IfErr result (λ fault. (fault ≡ Memory) ⊎ IsFitsAnswer (Err fault))

  -- its text: its picture in bytes
  abbrev pub printed : List ℕ
  printed = table_text s.look s.rows s.colors drawn_widths drawn_heights
