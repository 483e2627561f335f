-- Texts that change.
use Rattle.std.specs.Prelude.{ℕ, All, List, [], ◌∷◌, Option, Ok, length}
use Rattle.std.specs.List.{filter_map}
use Rattle.std.specs.Option.{option_map}
use Rattle.grid_config_values.specs.Entities.{covered_positions}
use Rattle.grid_config_values.specs.declared.entity.Entity.{Entity}
use Rattle.grid_config_values.specs.declared.position.Position.{Position}
use Rattle.grid_records_traits.specs.Rows.{HasCell, text_at, with_text}
use Rattle.tabled_steps.specs.States.{Outcome, State, column_count}

-- the place of a text that changes, and what it becomes
abbrev pub Change : Type 0
Change = Position × List ℕ

-- of the texts at these places those that change; where nothing is returned for a text, it stays
abbrev pub changes : (Position → List ℕ → Option (List ℕ)) → List (List (List ℕ)) → List Position → List Change
changes change rows places = filter_map (λ p. option_map (λ text. (p, text)) (change p (text_at rows p))) places

-- the rows with these texts
abbrev pub with_all : List Change → List (List (List ℕ)) → List (List (List ℕ))
with_all [] rows = rows
with_all (change ∷ changes) rows = with_text (with_all changes rows) change.0 change.1

-- the rows in which the texts of the cells that the entity covers have changed
abbrev pub changed_rows : (Position → List ℕ → Option (List ℕ)) → Entity → ℕ → List (List (List ℕ)) → List (List (List ℕ))
changed_rows change entity columns rows = with_all (changes change rows (covered_positions entity (length rows) columns)) rows

-- each of these texts is there
abbrev pub AreInside : List (List (List ℕ)) → List Change → Type 0
AreInside rows changes = All (λ change. HasCell rows change.0) changes

-- a step on the texts of an entity's cells
abbrev pub changing : (Position → List ℕ → Option (List ℕ)) → Entity → State → Outcome
changing change at s = Ok (record s { rows = changed_rows change at (column_count s.rows) s.rows })
