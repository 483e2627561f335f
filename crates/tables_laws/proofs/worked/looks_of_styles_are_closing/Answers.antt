-- Each glyph is a character that is no control character; the fills and the colours are those of a new look.
use Rattle.std.proofs.Common.{refl}
use Rattle.std.specs.Prelude.{IfSome}
use Rattle.grid_config_values.specs.Glyphs.{Between, BoundaryKind, First, Last, along_column, crossing, in_row, no_borders}
use Rattle.tabled_glyphs.specs.Glyphs.{extended, modern}
use Rattle.tables_laws.specs.Shown.ClosingLooks.{IsNoControl}
use Rattle.tables_laws.proofs.WorkedLemmas.Looks.{closing-in}
use Rattle.tables_laws.proofs.worked.looks_of_styles_are_closing.Goals as goal

modern-crossings : (row column : BoundaryKind) → IfSome (crossing modern row column) IsNoControl
modern-crossings First First = record { scalar = refl; no_control = refl }
modern-crossings First Between = record { scalar = refl; no_control = refl }
modern-crossings First Last = record { scalar = refl; no_control = refl }
modern-crossings Between First = record { scalar = refl; no_control = refl }
modern-crossings Between Between = record { scalar = refl; no_control = refl }
modern-crossings Between Last = record { scalar = refl; no_control = refl }
modern-crossings Last First = record { scalar = refl; no_control = refl }
modern-crossings Last Between = record { scalar = refl; no_control = refl }
modern-crossings Last Last = record { scalar = refl; no_control = refl }

modern-along : (kind : BoundaryKind) → IfSome (along_column modern kind) IsNoControl
modern-along First = record { scalar = refl; no_control = refl }
modern-along Between = record { scalar = refl; no_control = refl }
modern-along Last = record { scalar = refl; no_control = refl }

modern-rows : (kind : BoundaryKind) → IfSome (in_row modern kind) IsNoControl
modern-rows First = record { scalar = refl; no_control = refl }
modern-rows Between = record { scalar = refl; no_control = refl }
modern-rows Last = record { scalar = refl; no_control = refl }

pub returns-clause-modern : goal.returns-clause-modern
returns-clause-modern c = closing-in modern modern-crossings modern-along modern-rows

extended-crossings : (row column : BoundaryKind) → IfSome (crossing extended row column) IsNoControl
extended-crossings First First = record { scalar = refl; no_control = refl }
extended-crossings First Between = record { scalar = refl; no_control = refl }
extended-crossings First Last = record { scalar = refl; no_control = refl }
extended-crossings Between First = record { scalar = refl; no_control = refl }
extended-crossings Between Between = record { scalar = refl; no_control = refl }
extended-crossings Between Last = record { scalar = refl; no_control = refl }
extended-crossings Last First = record { scalar = refl; no_control = refl }
extended-crossings Last Between = record { scalar = refl; no_control = refl }
extended-crossings Last Last = record { scalar = refl; no_control = refl }

extended-along : (kind : BoundaryKind) → IfSome (along_column extended kind) IsNoControl
extended-along First = record { scalar = refl; no_control = refl }
extended-along Between = record { scalar = refl; no_control = refl }
extended-along Last = record { scalar = refl; no_control = refl }

extended-rows : (kind : BoundaryKind) → IfSome (in_row extended kind) IsNoControl
extended-rows First = record { scalar = refl; no_control = refl }
extended-rows Between = record { scalar = refl; no_control = refl }
extended-rows Last = record { scalar = refl; no_control = refl }

pub returns-clause-extended : goal.returns-clause-extended
returns-clause-extended c = closing-in extended extended-crossings extended-along extended-rows

empty-crossings : (row column : BoundaryKind) → IfSome (crossing no_borders row column) IsNoControl
empty-crossings First First = tt
empty-crossings First Between = tt
empty-crossings First Last = tt
empty-crossings Between First = tt
empty-crossings Between Between = tt
empty-crossings Between Last = tt
empty-crossings Last First = tt
empty-crossings Last Between = tt
empty-crossings Last Last = tt

empty-along : (kind : BoundaryKind) → IfSome (along_column no_borders kind) IsNoControl
empty-along First = tt
empty-along Between = tt
empty-along Last = tt

empty-rows : (kind : BoundaryKind) → IfSome (in_row no_borders kind) IsNoControl
empty-rows First = tt
empty-rows Between = tt
empty-rows Last = tt

pub returns-clause-empty : goal.returns-clause-empty
returns-clause-empty c = closing-in no_borders empty-crossings empty-along empty-rows
