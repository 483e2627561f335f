-- Colours of columns accept and refuse nothing.
use Rattle.std.proofs.Common.{◌↔◌, ℕ, List}
use Rattle.program_options.specs.declared.columns.fault.RunFault.{RunFault}
use Rattle.program_options.specs.declared.columns.fault.RunFault.TheVariants.{Escape, LineTooWide, Memory, NotUtf8, Range, Read, ReadTooLong, Write, WriteZero}
use Rattle.columns_run.specs.DrawnTables.{TableInRange, wide_cell}
use Rattle.columns_run.specs.Run.{HasTable, MayEndBy}
use Rattle.columns_run.specs.Wanted.{Wanted, without_colors}

pub accepted-uncolored : (wanted : Wanted) (input : List ℕ) → (HasTable (without_colors wanted) input ↔ HasTable wanted input)
unfolding TableInRange wide_cell
accepted-uncolored wanted input = (λ has. has, λ has. has)

pub refuses-uncolored : (wanted : Wanted) (input : List ℕ) (fault : RunFault) → (MayEndBy (without_colors wanted) input fault ↔ MayEndBy wanted input fault)
unfolding TableInRange wide_cell
refuses-uncolored wanted input Read = (λ may. may, λ may. may)
refuses-uncolored wanted input ReadTooLong = (λ may. may, λ may. may)
refuses-uncolored wanted input (NotUtf8 at) = (λ may. may, λ may. may)
refuses-uncolored wanted input (Escape at) = (λ may. may, λ may. may)
refuses-uncolored wanted input Range = (λ may. may, λ may. may)
refuses-uncolored wanted input (LineTooWide row column) = (λ may. may, λ may. may)
refuses-uncolored wanted input Write = (λ may. may, λ may. may)
refuses-uncolored wanted input WriteZero = (λ may. may, λ may. may)
refuses-uncolored wanted input Memory = (λ may. may, λ may. may)
