use Rattle.papergrid_print.proofs.print.write_buffered_table.Goals as goal

pub returns : goal.returns
returns g c = c.write_all.ensures
