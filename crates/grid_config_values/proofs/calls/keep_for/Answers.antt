use Rattle.std.proofs.lemmas.Result.{on_ok_weaker}
use Rattle.grid_config_values.proofs.Together.{cell_added, cell_kept, column_added, column_kept, row_added, row_kept}
use Rattle.grid_config_values.proofs.calls.keep_for.Goals as goal

pub returns-in-Column-clause-kept : goal.returns-in-Column-clause-kept
returns-in-Column-clause-kept g c = on_ok_weaker c.keep.result (λ keeps. column_kept _ _ _ _ _ keeps c.requires.kept) c.keep.ensures.ok

pub returns-in-Column-clause-adds : goal.returns-in-Column-clause-adds
returns-in-Column-clause-adds g c = rw c.in-Column.is (on_ok_weaker c.keep.result (λ keeps. column_added _ _ _ _ _ keeps c.requires.kept) c.keep.ensures.ok)

pub returns-in-Row-clause-kept : goal.returns-in-Row-clause-kept
returns-in-Row-clause-kept g c = on_ok_weaker c.keep-in-Row.result (λ keeps. row_kept _ _ _ _ _ keeps c.requires.kept) c.keep-in-Row.ensures.ok

pub returns-in-Row-clause-adds : goal.returns-in-Row-clause-adds
returns-in-Row-clause-adds g c = rw c.in-Row.is (on_ok_weaker c.keep-in-Row.result (λ keeps. row_added _ _ _ _ _ keeps c.requires.kept) c.keep-in-Row.ensures.ok)

pub returns-in-Cell-clause-kept : goal.returns-in-Cell-clause-kept
returns-in-Cell-clause-kept g c = on_ok_weaker c.keep-in-Cell.result (λ keeps. cell_kept _ _ _ _ _ keeps c.requires.kept) c.keep-in-Cell.ensures.ok

pub returns-in-Cell-clause-adds : goal.returns-in-Cell-clause-adds
returns-in-Cell-clause-adds g c = rw c.in-Cell.is (on_ok_weaker c.keep-in-Cell.result (λ keeps. cell_added _ _ _ _ _ keeps c.requires.kept) c.keep-in-Cell.ensures.ok)
