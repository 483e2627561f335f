use Rattle.std.proofs.Common.{◌≡◌, ◌∙◌, ◌⊎◌, false, true, List, Option, Result, Ok, Err, IfOk, ap, sym, inl, inr, codes, map}
use Rattle.std.specs.Prelude.{IsErr, []}
use Rattle.std.proofs.lemmas.Result.{IfOk-weaker}
use Rattle.clap.specs.Faults.{fault_of}
use Rattle.clap.specs.Kinds.{IsAmong}
use Rattle.clap.specs.Matches.{first_value, found_of}
use Rattle.clap.specs.Simple.{App, app_of, matches_of}
use Rattle.clap.specs.Takes.{takes}
use Rattle.clap.specs.Walk.{Text, first_of, rows_of}
use Rattle.clap.specs.declared.error.kind.ErrorKind.{ErrorKind}
use Rattle.clap.specs.declared.error.kind.ErrorKind.TheVariants.{OutOfMemory}
use Rattle.clap.proofs.WalkLemmas.{first_value-rows}
use Rattle.program_options.specs.Columns.Settings.{settings_with}
use Rattle.command_line.specs.Columns.Asking.{IsAnswer, IsRead, IsRunOf, IsTold, colors_asked}
use Rattle.command_line.specs.Options.Given.{is_set}
use Rattle.command_line.specs.Options.Names.{named}
use Rattle.command_line.specs.Columns.Names.{priorities, styles}
use Rattle.tabled_size_priority.specs.declared.choice.Choice.TheVariants.{None as InTurns}
use Rattle.command_line.specs.Columns.Command.{IsColumns}
use Rattle.command_line.specs.declared.columns.words.Asked.{Asked}
use Rattle.command_line.specs.declared.columns.words.Asked.TheVariants.{Run, Help, Faulty}
use Rattle.command_line.proofs.ColumnsLemmas.Columns.{columns-free, columns-simple, width_passes}
use Rattle.command_line.proofs.columns.words.asked_by.Goals as goal
use Rattle.tabled_glyphs.specs.Glyphs.{ascii}

-- a run by the values of a parse is one by the matches of the arguments
same_run : (command : App) (words : List Text) (given : Text → Option Text) → ((id : Text) → given id ≡ first_of id (matches_of command words))
    → IsColumns command → fault_of command words ≡ [] → (what : Asked) → IsRunOf given what → IsAnswer words what
same_run command words given same columns faultless (Run options streamed) read = record {
  command = command;
  columns = columns;
  answer = (faultless, again);
  taken = λ _. again;
}
  where
    again : IsRead (λ id. first_of id (matches_of command words)) options streamed
    again = record {
      width = rw (← same (codes "width")) read.width;
      truncate = read.truncate ∙ ap is_set (same (codes "truncate"));
      keep_words = read.keep_words ∙ ap is_set (same (codes "keep-words"));
      priority = read.priority ∙ ap (named priorities InTurns) (same (codes "priority"));
      style = read.style ∙ ap (λ (o : Option Text). settings_with (named styles ascii o)) (same (codes "style"));
      streamed = read.streamed ∙ ap is_set (same (codes "streamed"));
      colors = sym (ap colors_asked (same (codes "color"))) ∙ read.colors;
    }
same_run command words given same columns faultless (Help text) read = absurd read
same_run command words given same columns faultless (Faulty text) read = record {
  command = command;
  columns = columns;
  answer = inl (faultless, (sym (ap colors_asked (same (codes "color"))) ∙ read.0, read.1));
  taken = λ _. (sym (ap colors_asked (same (codes "color"))) ∙ read.0, read.1);
}

-- the message for an error of the command
same_fault : (command : App) (words : List Text) (kind : ErrorKind) → IsColumns command
    → (takes command words ≡ true → ⊥) → IsAmong kind (fault_of command words) → (what : Asked) → IsTold kind what → IsAnswer words what
same_fault command words kind columns untaken among (Run options streamed) told = absurd told
same_fault command words kind columns untaken among (Help text) told = record {
  command = command;
  columns = columns;
  answer = (kind, among, told);
  taken = λ t. absurd (untaken t);
}
same_fault command words kind columns untaken among (Faulty text) told = record {
  command = command;
  columns = columns;
  answer = inr (kind, among, told);
  taken = λ t. absurd (untaken t);
}

-- and for an error, which comes from the command or from memory
told_of : {E : Type 0} (command : App) (words : List Text) (kind : ErrorKind) → IsColumns command
    → (takes command words ≡ true → kind ≡ OutOfMemory) → (kind ≡ OutOfMemory) ⊎ IsAmong kind (fault_of command words)
    → (what : Result Asked E) → (kind ≡ OutOfMemory → IsErr what) → IfOk what (IsTold kind) → IfOk what (IsAnswer words)
told_of command words kind columns taken why (Err e) memory told = tt
told_of command words kind columns taken why (Ok what) memory told = elim why [
  | inl out ↦ absurd (answered out)
  | inr among ↦ same_fault command words kind columns (λ t. answered (taken t)) among what told
]
  where
    answered : kind ≡ OutOfMemory → ⊥
    answered out =
        let bad : false ≡ true = memory out in
        cc

pub run_of-requires : goal.run_of-requires
run_of-requires g c = width_passes c.in_ok-command.field-0 c.in-Ok.matches c.in_ok-command.ensures c.in-Ok.ensures.parsed

pub returns-in-Ok : goal.returns-in-Ok
returns-in-Ok g c =
    let command = app_of c.in_ok-command.field-0 in
    let words = map g.S.AsStr.text c.args.words.now in
    let columns : IsColumns command = c.in_ok-command.ensures in
    let rows : rows_of (found_of c.in-Ok.matches) ≡ matches_of command words = (c.in-Ok.ensures.matches (columns-simple command columns)).0 in
    let faultless : fault_of command words ≡ [] = c.in-Ok.ensures.kinds (columns-free command columns) in
    IfOk-weaker c.run_of.result (IsRunOf (first_value (found_of c.in-Ok.matches))) (IsAnswer words)
    (same_run command words (first_value (found_of c.in-Ok.matches)) (λ (id : Text). first_value-rows (found_of c.in-Ok.matches) id ∙ ap (first_of id) rows) columns faultless) c.run_of.ensures

pub returns-in-Err : goal.returns-in-Err
returns-in-Err g c =
    let command = app_of c.in_ok-command.field-0 in
    let words = map g.S.AsStr.text c.args.words.now in
    let columns : IsColumns command = c.in_ok-command.ensures in
    told_of command words c.in-Err.error.kind columns c.in-Err.ensures.passes (c.in-Err.ensures.kinds (columns-free command columns)) c.told.result c.told.ensures.memory c.told.ensures.text
