use Rattle.std.proofs.Common.{◌≡◌, ◌∙◌, ◌⊎◌, false, true, List, Option, Result, Ok, Err, IfOk, ap, inl, inr, map, subst}
use Rattle.std.specs.Prelude.{IsErr, []}
use Rattle.std.proofs.Math.Path.{fun_ext}
use Rattle.std.proofs.lemmas.Result.{IfOk-weaker}
use Rattle.clap.specs.Faults.{fault_of}
use Rattle.clap.specs.Kinds.{IsAmong}
use Rattle.clap.specs.Matches.{first_value, found_of}
use Rattle.clap.specs.Simple.{App, app_of, matches_of}
use Rattle.clap.specs.Takes.{takes}
use Rattle.clap.specs.Walk.{Text, first_of, rows_of}
use Rattle.clap.specs.declared.error.kind.ErrorKind.{ErrorKind}
use Rattle.clap.specs.declared.error.kind.ErrorKind.TheVariants.{OutOfMemory}
use Rattle.clap.proofs.WalkLemmas.{first_value-rows}
use Rattle.command_line.specs.Basinmug.Asking.{IsAnswer, IsRunOf, IsTold}
use Rattle.command_line.specs.Basinmug.Command.{IsBasinmug}
use Rattle.command_line.specs.declared.basinmug.words.ReadWords.{ReadWords}
use Rattle.command_line.specs.declared.basinmug.words.ReadWords.TheVariants.{Run, Help, BadWords, BadValue}
use Rattle.command_line.proofs.BasinmugLemmas.Commands.{basinmug-free, basinmug-simple}
use Rattle.command_line.proofs.basinmug.words.read_words.Goals as goal

-- a run by the values of a parse is one by the matches of the arguments
same_run : (command : App) (words : List Text) → IsBasinmug command → fault_of command words ≡ [] → (what : ReadWords)
    → IsRunOf (λ id. first_of id (matches_of command words)) what → IsAnswer words what
same_run command words basinmug faultless (Run plan) read = record {
  command = command;
  basinmug = basinmug;
  answer = (faultless, read);
  taken = λ _. read;
}
same_run command words basinmug faultless (Help text) read = absurd read
same_run command words basinmug faultless (BadWords text) read = absurd read
same_run command words basinmug faultless (BadValue text) read = record {
  command = command;
  basinmug = basinmug;
  answer = (faultless, read);
  taken = λ _. read;
}

-- the message for an error of the command
same_fault : (command : App) (words : List Text) (kind : ErrorKind) → IsBasinmug command
    → (takes command words ≡ true → ⊥) → IsAmong kind (fault_of command words) → (what : ReadWords) → IsTold kind what → IsAnswer words what
same_fault command words kind basinmug untaken among (Run plan) told = absurd told
same_fault command words kind basinmug untaken among (Help text) told = record {
  command = command;
  basinmug = basinmug;
  answer = (kind, among, told);
  taken = λ t. absurd (untaken t);
}
same_fault command words kind basinmug untaken among (BadWords text) told = record {
  command = command;
  basinmug = basinmug;
  answer = (kind, among, told);
  taken = λ t. absurd (untaken t);
}
same_fault command words kind basinmug untaken among (BadValue text) told = absurd told

-- and for an error, which comes from the command or from memory
told_of : {E : Type 0} (command : App) (words : List Text) (kind : ErrorKind) → IsBasinmug command
    → (takes command words ≡ true → kind ≡ OutOfMemory) → (kind ≡ OutOfMemory) ⊎ IsAmong kind (fault_of command words)
    → (what : Result ReadWords E) → (kind ≡ OutOfMemory → IsErr what) → IfOk what (IsTold kind) → IfOk what (IsAnswer words)
told_of command words kind basinmug taken why (Err e) memory told = tt
told_of command words kind basinmug taken why (Ok what) memory told = elim why [
  | inl out ↦ absurd (answered out)
  | inr among ↦ same_fault command words kind basinmug (λ t. answered (taken t)) among what told
]
  where
    answered : kind ≡ OutOfMemory → ⊥
    answered out =
        let bad : false ≡ true = memory out in
        cc

pub returns-in-Ok : goal.returns-in-Ok
returns-in-Ok g c =
    let command = app_of c.in_ok-command.field-0 in
    let words = map g.S.AsStr.text c.args.words.now in
    let basinmug : IsBasinmug command = c.in_ok-command.ensures in
    let rows : rows_of (found_of c.in-Ok.matches) ≡ matches_of command words = (c.in-Ok.ensures.matches (basinmug-simple command basinmug)).0 in
    let faultless : fault_of command words ≡ [] = c.in-Ok.ensures.kinds (basinmug-free command basinmug) in
    let same : first_value (found_of c.in-Ok.matches) ≡ (λ (id : Text). first_of id (matches_of command words)) = fun_ext (λ (id : Text). first_value-rows (found_of c.in-Ok.matches) id ∙ ap (first_of id) rows) in
    IfOk-weaker c.run_of.result (IsRunOf (first_value (found_of c.in-Ok.matches))) (IsAnswer words)
    (λ what read. same_run command words basinmug faultless what (subst (λ (given : Text → Option Text). IsRunOf given what) same read)) c.run_of.ensures

pub returns-in-Err : goal.returns-in-Err
returns-in-Err g c =
    let command = app_of c.in_ok-command.field-0 in
    let words = map g.S.AsStr.text c.args.words.now in
    let basinmug : IsBasinmug command = c.in_ok-command.ensures in
    told_of command words c.in-Err.error.kind basinmug c.in-Err.ensures.passes (c.in-Err.ensures.kinds (basinmug-free command basinmug)) c.told.result c.told.ensures.memory c.told.ensures.text
