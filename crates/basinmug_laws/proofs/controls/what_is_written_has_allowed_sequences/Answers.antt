use Rattle.std.proofs.Common.{◌≡◌, ◌≢◌, ◌∙◌, ℕ, Bool, true, List, Option, Result, Ok, Err, ap, sym, subst, ⊎_elim}
use Rattle.std.specs.Prelude.{IfOk, MatchBool}
use Rattle.std.proofs.lemmas.Bool.{or_cases}
use Rattle.basinmug_input.specs.Cleaning.{may_stand}
use Rattle.basinmug_input.specs.Renditions.{is_kept_rendition}
use Rattle.program_options.specs.declared.basinmug.Escapes.TheVariants.{All as AllEscapes, Colors, None as NoEscapes}
use Rattle.basinmug_run.specs.declared.options.Options.{Options}
use Rattle.basinmug_run.specs.Kept.{kept_of}
use Rattle.basinmug_run.specs.Runs.{PrintsAsTable, PrintsRecords}
use Rattle.basinmug_run.specs.declared.picture.printing.Printed.{Printed}
use Rattle.basinmug_run.specs.declared.fault.RunFault.{RunFault}
use Rattle.basinmug_laws.specs.Controls.Written.{HaveNamedColors, WritesOnly, is_put_in, may_be_written}
use Rattle.basinmug_laws.specs.Shown.Records.{records_cleaned}
use Rattle.basinmug_laws.specs.Shown.RunsShown.{IsRunOf}
use Rattle.basinmug_laws.proofs.SequencesLemmas.Colors.{all-kept, put-kept}
use Rattle.basinmug_laws.proofs.SequencesLemmas.Written.{records-written, run-begun, run-written, writes-also}
use Rattle.basinmug_laws.proofs.controls.what_is_written_has_allowed_sequences.Goals as goal

module _ (delimiter : ℕ) (bytes : List ℕ) (options : Options) (before after : Option (List ℕ)) (result : Result Printed RunFault) (run : IsRunOf delimiter bytes options result before after) where
  colors : options.escapes ≡ Colors → HaveNamedColors options → IfOk result (λ printed. WritesOnly is_kept_rendition before after)
  colors are named =
      writes-also (may_be_written options.escapes options.colors.items) is_kept_rendition before after so result
      (run-written delimiter bytes options before after (λ all. let clash : Colors ≡ AllEscapes = sym are ∙ all in cc clash) named result run)
    where
      so : (one : List ℕ) → may_be_written options.escapes options.colors.items one ≡ true → is_kept_rendition one ≡ true
      so one may =
          ⊎_elim (λ stands. sym (ap (λ escapes. may_stand escapes one) are) ∙ stands) (λ put. put-kept options.colors.items (all-kept options named) one put)
          (or_cases (may_stand options.escapes one) (is_put_in options.colors.items one) may)

  none : options.escapes ≡ NoEscapes → HaveNamedColors options → IfOk result (λ printed. WritesOnly (is_put_in options.colors.items) before after)
  none are named =
      writes-also (may_be_written options.escapes options.colors.items) (is_put_in options.colors.items) before after
      (λ one may. sym (ap (λ escapes. may_be_written escapes options.colors.items one) are) ∙ may) result
      (run-written delimiter bytes options before after (λ all. let clash : NoEscapes ≡ AllEscapes = sym are ∙ all in cc clash) named result run)

records : (delimiter : ℕ) (bytes : List ℕ) (options : Options) (before after : Option (List ℕ)) (result : Result Printed RunFault) → IsRunOf delimiter bytes options result before after
    → options.expanded ≡ true → options.escapes ≢ AllEscapes → IfOk result (λ printed. WritesOnly (may_stand options.escapes) before after)
records delimiter bytes options before after (Ok printed) run listed not_all =
    let kept = kept_of options (records_cleaned options.escapes delimiter bytes) in
    let found : PrintsRecords options kept printed.wider before after =
    subst (λ (expanded : Bool). MatchBool expanded (PrintsRecords options kept printed.wider before after) (PrintsAsTable options kept printed.wider before after)) listed run.printed in
    records-written delimiter bytes options before after not_all run.readable printed.wider found
records delimiter bytes options before after (Err fault) run listed not_all = tt

pub returns : goal.returns
returns c = record {
  colors = λ delimiter bytes options result before after run are named. colors delimiter bytes options before after result run are named;
  none = λ delimiter bytes options result before after run are named. none delimiter bytes options before after result run are named;
  records = λ delimiter bytes options result before after run listed not_all. records delimiter bytes options before after result run listed not_all;
  begun = λ delimiter bytes options result before after run not_all named. run-begun delimiter bytes options before after not_all named result run;
}
