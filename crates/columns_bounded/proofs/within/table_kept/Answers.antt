use Rattle.std.proofs.Common.{◌≡◌, ◌∙◌, ◌<◌, ℕ, List, [], ◌∷◌, Some, ap, length, subst, sym}
use Rattle.columns_bounded.proofs.OfKept.{is-over}
use Rattle.columns_bounded.specs.Kept.{IsNotKept, held_of, taken_of}
use Rattle.columns_bounded.specs.declared.kept.Kept.{Kept}
use Rattle.columns_run.specs.Run.{Serves}
use Rattle.columns_run.specs.Wanted.{wanted_of}
use Rattle.tabled_output.specs.Counts.{inner_of}
use Rattle.columns_bounded.proofs.within.table_kept.Goals as goal

pub returns-in_default-clause-err : goal.returns-in_default-clause-err
returns-in_default-clause-err c =
    let wanted = wanted_of c.args.options.now in
    let outcome = c.run-outcome.result in
    let before = inner_of c.new-writer.result in
    let after = inner_of c.run-outcome.new.writer in
    let begun : held_of before ≡ c.args.most ∷ [] = ap held_of c.new-writer.ensures.inner ∙ c.new.ensures in
    let served : Serves wanted c.args.text.now outcome (Some (held_of before)) (Some (held_of after)) =
    subst (λ (input : List ℕ). Serves wanted input outcome (Some (held_of before)) (Some (held_of after))) (ap (λ slice. slice.now) c.new-reader.ensures.inner) c.run-outcome.ensures.known_input.0 in
    let more : after.most < length (taken_of after) = subst (λ (writer : Kept). writer.most < length (taken_of writer)) c.into_inner.ensures c.in_default.ensures.none in
    subst (IsNotKept wanted c.args.most c.args.text.now) (sym c.fault_over.ensures) (is-over c.args.most before after begun wanted c.args.text.now outcome served more)
