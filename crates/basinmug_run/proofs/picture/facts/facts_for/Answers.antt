-- What the columns need, where their table may be made narrower.
use Rattle.std.proofs.Common.{◌≡◌, subst, ℕ, List, Option, None, Some}
use Rattle.std.specs.Prelude.{⊤, MatchOption}
use Rattle.std.proofs.lemmas.Result.{IfOk-weaker}
use Rattle.basinmug_cells.specs.Views.{view_rows}
use Rattle.basinmug_columns.specs.declared.rooms.Need.{Need}
use Rattle.basinmug_run.specs.Picture.Pictures.{narrowed_to, needs_in}
use Rattle.basinmug_run.proofs.picture.facts.facts_for.Goals as goal

-- needs that are right serve anywhere
serve : (narrowed : Option ℕ) (needs which : List Need) → needs ≡ which → MatchOption narrowed ⊤ (λ width. needs ≡ which)
serve None needs which same = tt
serve (Some width) needs which same = same

pub returns-in-Some-clause-numeric : goal.returns-in-Some-clause-numeric
returns-in-Some-clause-numeric c = IfOk-weaker c.known_or_found.result _ _ (λ facts are. are.numeric) c.known_or_found.ensures

pub returns-in-Some-clause-needs : goal.returns-in-Some-clause-needs
returns-in-Some-clause-needs c =
    let options = c.args.options.now in
    let rows = view_rows c.args.rows in
    IfOk-weaker c.known_or_found.result _ _ (λ facts are. serve (narrowed_to options) facts.needs.items (needs_in options.header rows) are.needs) c.known_or_found.ensures

pub returns-in_ok-numeric-in-None-clause-needs : goal.returns-in_ok-numeric-in-None-clause-needs
returns-in_ok-numeric-in-None-clause-needs c =
    let options = c.args.options.now in
    let rows = view_rows c.args.rows in
    subst (λ (it : Option ℕ). MatchOption it ⊤ (λ width. c.new-needs.result.items ≡ needs_in options.header rows)) c.in-None.ensures tt
