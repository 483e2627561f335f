-- What is kept is what the text shows.
use Rattle.std.proofs.Common.{◌∙◌, sym, ap, ℕ, List, [], Option}
use Rattle.std.specs.Prelude.{unwrap_or}
use Rattle.ansi_scan.specs.Pieces.{pieces}
use Rattle.ansi_scan.proofs.Existence.{ArePiecesOf-pieces}
use Rattle.ansi_str_search.proofs.rest.Rest.find_shown.Goals.{in-Some, in-None+in_ok-strip_text-in-None}
use Rattle.ansi_str_search.proofs.rest.Rest.find_shown.Goals as goal

pub invariant_of-self-2-clause-shown : goal.invariant_of-self-2-clause-shown
invariant_of-self-2-clause-shown c = λ bytes e.
    let text = c.args.self.now.place.rest.now in
    let same = ap (λ (o : Option (List ℕ)). unwrap_or o []) (sym e) in
    elim c.match-take.branch [
      | in-Some w ↦ same ∙ w.stripped-is ∙ c.args.self.now.shown w.in-Some.stripped (sym c.take.ensures.value ∙ w.in-Some.is)
      | in-None+in_ok-strip_text-in-None w ↦ same ∙ w.stripped-is ∙ w.new-stripped.ensures ∙ w.in_ok-strip_text-in-None.ensures.strips (pieces text) (ArePiecesOf-pieces text)
    ]
