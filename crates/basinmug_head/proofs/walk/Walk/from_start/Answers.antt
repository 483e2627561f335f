-- The first bytes are walked over, after a byte order mark.
use Rattle.std.proofs.Common.{◌≡◌, ◌∙◌, ◌+◌, ◌<◌, ℕ, List, [], ap, arith, length, refl, subst, sym, true}
use Rattle.std.proofs.lemmas.List.{take_rest}
use Rattle.basinmug_delimiter.specs.Preamble.{tells_mark}
use Rattle.csv.specs.Reading.{strip_bom}
use Rattle.basinmug_head.specs.Walking.{IsStepOver, behind_start, record_text}
use Rattle.basinmug_head.proofs.Walks.{step-first, text-shorter}
use Rattle.basinmug_head.proofs.walk.Walk.from_start.Goals as goal

pub over-requires : goal.over-requires
over-requires c =
    let found = c.args.self.found in
    let bytes = c.args.bytes.now in
    let short = text-shorter found bytes c.requires in
    let is = ap length (c.without_mark.ensures ∙ ap strip_bom (take_rest bytes found.start)) in
    omega (arith, short, is)

pub returns-clause-step : goal.returns-clause-step
returns-clause-step c =
    let found = c.args.self.found in
    let bytes = c.args.bytes.now in
    let text : c.without_mark.result.now ≡ record_text found bytes = c.without_mark.ensures ∙ ap strip_bom (take_rest bytes found.start) in
    let told : tells_mark (behind_start found bytes) ≡ true = ap tells_mark (sym (take_rest bytes found.start)) ∙ (sym c.tells_mark.ensures ∙ c.if-not-tells_mark.false) in
    λ records left some none.
    step-first found records bytes c.over.result told some
    (subst (λ (of : List ℕ). IsStepOver found records [] of (length bytes) c.over.result) text
    (c.over.ensures.step records [] (record { stands = refl; counted = let none : 0 + c.args.self.left ≡ records = omega (arith, left) in none; some = subst (λ (n : ℕ). 0 < n) (sym left) some })))
