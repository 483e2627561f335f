-- The last quote that opens a field is kept, and is the one that isn't closed.
use Rattle.std.proofs.Common.{rules, ◌∙◌, ◌+◌, ◌<◌, ◌≤◌, ℕ, List, length, get_or, refl, sym, ap, subst, arith}
use Rattle.std.proofs.lemmas.Bool.{false≢true}
use Rattle.std.proofs.lemmas.List.{take_all}
use Rattle.csv.specs.Machine.{step}
use Rattle.basinmug_input.specs.Reading.{read_of, settings}
use Rattle.basinmug_input.specs.Walking.{csv_state}
use Rattle.basinmug_input.proofs.Quotes.{IsInQuotes, LastOpening, never-quoted, only-quoted, opened-before, opening-here, opens-at, state-next}
use Rattle.basinmug_input.proofs.places.open_quote.Goals as goal
use Rattle.basinmug_input.proofs.places.open_quote.Goals.{then-opens, else-opens}

pub loop-i-init : goal.loop-i-init
loop-i-init c = record { state = refl; opening = λ q. absurd q }

pub loop-i-preserved : goal.loop-i-preserved
loop-i-preserved c =
    let text = c.args.text.now in
    let d = c.args.delimiter in
    let cfg = settings d in
    let i = c.loop-i.i in
    let own = c.loop-i.state in
    let b = get_or text i 0 in
    let known = c.loop-i.invariant in
    let below : i < length text = omega arith in
    let stepped = c.step-next.ensures in
    record {
      state = stepped.state ∙ ap (λ s. (step cfg s b).0) known.state ∙ sym (state-next cfg text i below);
      opening = λ quoted. elim c.if-opens.branch [
        | then-opens w ↦
            let opens = opens-at d text i own c.step-next.result.0 c.step-next.result.1 known.state stepped.state stepped.action (c.opens.ensures.0 w.if-opens.true) in
            subst (λ at. LastOpening cfg text (i + 1) at) (sym w.opened-is) (opening-here cfg text i opens)
        | else-opens w ↦
            subst (λ at. LastOpening cfg text (i + 1) at) (sym w.opened-is)
            (opened-before d text i c.loop-i.opened own c.step-next.result.0 c.step-next.result.1 known.state stepped.state stepped.action known.opening
            (λ both. false≢true (sym w.if-opens.false ∙ c.opens.ensures.1 both)) quoted)
      ];
    }

pub returns-in-Quoted-clause-open : goal.returns-in-Quoted-clause-open
returns-in-Quoted-clause-open c =
    let text = c.args.text.now in
    let cfg = settings c.args.delimiter in
    let all : length text ≤ c.loop-i.i = omega arith in
    let within : c.loop-i.i ≤ length text = c.loop-i.auto.i-end in
    let known = c.loop-i.invariant in
    let found = known.opening (subst (λ own. IsInQuotes (csv_state own)) (sym c.in-Quoted.is) tt) in
    let before = found.within in
    record {
      within = omega (arith, before, within);
      opens = found.opens;
      last = λ n above below. found.last n above (omega (arith, below, all));
      ends = ap (λ (front : List ℕ). (read_of cfg front).state) (sym (take_all c.loop-i.i text all)) ∙ sym known.state ∙ ap csv_state c.in-Quoted.is;
    }

pub returns-in-Quoted-clause-closed : goal.returns-in-Quoted-clause-closed
returns-in-Quoted-clause-closed c =
    let ends = (returns-in-Quoted-clause-open c).ends in
    (λ _. ends, λ _. search rules)

pub returns-in_default-clause-closed : goal.returns-in_default-clause-closed
returns-in_default-clause-closed c =
    let text = c.args.text.now in
    let cfg = settings c.args.delimiter in
    let all : length text ≤ c.loop-i.i = omega arith in (
      λ none. absurd (false≢true none),
      λ ends.
          absurd (c.in_default.not-Quoted (only-quoted c.loop-i.state
          (c.loop-i.invariant.state ∙ ap (λ (front : List ℕ). (read_of cfg front).state) (take_all c.loop-i.i text all) ∙ ends))),
    )

pub returns-then-not-contains-clause-closed : goal.returns-then-not-contains-clause-closed
returns-then-not-contains-clause-closed c =
    (λ none. absurd (false≢true none), λ ends. absurd (never-quoted c.args.delimiter c.args.text.now (sym c.contains.ensures.value ∙ c.if-not-contains.true) ends))
