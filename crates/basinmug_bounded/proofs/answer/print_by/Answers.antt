use Rattle.std.proofs.Common.{ℕ, Option, inr, subst}
use Rattle.basinmug_bounded.proofs.answer.print_by.Goals as goal
use Rattle.basinmug_bounded.specs.Texts.{IsTextPrinted}

pub returns : goal.returns
returns c =
    let request = c.args.request.now in
    let printed : Option ℕ → Option ℕ → Type 0 =
    λ delimiter head. IsTextPrinted c.in_ok-options.options delimiter head c.args.text.now request.max_size c.args.out.now c.print_into.new.out c.print_into.result in
    inr (record {
      options = c.in_ok-options.options;
      meant = c.in_ok-options.ensures.options;
      printed = subst (printed _) c.head_in-head.ensures (subst (λ (delimiter : Option ℕ). printed delimiter c.head_in-head.result) c.delimiter_numbered-delimiter.ensures c.print_into.ensures);
    })
