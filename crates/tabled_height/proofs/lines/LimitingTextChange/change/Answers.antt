use Rattle.tabled_height.proofs.lines.LimitingTextChange.change.Goals as goal

pub returns : goal.returns
returns g c = c.limited_text.ensures c.args.pos
