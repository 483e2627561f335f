-- Each value shows itself.
use Rattle.grid_config_values.proofs.Equality.{border_same, indent_same, same_option, sides_same, borders_same}
use Rattle.grid_config_values.proofs.laws.equal_values_are_the_same.Goals as goal

pub returns-clause-indents : goal.returns-clause-indents
returns-clause-indents g c = indent_same

pub returns-clause-sides : goal.returns-clause-sides
returns-clause-sides g c same = sides_same g.T.PartialEq.eq (λ x. x) same

pub returns-clause-border : goal.returns-clause-border
returns-clause-border g c same = border_same g.T.PartialEq.eq (same_option g.T.PartialEq.eq same)

pub returns-clause-borders : goal.returns-clause-borders
returns-clause-borders g c same = borders_same g.T.PartialEq.eq (λ x. x) (same_option g.T.PartialEq.eq same)
