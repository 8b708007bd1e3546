use Rattle.gh_base.specs.Fixed.{fixed_texts}
use Rattle.gh_lexer.specs.Chars.{is_operator}
use Rattle.gh_lexer.proofs.classes.operator.Goals as goal

pub returns : goal.returns
unfolding is_operator fixed_texts
returns c = c.is_among.ensures
