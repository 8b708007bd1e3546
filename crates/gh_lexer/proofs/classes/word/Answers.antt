use Rattle.gh_base.specs.Fixed.{fixed_texts}
use Rattle.gh_lexer.specs.Chars.{is_word}
use Rattle.gh_lexer.proofs.classes.word.Goals as goal

pub returns : goal.returns
unfolding is_word fixed_texts
returns c = c.is_among.ensures
