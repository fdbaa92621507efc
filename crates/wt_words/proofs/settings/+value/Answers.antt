use Rattle.wt_words.proofs.Digits.{digits_below}
use Rattle.wt_words.proofs.settings.+value.Goals as goal

pub returns-in-len1-up-clause-small : goal.returns-in-len1-up-clause-small
returns-in-len1-up-clause-small t c = digits_below c.args.word.now c.from.result c.pow.result c.value.result c.requires.digits c.in-len1-up.len_at_least c.from.ensures c.pow.ensures c.value.ensures.small
