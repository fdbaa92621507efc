use Rattle.std.proofs.Common.{◌∙◌, ap}
use Rattle.std.specs.List.{find}
use Rattle.wt_lex.specs.Names.{is_folded}
use Rattle.wt_lex.specs.Words.{spelling, words_from}
use Rattle.wt_lex.proofs.Reserving.{found_from}
use Rattle.wt_lex.proofs.words.keyword_of.Goals as goal

pub returns-in-len1-up : goal.returns-in-len1-up
returns-in-len1-up c =
    let word = c.args.spelled.now in
    c.keyword_among.ensures
    ∙ ap (find (λ w. is_folded word (spelling w))) c.words_from.ensures
    ∙ ap (λ b. find (λ w. is_folded word (spelling w)) (words_from b)) c.to_ascii_lowercase.ensures.value
    ∙ found_from word c.in-len1-up.len_at_least
