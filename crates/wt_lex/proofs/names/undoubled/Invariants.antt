use Rattle.std.proofs.Common.{◌≡◌, ◌++◌, length, false}
use Rattle.wt_lex.specs.Names.{undoubled}
use Rattle.wt_lex.proofs.names.undoubled.Given as goal

abbrev pub invariant-bytes : goal.invariant-bytes
invariant-bytes l = l.out.items ++ undoubled l.quote l.second l.text ≡ undoubled l.quote false l.initial.text

abbrev pub decreases-bytes : goal.decreases-bytes
decreases-bytes l = length l.text
