-- What holds of the rules of each file that is read.
use Rattle.wt_chains.proofs.Chained.{cheaper}
use Rattle.wt_lines.specs.Laws.{HasNoMatchLeft, IsOne, KeepsNames, KeepsRows, Stays}
use Rattle.wt_lines.proofs.QueryLaws.{has_no_match, is_one, keeps_names, keeps_rows, stays}
use Rattle.wt_rule_read.proofs.Good.{rules_hold}
use Rattle.wt_tool.specs.Laws.{ForRulesRead, LowersTheCost, RulesReadHold}

pub read_hold : RulesReadHold
read_hold bytes book read = rules_hold bytes book read

pub read_keep_rows : ForRulesRead KeepsRows
read_keep_rows bytes book read = let hold = read_hold bytes book read in keeps_rows book.rules hold.0 hold.1

pub read_keep_names : ForRulesRead KeepsNames
read_keep_names bytes book read = keeps_names book.rules

pub read_are_one : ForRulesRead IsOne
read_are_one bytes book read = is_one book.rules (read_hold bytes book read).0

pub read_stay : ForRulesRead Stays
read_stay bytes book read = stays book.rules

pub read_leave_no_match : ForRulesRead HasNoMatchLeft
read_leave_no_match bytes book read = has_no_match book.rules

pub read_lower_the_cost : ForRulesRead LowersTheCost
read_lower_the_cost bytes book read tables schema plan regular step m is = cheaper tables schema book.rules (read_hold bytes book read).0 plan regular step m is
