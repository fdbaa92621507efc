use Rattle.wt_tool.proofs.Statuses.{begins_of, bytes_of, file_of, usage_only, usage_where, read_of, write_of, prefix_of, status_known}
use Rattle.wt_tool.proofs.RuleBags.{rules_have_one_bag}
use Rattle.wt_tool.proofs.RulesRead.{read_are_one, read_hold, read_keep_names, read_keep_rows, read_leave_no_match, read_lower_the_cost, read_stay}
use Rattle.wt_tool.proofs.top.wetune.Goals as goal

pub returns-clause-bytes : goal.returns-clause-bytes
returns-clause-bytes g c = bytes_of c.run.ensures

pub returns-clause-file : goal.returns-clause-file
returns-clause-file g c = file_of c.run.ensures

pub returns-clause-usage_only : goal.returns-clause-usage_only
returns-clause-usage_only g c = usage_only c.run.ensures

pub returns-clause-usage_where : goal.returns-clause-usage_where
returns-clause-usage_where g c = usage_where c.run.ensures

pub returns-clause-read : goal.returns-clause-read
returns-clause-read g c = read_of c.run.ensures

pub returns-clause-write : goal.returns-clause-write
returns-clause-write g c = write_of c.run.ensures

pub returns-clause-prefix : goal.returns-clause-prefix
returns-clause-prefix g c = prefix_of c.run.ensures

pub returns-clause-begins : goal.returns-clause-begins
returns-clause-begins g c = begins_of c.run.ensures

pub returns-clause-known : goal.returns-clause-known
returns-clause-known g c = status_known c.run.ensures

pub returns-clause-one_bag : goal.returns-clause-one_bag
returns-clause-one_bag g c = rules_have_one_bag

pub returns-clause-hold : goal.returns-clause-hold
returns-clause-hold g c = read_hold

pub returns-clause-rows : goal.returns-clause-rows
returns-clause-rows g c = read_keep_rows

pub returns-clause-names : goal.returns-clause-names
returns-clause-names g c = read_keep_names

pub returns-clause-one : goal.returns-clause-one
returns-clause-one g c = read_are_one

pub returns-clause-itself : goal.returns-clause-itself
returns-clause-itself g c = read_stay

pub returns-clause-least : goal.returns-clause-least
returns-clause-least g c = read_leave_no_match

pub returns-clause-cheaper : goal.returns-clause-cheaper
returns-clause-cheaper g c = read_lower_the_cost
