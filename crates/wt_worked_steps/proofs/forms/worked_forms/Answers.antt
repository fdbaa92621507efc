use Rattle.std.proofs.Common.{refl}
use Rattle.wt_worked_steps.proofs.forms.worked_forms.Goals as goal

pub returns-clause-input : goal.returns-clause-input
returns-clause-input c = refl

pub returns-clause-proj : goal.returns-clause-proj
returns-clause-proj c = refl

pub returns-clause-filter : goal.returns-clause-filter
returns-clause-filter c = refl

pub returns-clause-inner_join : goal.returns-clause-inner_join
returns-clause-inner_join c = refl

pub returns-clause-left_join : goal.returns-clause-left_join
returns-clause-left_join c = refl

pub returns-clause-in_sub : goal.returns-clause-in_sub
returns-clause-in_sub c = refl

pub returns-clause-dedup : goal.returns-clause-dedup
returns-clause-dedup c = refl

pub returns-clause-hidden : goal.returns-clause-hidden
returns-clause-hidden c = refl

pub returns-clause-joins : goal.returns-clause-joins
returns-clause-joins c = refl

pub returns-clause-distinct_join : goal.returns-clause-distinct_join
returns-clause-distinct_join c = refl
