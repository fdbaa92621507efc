use Rattle.std.proofs.Common.{sym, ◌∙◌}
use Rattle.std.proofs.lemmas.Bool.{false≢true}
use Rattle.wt_instance.proofs.Meetings.{same_rows, each_among}
use Rattle.wt_instance.proofs.meeting.have_same_rows.Goals as goal

pub returns-then-are_among : goal.returns-then-are_among
returns-then-are_among c = (
  λ h. same_rows _ _ (c.are_among.ensures.0 c.if-are_among.true) (c.are_among-then-are_among.ensures.0 h),
  λ h. c.are_among-then-are_among.ensures.1 (each_among _ _ (λ row. sym (h row))),
)

pub returns-else-are_among : goal.returns-else-are_among
returns-else-are_among c = (λ h. absurd (false≢true (sym c.if-are_among.false ∙ h)), λ h. c.are_among.ensures.1 (each_among _ _ h))
