use Rattle.std.proofs.Common.{◌≡◌, ◌∙◌, sym, subst, List, ℕ}
use Rattle.std.specs.Prelude.{IfOk}
use Rattle.wt_lex.proofs.Naming.{folded_lower}
use Rattle.wt_lex.proofs.names.lower_name.Goals as goal

pub returns-then-is_lower : goal.returns-then-is_lower
returns-then-is_lower c =
    subst (λ (l : List ℕ). IfOk c.from_bytes.result (λ name. name ≡ l)) (sym (folded_lower c.args.word.now (sym c.is_lower.ensures ∙ c.if-is_lower.true))) c.from_bytes.ensures
