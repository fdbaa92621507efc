use Rattle.std.proofs.Common.{◌≡◌, ◌++◌, take}
use Rattle.std.specs.Prelude.{codes}
use Rattle.std.specs.List.{flat_map}
use Rattle.wt_rule.specs.Texts.{atom_text}
use Rattle.wt_rule.proofs.push_more.Given as goal

abbrev pub invariant-loop-next : goal.invariant-loop-next
invariant-loop-next l =
    l.out.items ≡ l.fn.out.items ++ flat_map (λ next. codes " " ++ atom_text l.anchors next) (take l.next-index l.atoms)
