use Rattle.std.proofs.Common.{◌≡◌, ◌≤◌, ◌++◌}
use Rattle.wt_ast.specs.declared.tree.FromPart.{size-FromPart}
use Rattle.wt_ast.specs.Tree.{from_tree}
use Rattle.wt_print.specs.Links.{links_text, LinksFit, AreWithin}
use Rattle.wt_spelling.specs.Numbers.{FitsFrom}
use Rattle.wt_spelling.specs.Spelling as spec
use Rattle.wt_print.proofs.links.links.Given as goal

abbrev pub invariant-left : goal.invariant-left
invariant-left l = record {
  smaller : size-FromPart l.part ≤ size-FromPart l.fn.from;
  within : AreWithin (size-FromPart l.fn.from) l.parts.items;
  text : spec.from_text (from_tree l.part) ++ links_text l.parts.items ≡ spec.from_text (from_tree l.fn.from);
  fits : FitsFrom (from_tree l.part) → LinksFit l.parts.items → FitsFrom (from_tree l.fn.from);
}

abbrev pub decreases-left : goal.decreases-left
decreases-left l = size-FromPart l.part
