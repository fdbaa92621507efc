use Rattle.std.proofs.Common.{◌≡◌, ◌+◌, ◌-◌, [], ◌∷◌, slice_get, vec_len}
use Rattle.std.specs.List.{flat_map}
use Rattle.wt_template.specs.Order.{trees, numbers_from}
use Rattle.wt_template.specs.Shapes.{input, makers, templates, CountsTemplates}
use Rattle.wt_template.proofs.nth_template.Given as goal

abbrev pub invariant-loop-n : goal.invariant-loop-n
invariant-loop-n l = record {
  counted : CountsTemplates l.ops.0 l.counts.items (l.n + 1);
  many : vec_len l.counts ≡ l.n + 1;
  left : slice_get (flat_map (trees (input ∷ []) (makers l.ops.0) (1 + l.most)) (numbers_from (1 + l.n) (l.most - l.n))) l.rest ≡ slice_get (templates l.ops.0 l.most) l.k;
}
