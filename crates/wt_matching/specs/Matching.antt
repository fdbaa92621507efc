-- Matches of a rule at a node of a plan.
use Rattle.std.specs.Prelude.{◌≡◌, ℕ, true, List, length, slice_get, Some}
use Rattle.std.specs.List.{list_all}
use Rattle.wt_schema.specs.declared.schema.Table.{Table}
use Rattle.wt_symbol.specs.Sides.{PairTree, leaves_of, lists_of, preds_of}
use Rattle.wt_symbol.specs.Lawful.{IsLawful}
use Rattle.wt_symbol.specs.Heads.{anchor}
use Rattle.wt_constraint.specs.declared.atom.Atom.{Atom}
use Rattle.wt_constraint.specs.declared.atom.Atom.TheVariants.{RelEq, AttrsEq, PredEq, Unique, NotNull, RefAttrs}
use Rattle.wt_constraint.specs.declared.set.AtomSet.{AtomSet}
use Rattle.wt_constraint.specs.Atoms.{atoms_of_pair}
use Rattle.wt_constraint.specs.Sets.{HasAtom}
use Rattle.wt_instance.specs.declared.instance.Instance.{Instance}
use Rattle.wt_instance.specs.Instances.{IsInstance}
use Rattle.wt_instance.specs.Rows.{rows_of}
use Rattle.wt_instance.specs.Meeting.{Meets, lists_come}
use Rattle.wt_value.specs.Values.{IsOneBag}
use Rattle.wt_plan.specs.Tree.{PlanTree}
use Rattle.wt_plan.specs.Measures.{width}
use Rattle.wt_plan.specs.Regular.{Regular}
use Rattle.wt_known.specs.Facts.{unique, not_null, refers}
use Rattle.wt_matching.specs.Filling.{Assigned, leaf_plan, list_of, pred_of, shape, fill}
use Rattle.wt_matching.specs.Nodes.{at, put}

-- the two sides of a pair are one bag on every instance that meets the set
abbrev pub IsSound : PairTree → AtomSet → Type 0
IsSound p set = (I : Instance) → IsInstance p I → Meets p set I → IsOneBag (rows_of p.source p.anchors I) (rows_of p.dest p.anchors I)

-- an atom is known of what is assigned
abbrev pub AtomKnown : List Table → List ℕ → Assigned → Atom → Type 0
AtomKnown S A m (RelEq r s) = leaf_plan m r ≡ leaf_plan m s
AtomKnown S A m (AttrsEq a b) = list_of m a ≡ list_of m b
AtomKnown S A m (PredEq p q) = pred_of m p ≡ pred_of m q
AtomKnown S A m (Unique a) = unique S (leaf_plan m (anchor A a)) (list_of m a) ≡ true
AtomKnown S A m (NotNull a) = list_all (not_null S (leaf_plan m (anchor A a))) (list_of m a) ≡ true
AtomKnown S A m (RefAttrs a b) = refers S (leaf_plan m (anchor A a)) (list_of m a) (leaf_plan m (anchor A b)) (list_of m b) ≡ true

-- a plan for each leaf of the source, a list for each of its lists, a predicate for each of its predicates
pub record HasEach (p : PairTree) (m : Assigned) : Type 0 where
  pub leaves : length m.leaves ≡ length (leaves_of p.source)
  pub lists : length m.lists ≡ length (lists_of p.source)
  pub preds : length m.preds ≡ length (preds_of p.source)

-- A match of a pair and a set at a node of a plan over a schema: the source filled in is the subplan there, each atom of the set is
-- known, each list has its columns from its anchor, and the plan with the destination there is regular and as wide as before.
pub record IsMatch (S : List Table) (p : PairTree) (set : AtomSet) (plan : PlanTree) (n : ℕ) (m : Assigned) : Type 0 where
  pub each : HasEach p m
  pub source : fill p.source p.anchors m ≡ at plan n
  pub atoms : (k : ℕ) (x : Atom) → HasAtom set k → slice_get (atoms_of_pair p) k ≡ Some x → AtomKnown S p.anchors m x
  pub source_lists : lists_come p.source p.anchors (shape m) ≡ true
  pub dest_lists : lists_come p.dest p.anchors (shape m) ≡ true
  pub regular : Regular S (put plan n (fill p.dest p.anchors m))
  pub wide : width (put plan n (fill p.dest p.anchors m)) ≡ width plan

-- A rule that may be applied: its pair is lawful, so its destination weighs less, and its two sides are one bag wherever its set is met.
pub record IsGood (p : PairTree) (set : AtomSet) : Type 0 where
  pub lawful : IsLawful p
  pub sound : IsSound p set
