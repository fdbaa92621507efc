-- The instance of a match meets the rule's set, and the plan with the destination filled in has the old plan's bag.
use Rattle.std.proofs.Common.{◌≡◌, ◌≢◌, ℕ, ◌<◌, Bool, true, false, List, [], map, length, refl, sym, ap, ◌∙◌, subst, inl, inr, arith}
use Rattle.std.specs.Prelude.{◌&&◌, slice_get, slice_index_or, Some, if◌then◌else◌}
use Rattle.std.proofs.lemmas.Bool.{cases_lt}
use Rattle.std.proofs.lemmas.List.{get_or_past}
use Rattle.wt_bag.specs.Bags.{Each, OneBag, SameSums, among}
use Rattle.wt_bag.proofs.BagLaws.{one_bag, same_sums}
use Rattle.wt_bag.proofs.EachLaws.{each_implies}
use Rattle.wt_bag.proofs.UniqueLists.{each_has}
use Rattle.wt_schema.specs.declared.schema.Table.{Table}
use Rattle.wt_schema.specs.Lawful.{IsSchema}
use Rattle.wt_schema.specs.Satisfying.{Satisfies}
use Rattle.wt_known.specs.Fitting.{Fits}
use Rattle.wt_known.proofs.KnownFacts.{is_unique, is_not_null, does_refer, rows_wide}
use Rattle.wt_value.specs.Values.{Tuple, row_same}
use Rattle.wt_value.proofs.Comparing.{row_same_decides}
use Rattle.wt_symbol.specs.Sides as sides
use Rattle.wt_symbol.specs.Sides.{SideTree, PairTree, leaves_of}
use Rattle.wt_symbol.specs.Lawful.{occurs, all_in}
use Rattle.wt_symbol.specs.Heads.{anchor}
use Rattle.wt_constraint.specs.declared.atom.Atom.{Atom}
use Rattle.wt_constraint.specs.declared.atom.Atom.TheVariants.{RelEq, AttrsEq, PredEq, Unique, NotNull, RefAttrs}
use Rattle.wt_constraint.specs.declared.set.AtomSet.{AtomSet}
use Rattle.wt_constraint.specs.Atoms.{atoms_of_pair}
use Rattle.wt_constraint.specs.Sets.{HasAtom}
use Rattle.wt_instance.specs.declared.instance.Instance.{Instance}
use Rattle.wt_instance.specs.Instances.{IsInstance, IsWide, table, width}
use Rattle.wt_instance.specs.Rows.{rows_of}
use Rattle.wt_instance.specs.Meeting.{IsUnique, IsNotNull, Refers, Holds, comes_from, lists_come, Meets}
use Rattle.wt_plan.specs.Tree.{PlanTree}
use Rattle.wt_plan.specs.Tree as plans
use Rattle.wt_plan.specs.Measures as measures
use Rattle.wt_plan.specs.Rows.{plan_rows}
use Rattle.wt_matching.proofs.Lists.{AreWide}
use Rattle.wt_matching.specs.Filling.{Assigned, leaf_plan, pred_of, shape, fill}
use Rattle.wt_matching.proofs.Assigning.{Covers, true_rows, instance_of}
use Rattle.wt_matching.specs.Nodes.{at, put}
use Rattle.wt_matching.proofs.Congruence.{Alike}
use Rattle.wt_matching.specs.Filling.{list_of}
use Rattle.wt_matching.specs.Matching.{AtomKnown, IsMatch}
use Rattle.wt_matching.specs.Matching.{IsSound}
use Rattle.wt_matching.proofs.Assigning.{AtomCovered}
use Rattle.wt_plan.proofs.Upto.{length_map}
use Rattle.wt_known.proofs.Lists.{has_index}
use Rattle.wt_matching.proofs.Lists.{index_map}
use Rattle.wt_matching.proofs.FillLaws.{fill_rows}
use Rattle.wt_matching.proofs.Congruence.{put_alike}

pub both_tests : (a b c d : Bool) → a ≡ c → b ≡ d → (a && b) ≡ (c && d)
both_tests a b c d e f = cc

pub either : (z : Bool) (a b c d : Bool) → a ≡ c → b ≡ d → (if z then a else b) ≡ (if z then c else d)
either true a b c d e f = e
either false a b c d e f = f

module _ (base : List (List Tuple)) (A : List ℕ) (m : Assigned) where
  abbrev I : Instance
  I = instance_of base m

  table_is : (r : ℕ) → r < length m.leaves → table I r ≡ plan_rows base (leaf_plan m r)
  table_is r lt = index_map (plan_rows base) m.leaves r (plans.table 0 0) [] lt

  width_is : (r : ℕ) → r < length m.leaves → width I r ≡ measures.width (leaf_plan m r)
  width_is r lt = index_map measures.width m.leaves r (plans.table 0 0) 0 lt

  trues_are : (p : ℕ) → p < length m.preds → slice_index_or (map (true_rows base m) m.preds) p [] ≡ true_rows base m (pred_of m p)
  trues_are p lt = index_map (true_rows base m) m.preds p _ [] lt

  -- the instance's rows have their leaf's width
  pub instance_wide : Each (AreWide base) m.leaves → (r : ℕ) → IsWide I r
  instance_wide each r =
      elim (cases_lt r (length m.leaves)) [
        | inl lt ↦
            subst (λ (l : List Tuple). Each (λ row. length row ≡ width I r) l) (sym (table_is r lt))
            (subst (λ k. Each (λ row. length row ≡ k) (plan_rows base (leaf_plan m r))) (sym (width_is r lt)) (each_has (AreWide base) (leaf_plan m r) m.leaves each (has_index m.leaves r (plans.table 0 0) lt)))
        | inr ge ↦ subst (λ (l : List Tuple). Each (λ row. length row ≡ width I r) l) (sym (get_or_past (map (plan_rows base) m.leaves) r [] (omega (arith, ge, length_map (plan_rows base) m.leaves)))) tt
      ]

  atom_holds : (S : List Table) (is : IsSchema S) → Satisfies S base → Each (Fits S) m.leaves → (x : Atom) → AtomCovered A m x → AtomKnown S A m x → Holds A I x
  atom_holds S is holds fits (RelEq r s) c h = (width_is r c.0 ∙ ap measures.width h ∙ sym (width_is s c.1), table_is r c.0 ∙ ap (plan_rows base) h ∙ sym (table_is s c.1))
  atom_holds S is holds fits (AttrsEq a b) c h = h
  atom_holds S is holds fits (PredEq p q) c h = λ row. ap (λ (l : List Tuple). among row_same l row) (trues_are p c.0 ∙ ap (true_rows base m) h ∙ sym (trues_are q c.1))
  atom_holds S is holds fits (Unique a) c h =
      subst (λ (l : List Tuple). IsUnique (list_of m a) l) (sym (table_is (anchor A a) c))
      (is_unique S is base holds (leaf_plan m (anchor A a)) (each_has (Fits S) (leaf_plan m (anchor A a)) m.leaves fits (has_index m.leaves (anchor A a) (plans.table 0 0) c)) (list_of m a) h)
  atom_holds S is holds fits (NotNull a) c h =
      subst (λ (l : List Tuple). IsNotNull (list_of m a) l) (sym (table_is (anchor A a) c))
      (is_not_null S is base holds (leaf_plan m (anchor A a)) (each_has (Fits S) (leaf_plan m (anchor A a)) m.leaves fits (has_index m.leaves (anchor A a) (plans.table 0 0) c)) (list_of m a) h)
  atom_holds S is holds fits (RefAttrs a b) c h =
      subst (λ (l : List Tuple). Refers (list_of m a) (list_of m b) l (table I (anchor A b))) (sym (table_is (anchor A a) c.0))
      (subst (λ (l : List Tuple). Refers (list_of m a) (list_of m b) (plan_rows base (leaf_plan m (anchor A a))) l) (sym (table_is (anchor A b) c.1))
      (does_refer S is base holds (leaf_plan m (anchor A a)) (leaf_plan m (anchor A b)) (each_has (Fits S) (leaf_plan m (anchor A a)) m.leaves fits (has_index m.leaves (anchor A a) (plans.table 0 0) c.0))
      (each_has (Fits S) (leaf_plan m (anchor A b)) m.leaves fits (has_index m.leaves (anchor A b) (plans.table 0 0) c.1)) (list_of m a) (list_of m b) h))

  comes_is : (s : SideTree) (r a : ℕ) → comes_from s I r a ≡ comes_from s (shape m) r a
  comes_is (sides.input x) r a = refl
  comes_is (sides.proj b s) r a = ap (λ t. all_in (list_of m b) (list_of m a) && t) (comes_is s r a)
  comes_is (sides.filtered p b s) r a = comes_is s r a
  comes_is (sides.inner_join b c s t) r a = either (occurs r (leaves_of s)) _ _ _ _ (comes_is s r a) (comes_is t r a)
  comes_is (sides.left_join b c s t) r a = either (occurs r (leaves_of s)) _ _ _ _ (comes_is s r a) (comes_is t r a)
  comes_is (sides.in_sub b s t) r a = comes_is s r a
  comes_is (sides.dedup s) r a = comes_is s r a

  come_is : (s : SideTree) → lists_come s A I ≡ lists_come s A (shape m)
  come_is (sides.input x) = refl
  come_is (sides.proj a s) = both_tests _ _ _ _ (comes_is s (anchor A a) a) (come_is s)
  come_is (sides.filtered p a s) = both_tests _ _ _ _ (comes_is s (anchor A a) a) (come_is s)
  come_is (sides.inner_join a b s t) = both_tests _ _ _ _ (both_tests _ _ _ _ (both_tests _ _ _ _ (comes_is s (anchor A a) a) (comes_is t (anchor A b) b)) (come_is s)) (come_is t)
  come_is (sides.left_join a b s t) = both_tests _ _ _ _ (both_tests _ _ _ _ (both_tests _ _ _ _ (comes_is s (anchor A a) a) (comes_is t (anchor A b) b)) (come_is s)) (come_is t)
  come_is (sides.in_sub a s t) = both_tests _ _ _ _ (both_tests _ _ _ _ (comes_is s (anchor A a) a) (come_is s)) (come_is t)
  come_is (sides.dedup s) = come_is s

-- Where the sides are one bag on instances and equally wide here, the plan with the destination filled in has the plan's bag.
pub apply_keeps : (S : List Table) (is : IsSchema S) (base : List (List Tuple)) → Satisfies S base → (p : PairTree) (set : AtomSet) (plan : PlanTree) (n : ℕ) (m : Assigned) →
    IsSound p set → IsMatch S p set plan n m →
    Covers m p.source → Covers m p.dest → ((k : ℕ) (x : Atom) → HasAtom set k → slice_get (atoms_of_pair p) k ≡ Some x → AtomCovered p.anchors m x) →
    Each (Fits S) m.leaves → Each (λ list. list ≢ []) m.lists → measures.width (fill p.source p.anchors m) ≡ measures.width (fill p.dest p.anchors m) →
    OneBag row_same (plan_rows base plan) (plan_rows base (put plan n (fill p.dest p.anchors m)))
apply_keeps S schema base holds p set plan n m sound found cs cd ca leaves filled same_width =
    let wide = instance_wide base p.anchors m (each_implies (Fits S) (AreWide base) m.leaves (λ q f. rows_wide S schema base holds q f) leaves) in
    let is : IsInstance p (instance_of base m) = record {
      parts = record { widths = length_map measures.width m.leaves ∙ found.each.leaves; tables = length_map (plan_rows base) m.leaves ∙ found.each.leaves; lists = found.each.lists; trues = length_map (true_rows base m) m.preds ∙ found.each.preds };
      wide = λ r lt. wide r;
      filled = filled;
    } in
    let meets : Meets p set (instance_of base m) = record {
      atoms = λ k x has get. atom_holds base p.anchors m S schema holds leaves x (ca k x has get) (found.atoms k x has get);
      source = come_is base p.anchors m p.source ∙ found.source_lists;
      dest = come_is base p.anchors m p.dest ∙ found.dest_lists;
    } in
    let old = fill_rows base p.anchors m wide p.source cs in
    let new = fill_rows base p.anchors m wide p.dest cd in
    let bags : SameSums (plan_rows base (fill p.source p.anchors m)) (plan_rows base (fill p.dest p.anchors m)) =
    subst (λ (l : List Tuple). SameSums l (plan_rows base (fill p.dest p.anchors m))) (sym old)
    (subst (λ (l : List Tuple). SameSums (rows_of p.source p.anchors (instance_of base m)) l) (sym new) (same_sums row_same row_same_decides _ _ (sound (instance_of base m) is meets))) in
    let alike : Alike base (at plan n) (fill p.dest p.anchors m) = subst (λ q. Alike base q (fill p.dest p.anchors m)) found.source (record { sums = bags; wide = same_width }) in
    one_bag row_same _ _ (put_alike base plan n (fill p.dest p.anchors m) alike).sums
