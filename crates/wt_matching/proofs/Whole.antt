-- The law of `apply` with the width of the whole plan alone: that the two sides are equally wide follows.
use Rattle.std.proofs.Common.{◌≡◌, ◌≢◌, ℕ, ◌<◌, List, [], ◌∷◌, map, length, refl, sym, ap, ◌∙◌, subst, inl, inr, arith}
use Rattle.std.specs.Prelude.{◌&&◌, slice_get, Some}
use Rattle.std.proofs.lemmas.Bool.{cases_lt}
use Rattle.std.proofs.lemmas.List.{get_or_past}
use Rattle.wt_bag.specs.Bags.{Each}
use Rattle.wt_schema.specs.declared.schema.Table.{Table}
use Rattle.wt_value.specs.Values.{Tuple}
use Rattle.wt_symbol.specs.Sides as sides
use Rattle.wt_symbol.specs.Sides.{SideTree, PairTree, leaves_of}
use Rattle.wt_symbol.specs.Lawful.{occurs, all_in}
use Rattle.wt_symbol.specs.Heads.{anchor}
use Rattle.wt_constraint.specs.declared.atom.Atom.{Atom}
use Rattle.wt_constraint.specs.declared.set.AtomSet.{AtomSet}
use Rattle.wt_constraint.specs.Atoms.{atoms_of_pair}
use Rattle.wt_constraint.specs.Sets.{HasAtom}
use Rattle.wt_instance.specs.declared.instance.Instance.{Instance}
use Rattle.wt_instance.specs.Instances.{IsInstance, IsWide, width}
use Rattle.wt_instance.specs.Meeting.{comes_from, lists_come, Meets}
use Rattle.wt_plan.specs.Tree.{PlanTree}
use Rattle.wt_plan.specs.Tree as plans
use Rattle.wt_plan.specs.Measures as measures
use Rattle.wt_matching.specs.Filling.{Assigned, leaf_plan, shape, fill}
use Rattle.wt_matching.proofs.Assigning.{Covers}
use Rattle.wt_matching.specs.Filling.{list_of}
use Rattle.wt_matching.specs.Matching.{IsMatch}
use Rattle.wt_matching.specs.Matching.{IsSound}
use Rattle.wt_matching.proofs.Assigning.{AtomCovered}
use Rattle.wt_matching.specs.Finding.{ArePlaced}
use Rattle.wt_plan.proofs.Upto.{length_map}
use Rattle.wt_matching.proofs.Lists.{index_map}
use Rattle.wt_matching.proofs.FillLaws.{fill_width}
use Rattle.wt_matching.proofs.WidthLaws.{all_one, one_row_each, AreEven, same_header_length, length_ones}
use Rattle.wt_matching.proofs.Closing.{one_row_holds}
use Rattle.wt_matching.proofs.Applying.{either, both_tests}

module _ (A : List ℕ) (m : Assigned) where
  abbrev U : Instance
  U = one_row_each m

  comes_is : (s : SideTree) (r a : ℕ) → comes_from s U r a ≡ comes_from s (shape m) r a
  comes_is (sides.input x) r a = refl
  comes_is (sides.proj b s) r a = ap (λ t. all_in (list_of m b) (list_of m a) && t) (comes_is s r a)
  comes_is (sides.filtered p b s) r a = comes_is s r a
  comes_is (sides.inner_join b c s t) r a = either (occurs r (leaves_of s)) _ _ _ _ (comes_is s r a) (comes_is t r a)
  comes_is (sides.left_join b c s t) r a = either (occurs r (leaves_of s)) _ _ _ _ (comes_is s r a) (comes_is t r a)
  comes_is (sides.in_sub b s t) r a = comes_is s r a
  comes_is (sides.dedup s) r a = comes_is s r a

  come_is : (s : SideTree) → lists_come s A U ≡ lists_come s A (shape m)
  come_is (sides.input x) = refl
  come_is (sides.proj a s) = both_tests _ _ _ _ (comes_is s (anchor A a) a) (come_is s)
  come_is (sides.filtered p a s) = both_tests _ _ _ _ (comes_is s (anchor A a) a) (come_is s)
  come_is (sides.inner_join a b s t) = both_tests _ _ _ _ (both_tests _ _ _ _ (both_tests _ _ _ _ (comes_is s (anchor A a) a) (comes_is t (anchor A b) b)) (come_is s)) (come_is t)
  come_is (sides.left_join a b s t) = both_tests _ _ _ _ (both_tests _ _ _ _ (both_tests _ _ _ _ (comes_is s (anchor A a) a) (comes_is t (anchor A b) b)) (come_is s)) (come_is t)
  come_is (sides.in_sub a s t) = both_tests _ _ _ _ (both_tests _ _ _ _ (comes_is s (anchor A a) a) (come_is s)) (come_is t)
  come_is (sides.dedup s) = come_is s

  one_wide : (r : ℕ) → IsWide U r
  one_wide r =
      elim (cases_lt r (length m.leaves)) [
        | inl lt ↦
            subst (λ (l : List Tuple). Each (λ row. length row ≡ width U r) l) (sym (index_map (λ p. all_one (measures.width p) ∷ []) m.leaves r (plans.table 0 0) [] lt))
            (length_ones (measures.width (leaf_plan m r)) ∙ sym (index_map measures.width m.leaves r (plans.table 0 0) 0 lt), tt)
        | inr ge ↦ subst (λ (l : List Tuple). Each (λ row. length row ≡ width U r) l) (sym (get_or_past (map (λ p. all_one (measures.width p) ∷ []) m.leaves) r [] (omega (arith, ge, length_map (λ p. all_one (measures.width p) ∷ []) m.leaves)))) tt
      ]

pub same_width : (S : List Table) (p : PairTree) (set : AtomSet) (plan : PlanTree) (n : ℕ) (m : Assigned) → IsSound p set → IsMatch S p set plan n m →
    Covers m p.source → Covers m p.dest → ((k : ℕ) (x : Atom) → HasAtom set k → slice_get (atoms_of_pair p) k ≡ Some x → AtomCovered p.anchors m x) → Each (λ list. list ≢ []) m.lists →
    ((a : ℕ) → Each (λ c. c < measures.width (leaf_plan m (anchor p.anchors a))) (list_of m a)) →
    ArePlaced p.source p.anchors m → ArePlaced p.dest p.anchors m → AreEven p.source p.anchors m → AreEven p.dest p.anchors m → measures.width (fill p.source p.anchors m) ≡ measures.width (fill p.dest p.anchors m)
same_width S p set plan n m sound found cs cd ca filled inside ps pd es ed =
    let is : IsInstance p (one_row_each m) = record {
      parts = record { widths = length_map measures.width m.leaves ∙ found.each.leaves; tables = length_map (λ q. all_one (measures.width q) ∷ []) m.leaves ∙ found.each.leaves; lists = found.each.lists; trues = length_map (λ f. map (λ (list : List ℕ). all_one (length list)) m.lists) m.preds ∙ found.each.preds };
      wide = λ r lt. one_wide p.anchors m r;
      filled = filled;
    } in
    let meets : Meets p set (one_row_each m) = record {
      atoms = λ k x has get. one_row_holds p.anchors m S inside x (ca k x has get) (found.atoms k x has get);
      source = come_is p.anchors m p.source ∙ found.source_lists;
      dest = come_is p.anchors m p.dest ∙ found.dest_lists;
    } in
    fill_width p.anchors m p.source ∙ same_header_length p.anchors m p.source p.dest cs cd ps pd es ed (sound (one_row_each m) is meets) ∙ sym (fill_width p.anchors m p.dest)
