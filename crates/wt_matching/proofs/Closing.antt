-- What is left between the match and the law of `apply`: the destination's leaves, the assignment itself, equal widths.
use Rattle.std.proofs.Common.{◌≡◌, ◌≢◌, ℕ, zero, suc, ◌+◌, ◌<◌, ◌≤◌, Bool, true, false, List, [], ◌∷◌, map, drop, length, refl, sym, ap, ◌∙◌, subst, inl, inr, arith}
use Rattle.std.specs.Prelude.{◌==◌, ◌&&◌, ◌||◌, not, slice_index_or}
use Rattle.wt_schema.specs.declared.schema.Table.{Table}
use Rattle.wt_known.specs.Sets.{is_empty}
use Rattle.wt_known.specs.Facts.{refers}
use Rattle.std.specs.List.{list_any}
use Rattle.wt_bag.specs.Bags.{Each, total, among}
use Rattle.wt_bag.specs.Choices.{Has, Apart}
use Rattle.wt_value.specs.declared.value.Value.{Value}
use Rattle.wt_value.specs.Values.{Tuple, row_same, row_matches}
use Rattle.wt_symbol.specs.Lawful.{counts_up}
use Rattle.wt_symbol.specs.Heads.{anchor}
use Rattle.wt_constraint.specs.declared.atom.Atom.{Atom}
use Rattle.wt_constraint.specs.declared.atom.Atom.TheVariants.{RelEq, AttrsEq, PredEq, Unique, NotNull, RefAttrs}
use Rattle.wt_instance.specs.declared.instance.Instance.{Instance}
use Rattle.wt_instance.specs.Instances.{table}
use Rattle.wt_value.specs.Values.{pick, HasNoNull}
use Rattle.wt_instance.specs.Meeting.{IsUnique, IsNotNull, Refers, Holds}
use Rattle.wt_matching.proofs.Lists.{at_place}
use Rattle.wt_plan.specs.Tree.{PlanTree}
use Rattle.wt_plan.specs.Tree as plans
use Rattle.wt_plan.specs.Measures.{width}
use Rattle.wt_matching.specs.Filling.{Assigned, leaf_plan, pred_of}
use Rattle.wt_matching.specs.Filling.{list_of}
use Rattle.wt_matching.specs.Matching.{AtomKnown}
use Rattle.wt_matching.proofs.Assigning.{AtomCovered}
use Rattle.wt_matching.proofs.Lists.{index_map}
use Rattle.wt_known.proofs.Agreeing.{and_parts, eq_true}
use Rattle.wt_matching.proofs.WidthLaws.{one, all_one, one_row_each, ones_match}

or_false : (b : Bool) → b ≡ true → (b || false) ≡ true
or_false true e = refl
or_false false e = e

-- a list without one of its elements
without : {X : Type 0} (x : X) (ys : List X) → Has x ys → List X
without x [] h = absurd h
without x (y ∷ ys) (inl e) = ys
without x (y ∷ ys) (inr h) = y ∷ without x ys h

total_without : {X : Type 0} (f : X → ℕ) (x : X) (ys : List X) (h : Has x ys) → total f ys ≡ f x + total f (without x ys h)
unfolding without
total_without f x [] h = absurd h
total_without f x (y ∷ ys) (inl e) = ap (λ z. f z + total f ys) (sym e)
total_without f x (y ∷ ys) (inr h) = let ih = total_without f x ys h in omega (arith, ih)

still_has : {X : Type 0} (x z : X) (ys : List X) (h : Has x ys) → x ≢ z → Has z ys → Has z (without x ys h)
unfolding without
still_has x z [] h differ k = absurd h
still_has x z (y ∷ ys) (inl e) differ (inl f) = absurd (differ (e ∙ sym f))
still_has x z (y ∷ ys) (inl e) differ (inr k) = k
still_has x z (y ∷ ys) (inr h) differ (inl f) = inl f
still_has x z (y ∷ ys) (inr h) differ (inr k) = inr (still_has x z ys h differ k)

each_still : {X : Type 0} (x : X) (xs ys : List X) (h : Has x ys) → Each (λ y. x ≢ y) xs → Each (λ z. Has z ys) xs → Each (λ z. Has z (without x ys h)) xs
each_still x [] ys h d k = tt
each_still x (z ∷ xs) ys h d k = (still_has x z ys h d.0 k.0, each_still x xs ys h d.1 k.1)

-- a sum over elements that differ and are all among others is at most theirs
pub total_contained : {X : Type 0} (f : X → ℕ) (xs ys : List X) → Apart xs → Each (λ x. Has x ys) xs → total f xs ≤ total f ys
total_contained f [] ys a h = omega arith
total_contained f (x ∷ xs) ys a h =
    let rest = total_contained f xs (without x ys h.0) a.1 (each_still x xs ys h.0 a.0 h.1) in
    let all = total_without f x ys h.0 in
    omega (arith, rest, all)

both_ends : {X : Type 0} (x v : X) (l k : List X) → x ≡ v → l ≡ k → x ∷ l ≡ v ∷ k
both_ends x v l k e f = cc

drop_none : {X : Type 0} (l : List X) (n : ℕ) → length l ≤ n → drop n l ≡ []
drop_none [] zero h = refl
drop_none [] (suc n) h = refl
drop_none (x ∷ l) zero h = absurd (omega (arith, h))
drop_none (x ∷ l) (suc n) h = drop_none l n (omega (arith, h))

drop_next : {X : Type 0} (l : List X) (n : ℕ) (d : X) → n < length l → drop n l ≡ slice_index_or l n d ∷ drop (suc n) l
drop_next [] n d h = absurd (omega (arith, h))
drop_next (x ∷ l) zero d h = refl
drop_next (x ∷ l) (suc n) d h = drop_next l n d (omega (arith, h))

-- symbols that count from n take the list's elements from n on
pub counted : {X : Type 0} (l : List X) (d : X) (n : ℕ) (ks : List ℕ) → counts_up n ks ≡ true → length l ≡ n + length ks → map (λ k. slice_index_or l k d) ks ≡ drop n l
counted l d n [] h e = sym (drop_none l n (omega (arith, e)))
counted l d n (k ∷ ks) h e =
    let parts = and_parts (k == n) (counts_up (suc n) ks) h in
    both_ends _ _ _ _ (ap (λ z. slice_index_or l z d) (eq_true k n parts.0)) (counted l d (suc n) ks parts.1 (omega (arith, e))) ∙ sym (drop_next l n d (omega (arith, e)))

-- on the instance of one row each, each atom that is known holds
filled_ones : (w : ℕ) (ns : List ℕ) → Each (λ n. n < w) ns → pick ns (all_one w) ≡ all_one (length ns)
filled_ones w [] h = refl
filled_ones w (n ∷ ns) h = both _ _ _ _ (at_one w n h.0) (filled_ones w ns h.1)
  where
    both : (x v : Value) (l k : Tuple) → x ≡ v → l ≡ k → x ∷ l ≡ v ∷ k
    both x v l k e f = cc

    at_one : (w n : ℕ) → n < w → at_place (all_one w) n ≡ one
    at_one zero n h = absurd (omega (arith, h))
    at_one (suc w) zero h = refl
    at_one (suc w) (suc n) h = at_one w n (omega (arith, h))

no_null_ones : (k : ℕ) → HasNoNull (all_one k)
no_null_ones zero = tt
no_null_ones (suc k) = (λ n. cc, no_null_ones k)

-- columns that are known to refer are as many as those of their target
even : (S : List Table) (p q : PlanTree) (cols others : List ℕ) → refers S p cols q others ≡ true → length cols ≡ length others
even S p q cols others h = eq_true (length cols) (length others) (and_parts (length cols == length others) (not (is_empty cols)) (and_parts ((length cols == length others) && not (is_empty cols)) _ h).0).0

module _ (A : List ℕ) (m : Assigned) (S : List Table)
    (inside : (a : ℕ) → Each (λ n. n < width (leaf_plan m (anchor A a))) (list_of m a)) where
  abbrev U : Instance
  U = one_row_each m

  one_table : (r : ℕ) → r < length m.leaves → table U r ≡ all_one (width (leaf_plan m r)) ∷ []
  one_table r lt = index_map (λ p. all_one (width p) ∷ []) m.leaves r (plans.table 0 0) [] lt

  picked_here : (a : ℕ) → pick (list_of m a) (all_one (width (leaf_plan m (anchor A a)))) ≡ all_one (length (list_of m a))
  picked_here a = filled_ones (width (leaf_plan m (anchor A a))) (list_of m a) (inside a)

  pub one_row_holds : (x : Atom) → AtomCovered A m x → AtomKnown S A m x → Holds A U x
  one_row_holds (RelEq r s) c h = (
    index_map width m.leaves r (plans.table 0 0) 0 c.0 ∙ ap width h ∙ sym (index_map width m.leaves s (plans.table 0 0) 0 c.1),
    one_table r c.0 ∙ ap (λ p. all_one (width p) ∷ []) h ∙ sym (one_table s c.1),
  )
  one_row_holds (AttrsEq a b) c h = h
  one_row_holds (PredEq p q) c h = λ row. ap (λ (l : List Tuple). among row_same l row)
      (index_map (λ f. map (λ (list : List ℕ). all_one (length list)) m.lists) m.preds p (pred_of m p) [] c.0 ∙ sym (index_map (λ f. map (λ (list : List ℕ). all_one (length list)) m.lists) m.preds q (pred_of m q) [] c.1))
  one_row_holds (Unique a) c h = subst (λ (l : List Tuple). IsUnique (list_of m a) l) (sym (one_table (anchor A a) c)) (tt, tt)
  one_row_holds (NotNull a) c h = subst (λ (l : List Tuple). IsNotNull (list_of m a) l) (sym (one_table (anchor A a) c)) (subst HasNoNull (sym (picked_here a)) (no_null_ones (length (list_of m a))), tt)
  one_row_holds (RefAttrs a b) c h =
      subst (λ (l : List Tuple). Refers (list_of m a) (list_of m b) l (table U (anchor A b))) (sym (one_table (anchor A a) c.0))
      (subst (λ (l : List Tuple). Refers (list_of m a) (list_of m b) (all_one (width (leaf_plan m (anchor A a))) ∷ []) l) (sym (one_table (anchor A b) c.1)) (λ _. here, tt))
    where
      here : list_any (λ row. row_matches (pick (list_of m a) (all_one (width (leaf_plan m (anchor A a))))) (pick (list_of m b) row)) (all_one (width (leaf_plan m (anchor A b))) ∷ []) ≡ true
      here = or_false _ (ap (λ (l : Tuple). row_matches l (pick (list_of m b) (all_one (width (leaf_plan m (anchor A b)))))) (picked_here a) ∙ ap (λ (l : Tuple). row_matches (all_one (length (list_of m a))) l) (picked_here b) ∙ ones_match _ _ (even S (leaf_plan m (anchor A a)) (leaf_plan m (anchor A b)) (list_of m a) (list_of m b) h))
