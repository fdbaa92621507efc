-- Under the assignment that the walk finds, the source filled in is the plan.
use Rattle.std.proofs.Common.{◌≡◌, ℕ, suc, ◌<◌, Bool, true, false, List, [], ◌∷◌, ◌++◌, map, length, refl, sym, ap, ◌∙◌, subst, inl, inr, arith}
use Rattle.std.specs.Prelude.{◌==◌, ◌&&◌, slice_index_or, if◌then◌else◌}
use Rattle.std.proofs.lemmas.Bool.{false≢true, cases_lt}
use Rattle.std.proofs.lemmas.Grind.{common_steps}
use Rattle.std.proofs.lemmas.List.{get_or_past}
use Rattle.wt_bag.specs.Bags.{Each}
use Rattle.wt_symbol.specs.Sides as sides
use Rattle.wt_symbol.specs.Sides.{SideTree, leaves_of, lists_of, preds_of}
use Rattle.wt_symbol.specs.Heads.{anchor}
use Rattle.wt_instance.specs.declared.named.Column.{Column}
use Rattle.wt_instance.specs.Rows.{column, leaf_columns}
use Rattle.wt_plan.specs.Tree.{PlanTree, proj, filtered, inner_join, left_join, in_sub, dedup}
use Rattle.wt_plan.specs.Measures.{width}
use Rattle.wt_matching.specs.Filling.{Assigned, leaf_plan, pred_of, header, place, places, fill}
use Rattle.wt_matching.proofs.Assigning.{Covers}
use Rattle.wt_matching.specs.Filling.{list_of}
use Rattle.wt_matching.specs.Finding.{nothing, just, number_at, numbers_at, Found, found, Reads, IsPlaced, ArePlaced}
use Rattle.wt_plan.proofs.Upto.{length_map}
use Rattle.wt_matching.proofs.Lists.{map_append, length_append}
use Rattle.wt_matching.proofs.FindLaws.{just_same, then_just, number_read, numbers_read, width_found}

head_same : {X : Type 0} (x v : X) (l k : List X) → x ∷ l ≡ v ∷ k → x ≡ v
head_same x v l k e = cc

tail_same : {X : Type 0} (x v : X) (l k : List X) → x ∷ l ≡ v ∷ k → l ≡ k
tail_same x v l k e = cc

both_ends : {X : Type 0} (x v : X) (l k : List X) → x ≡ v → l ≡ k → x ∷ l ≡ v ∷ k
both_ends x v l k e f = cc

split_append : {X : Type 0} (xs vs ys ws : List X) → length xs ≡ length vs → xs ++ ys ≡ vs ++ ws → (xs ≡ vs) × (ys ≡ ws)
split_append [] [] ys ws e h = (refl, h)
split_append [] (v ∷ vs) ys ws e h = absurd (omega (arith, e))
split_append (x ∷ xs) [] ys ws e h = absurd (omega (arith, e))
split_append (x ∷ xs) (v ∷ vs) ys ws e h =
    let rest = split_append xs vs ys ws (omega (arith, e)) (tail_same x v (xs ++ ys) (vs ++ ws) h) in (both_ends x v xs vs (head_same x v (xs ++ ys) (vs ++ ws) h) rest.0, rest.1)

split_map : {X Y : Type 0} (f : X → Y) (as' bs : List X) (xs ys : List Y) → length xs ≡ length as' → xs ++ ys ≡ map f (as' ++ bs) → (xs ≡ map f as') × (ys ≡ map f bs)
split_map f as' bs xs ys e h = let size = length_map f as' in split_append xs (map f as') ys (map f bs) (e ∙ sym size) (h ∙ map_append f as' bs)

both_sizes : {X Y : Type 0} (xs ys : List X) (vs ws : List Y) → length xs ≡ length vs → length ys ≡ length ws → length (xs ++ ys) ≡ length (vs ++ ws)
both_sizes xs ys vs ws e f = let one = length_append xs ys in let two = length_append vs ws in omega (arith, e, f, one, two)

-- a place that a number was read at is within the columns
number_within : (columns : List Column) (r k n : ℕ) → number_at columns r k ≡ just n → k < length columns
number_within columns r k n h = elim (cases_lt k (length columns)) [
  | inl lt ↦ lt
  | inr ge ↦ absurd (past (slice_index_or columns k (column (suc r) 0)) (get_or_past columns k (column (suc r) 0) ge) h)
]
  where
    other : (r : ℕ) → (suc r == r) ≡ false
    other r = grind (arith, common_steps)

    none : (b c : Bool) (m : ℕ) → b ≡ false → (if b && c then just m else nothing) ≡ just n → ⊥
    none true c m e h = false≢true (sym e)
    none false c m e h = cc

    past : (c : Column) → c ≡ column (suc r) 0 → (if (c.leaf == r) && (place columns r c.number == k) then just c.number else nothing) ≡ just n → ⊥
    past c e h = none (c.leaf == r) (place columns r c.number == k) c.number (ap (λ (d : Column). d.leaf == r) e ∙ other r) h

numbers_within : (columns : List Column) (r : ℕ) (l ns : List ℕ) → numbers_at columns r l ≡ just ns → Each (λ n. place columns r n < length columns) ns
numbers_within columns r [] ns h = subst (λ (l : List ℕ). Each (λ n. place columns r n < length columns) l) (just_same [] ns h) tt
numbers_within columns r (k ∷ l) ns h =
    let one = then_just (number_at columns r k) _ ns h in
    let two = then_just (numbers_at columns r l) _ ns one.2 in
    let lt : place columns r one.0 < length columns = subst (λ z. z < length columns) (sym (number_read columns r k one.0 one.1)) (number_within columns r k one.0 one.1) in
    subst (λ (l : List ℕ). Each (λ n. place columns r n < length columns) l) (just_same (one.0 ∷ two.0) ns two.2) (lt, numbers_within columns r l two.0 two.1)

pub record Exact (A : List ℕ) (m : Assigned) (s : SideTree) (p : PlanTree) (x : Found) : Type 0 where
  pub plan : fill s A m ≡ p
  pub columns : x.columns ≡ header s A m
  pub placed : ArePlaced s A m

pub record Made (A : List ℕ) (m : Assigned) (s : SideTree) (p : PlanTree) (x : Found) : Type 0 where
  pub leaves : length x.leaves ≡ length (leaves_of s)
  pub lists : length x.lists ≡ length (lists_of s)
  pub preds : length x.preds ≡ length (preds_of s)
  pub exact : Reads m s x → Exact A m s p x

module _ (A : List ℕ) (m : Assigned) where
  -- what was read at the places of an operand's output
  placed_same : (s : SideTree) (a : ℕ) (columns : List Column) (l ns : List ℕ) → columns ≡ header s A m → ns ≡ list_of m a → numbers_at columns (anchor A a) l ≡ just ns → (places s A m a ≡ l) × IsPlaced s A m a
  placed_same s a columns l ns e f h = (
    ap (λ (cs : List Column). map (place cs (anchor A a)) (list_of m a)) (sym e) ∙ ap (map (place columns (anchor A a))) (sym f) ∙ numbers_read columns (anchor A a) l ns h,
    subst (λ (cs : List Column). Each (λ n. place cs (anchor A a) n < length cs) (list_of m a)) e (subst (λ (z : List ℕ). Each (λ n. place columns (anchor A a) n < length columns) z) f (numbers_within columns (anchor A a) l ns h)),
  )

  -- what was found, with its name in place
  moved : (s : SideTree) (p : PlanTree) (x y : Found) → x ≡ y → Made A m s p x → Made A m s p y
  moved s p x y e h = subst (λ z. Made A m s p z) e h

  both_joins : (node : List ℕ → List ℕ → PlanTree → PlanTree → PlanTree) (a b a' b' : List ℕ) (p q p' q' : PlanTree) → a ≡ a' → b ≡ b' → p ≡ p' → q ≡ q' → node a b p q ≡ node a' b' p' q'
  both_joins node a b a' b' p q p' q' e f g h = ap (λ z. node z b p q) e ∙ ap (λ z. node a' z p q) f ∙ ap (λ z. node a' b' z q) g ∙ ap (λ z. node a' b' p' z) h

  split_reads : (s t : SideTree) (p q : PlanTree) (x y : Found) → Made A m s p x → Made A m t q y → x.leaves ++ y.leaves ≡ map (leaf_plan m) (leaves_of s ++ leaves_of t) → x.lists ++ y.lists ≡ map (list_of m) (lists_of s ++ lists_of t) →
      x.preds ++ y.preds ≡ map (pred_of m) (preds_of s ++ preds_of t) → Reads m s x × Reads m t y
  split_reads s t p q x y h k e f g =
      let leaves = split_map (leaf_plan m) (leaves_of s) (leaves_of t) x.leaves y.leaves h.leaves e in
      let lists = split_map (list_of m) (lists_of s) (lists_of t) x.lists y.lists h.lists f in
      let preds = split_map (pred_of m) (preds_of s) (preds_of t) x.preds y.preds h.preds g in
      (record { leaves = leaves.0; lists = lists.0; preds = preds.0 }, record { leaves = leaves.1; lists = lists.1; preds = preds.1 })

  pub made : (s : SideTree) (p : PlanTree) (x : Found) → Covers m s → found s A p ≡ just x → Made A m s p x
  made (sides.input r) p x c h = moved (sides.input r) p (record { columns = leaf_columns r 0 (width p); leaves = p ∷ []; lists = []; preds = [] }) x (just_same _ _ h) (record {
    leaves = refl;
    lists = refl;
    preds = refl;
    exact = λ k. record { plan = sym (head_same p (leaf_plan m r) [] [] k.leaves); columns = ap (λ (z : PlanTree). leaf_columns r 0 (width z)) (head_same p (leaf_plan m r) [] [] k.leaves) ∙ ap (leaf_columns r 0) (sym (width_found m r c)); placed = tt };
  })
  made (sides.proj a s) (proj l p) x c h =
      let one = then_just (found s A p) _ x h in
      let two = then_just (numbers_at one.0.columns (anchor A a) l) _ x one.2 in
      let ih = made s p one.0 c.1 one.1 in
      moved (sides.proj a s) (proj l p) (record { columns = map (column (anchor A a)) two.0; leaves = one.0.leaves; lists = two.0 ∷ one.0.lists; preds = one.0.preds }) x (just_same _ _ two.2) (record {
        leaves = ih.leaves;
        lists = ap suc ih.lists;
        preds = ih.preds;
        exact = λ k.
            let own = head_same two.0 (list_of m a) one.0.lists (map (list_of m) (lists_of s)) k.lists in
            let inner = ih.exact (record { leaves = k.leaves; lists = tail_same two.0 (list_of m a) one.0.lists (map (list_of m) (lists_of s)) k.lists; preds = k.preds }) in
            let places_same = placed_same s a one.0.columns l two.0 inner.columns own two.1 in
            record { plan = ap (λ z. proj z (fill s A m)) places_same.0 ∙ ap (proj l) inner.plan; columns = ap (map (column (anchor A a))) own; placed = (places_same.1, inner.placed) };
      })
  made (sides.filtered q a s) (filtered f l p) x c h =
      let one = then_just (found s A p) _ x h in
      let two = then_just (numbers_at one.0.columns (anchor A a) l) _ x one.2 in
      let ih = made s p one.0 c.2 one.1 in
      moved (sides.filtered q a s) (filtered f l p) (record { columns = one.0.columns; leaves = one.0.leaves; lists = two.0 ∷ one.0.lists; preds = f ∷ one.0.preds }) x (just_same _ _ two.2) (record {
        leaves = ih.leaves;
        lists = ap suc ih.lists;
        preds = ap suc ih.preds;
        exact = λ k.
            let own = head_same two.0 (list_of m a) one.0.lists (map (list_of m) (lists_of s)) k.lists in
            let inner = ih.exact (record { leaves = k.leaves; lists = tail_same two.0 (list_of m a) one.0.lists (map (list_of m) (lists_of s)) k.lists; preds = tail_same f (pred_of m q) one.0.preds (map (pred_of m) (preds_of s)) k.preds }) in
            let places_same = placed_same s a one.0.columns l two.0 inner.columns own two.1 in
            record { plan = ap (λ z. filtered z (places s A m a) (fill s A m)) (sym (head_same f (pred_of m q) one.0.preds (map (pred_of m) (preds_of s)) k.preds)) ∙ ap (λ z. filtered f z (fill s A m)) places_same.0 ∙ ap (filtered f l) inner.plan; columns = inner.columns; placed = (places_same.1, inner.placed) };
      })
  made (sides.inner_join a b s t) (inner_join k l p q) x c h =
      let one = then_just (found s A p) _ x h in
      let two = then_just (found t A q) _ x one.2 in
      let three = then_just (numbers_at one.0.columns (anchor A a) k) _ x two.2 in
      let four = then_just (numbers_at two.0.columns (anchor A b) l) _ x three.2 in
      let left = made s p one.0 c.2 one.1 in
      let right = made t q two.0 c.3 two.1 in
      moved (sides.inner_join a b s t) (inner_join k l p q) (record { columns = one.0.columns ++ two.0.columns; leaves = one.0.leaves ++ two.0.leaves; lists = three.0 ∷ four.0 ∷ (one.0.lists ++ two.0.lists); preds = one.0.preds ++ two.0.preds }) x (just_same _ _ four.2)
      (record {
        leaves = both_sizes one.0.leaves two.0.leaves (leaves_of s) (leaves_of t) left.leaves right.leaves;
        lists = ap suc (ap suc (both_sizes one.0.lists two.0.lists (lists_of s) (lists_of t) left.lists right.lists));
        preds = both_sizes one.0.preds two.0.preds (preds_of s) (preds_of t) left.preds right.preds;
        exact = λ z.
            let later = tail_same three.0 (list_of m a) (four.0 ∷ (one.0.lists ++ two.0.lists)) (map (list_of m) (b ∷ (lists_of s ++ lists_of t))) z.lists in
            let reads = split_reads s t p q one.0 two.0 left right z.leaves (tail_same four.0 (list_of m b) (one.0.lists ++ two.0.lists) (map (list_of m) (lists_of s ++ lists_of t)) later) z.preds in
            let le = left.exact reads.0 in
            let re = right.exact reads.1 in
            let pa = placed_same s a one.0.columns k three.0 le.columns (head_same three.0 (list_of m a) (four.0 ∷ (one.0.lists ++ two.0.lists)) (map (list_of m) (b ∷ (lists_of s ++ lists_of t))) z.lists) three.1 in
            let pb = placed_same t b two.0.columns l four.0 re.columns (head_same four.0 (list_of m b) (one.0.lists ++ two.0.lists) (map (list_of m) (lists_of s ++ lists_of t)) later) four.1 in
            record { plan = both_joins inner_join (places s A m a) (places t A m b) k l (fill s A m) (fill t A m) p q pa.0 pb.0 le.plan re.plan; columns = ap (λ (c : List Column). c ++ two.0.columns) le.columns ∙ ap (λ (c : List Column). header s A m ++ c) re.columns; placed = (pa.1, pb.1, le.placed, re.placed) };
      })
  made (sides.left_join a b s t) (left_join k l p q) x c h =
      let one = then_just (found s A p) _ x h in
      let two = then_just (found t A q) _ x one.2 in
      let three = then_just (numbers_at one.0.columns (anchor A a) k) _ x two.2 in
      let four = then_just (numbers_at two.0.columns (anchor A b) l) _ x three.2 in
      let left = made s p one.0 c.2 one.1 in
      let right = made t q two.0 c.3 two.1 in
      moved (sides.left_join a b s t) (left_join k l p q) (record { columns = one.0.columns ++ two.0.columns; leaves = one.0.leaves ++ two.0.leaves; lists = three.0 ∷ four.0 ∷ (one.0.lists ++ two.0.lists); preds = one.0.preds ++ two.0.preds }) x (just_same _ _ four.2)
      (record {
        leaves = both_sizes one.0.leaves two.0.leaves (leaves_of s) (leaves_of t) left.leaves right.leaves;
        lists = ap suc (ap suc (both_sizes one.0.lists two.0.lists (lists_of s) (lists_of t) left.lists right.lists));
        preds = both_sizes one.0.preds two.0.preds (preds_of s) (preds_of t) left.preds right.preds;
        exact = λ z.
            let later = tail_same three.0 (list_of m a) (four.0 ∷ (one.0.lists ++ two.0.lists)) (map (list_of m) (b ∷ (lists_of s ++ lists_of t))) z.lists in
            let reads = split_reads s t p q one.0 two.0 left right z.leaves (tail_same four.0 (list_of m b) (one.0.lists ++ two.0.lists) (map (list_of m) (lists_of s ++ lists_of t)) later) z.preds in
            let le = left.exact reads.0 in
            let re = right.exact reads.1 in
            let pa = placed_same s a one.0.columns k three.0 le.columns (head_same three.0 (list_of m a) (four.0 ∷ (one.0.lists ++ two.0.lists)) (map (list_of m) (b ∷ (lists_of s ++ lists_of t))) z.lists) three.1 in
            let pb = placed_same t b two.0.columns l four.0 re.columns (head_same four.0 (list_of m b) (one.0.lists ++ two.0.lists) (map (list_of m) (lists_of s ++ lists_of t)) later) four.1 in
            record { plan = both_joins left_join (places s A m a) (places t A m b) k l (fill s A m) (fill t A m) p q pa.0 pb.0 le.plan re.plan; columns = ap (λ (c : List Column). c ++ two.0.columns) le.columns ∙ ap (λ (c : List Column). header s A m ++ c) re.columns; placed = (pa.1, pb.1, le.placed, re.placed) };
      })
  made (sides.in_sub a s t) (in_sub k p q) x c h =
      let one = then_just (found s A p) _ x h in
      let two = then_just (found t A q) _ x one.2 in
      let three = then_just (numbers_at one.0.columns (anchor A a) k) _ x two.2 in
      let left = made s p one.0 c.1 one.1 in
      let right = made t q two.0 c.2 two.1 in
      moved (sides.in_sub a s t) (in_sub k p q) (record { columns = one.0.columns; leaves = one.0.leaves ++ two.0.leaves; lists = three.0 ∷ (one.0.lists ++ two.0.lists); preds = one.0.preds ++ two.0.preds }) x (just_same _ _ three.2)
      (record {
        leaves = both_sizes one.0.leaves two.0.leaves (leaves_of s) (leaves_of t) left.leaves right.leaves;
        lists = ap suc (both_sizes one.0.lists two.0.lists (lists_of s) (lists_of t) left.lists right.lists);
        preds = both_sizes one.0.preds two.0.preds (preds_of s) (preds_of t) left.preds right.preds;
        exact = λ z.
            let reads = split_reads s t p q one.0 two.0 left right z.leaves (tail_same three.0 (list_of m a) (one.0.lists ++ two.0.lists) (map (list_of m) (lists_of s ++ lists_of t)) z.lists) z.preds in
            let le = left.exact reads.0 in
            let re = right.exact reads.1 in
            let pa = placed_same s a one.0.columns k three.0 le.columns (head_same three.0 (list_of m a) (one.0.lists ++ two.0.lists) (map (list_of m) (lists_of s ++ lists_of t)) z.lists) three.1 in
            record { plan = ap (λ z. in_sub z (fill s A m) (fill t A m)) pa.0 ∙ ap (λ z. in_sub k z (fill t A m)) le.plan ∙ ap (in_sub k p) re.plan; columns = le.columns; placed = (pa.1, le.placed, re.placed) };
      })
  made (sides.dedup s) (dedup p) x c h = let ih = made s p x c h in record {
    leaves = ih.leaves;
    lists = ih.lists;
    preds = ih.preds;
    exact = λ k. let inner = ih.exact (record { leaves = k.leaves; lists = k.lists; preds = k.preds }) in record { plan = ap dedup inner.plan; columns = inner.columns; placed = inner.placed };
  }
  made _ p x c h = cc
