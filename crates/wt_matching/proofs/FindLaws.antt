-- What the walk finds is the one assignment under which the source is the plan.
use Rattle.std.proofs.Common.{◌≡◌, ℕ, suc, ◌<◌, Bool, true, false, List, [], ◌∷◌, ◌++◌, map, length, refl, sym, ap, ◌∙◌, subst, arith}
use Rattle.std.specs.Prelude.{◌==◌, ◌&&◌, slice_index_or, if◌then◌else◌}
use Rattle.std.proofs.lemmas.Bool.{false≢true}
use Rattle.std.proofs.lemmas.Grind.{common_steps}
use Rattle.wt_bag.specs.Bags.{Each}
use Rattle.wt_pred.specs.Tree.{PredTree}
use Rattle.wt_symbol.specs.Sides as sides
use Rattle.wt_symbol.specs.Sides.{SideTree, leaves_of, lists_of, preds_of}
use Rattle.wt_symbol.specs.Heads.{anchor}
use Rattle.wt_instance.specs.declared.named.Column.{Column}
use Rattle.wt_instance.specs.Rows.{column, leaf_columns}
use Rattle.wt_plan.specs.Tree as plans
use Rattle.wt_plan.specs.Measures.{width}
use Rattle.wt_matching.specs.Filling.{Assigned, leaf_plan, pred_of, header, place, places, fill}
use Rattle.wt_matching.proofs.Assigning.{Covers}
use Rattle.wt_matching.specs.Filling.{list_of}
use Rattle.wt_matching.specs.Finding.{Maybe, nothing, just, and_then, number_at, numbers_at, Found, found_join, found, Reads, IsPlaced, ArePlaced}
use Rattle.wt_matching.proofs.Lists.{index_map, map_append}
use Rattle.wt_known.proofs.Agreeing.{and_parts, eq_true}

pub number_itself : (n : ℕ) → (n == n) ≡ true
number_itself n = grind (arith, common_steps)

-- at the first place of a column there is this column
pub placed_column : (columns : List Column) (r n : ℕ) (d : Column) → place columns r n < length columns → slice_index_or columns (place columns r n) d ≡ column r n
placed_column [] r n d h = absurd (omega (arith, h))
placed_column (c ∷ columns) r n d h = here ((c.leaf == r) && (c.number == n)) refl h (placed_column columns r n d)
  where
    same : (c : Column) (r n : ℕ) → c.leaf ≡ r → c.number ≡ n → c ≡ column r n
    same c r n e f = rw (sym e, sym f) refl

    here : (b : Bool) → ((c.leaf == r) && (c.number == n)) ≡ b → (if b then 0 else suc (place columns r n)) < suc (length columns) → (place columns r n < length columns → slice_index_or columns (place columns r n) d ≡ column r n) →
        slice_index_or (c ∷ columns) (if b then 0 else suc (place columns r n)) d ≡ column r n
    here true e lt ih = let parts = and_parts (c.leaf == r) (c.number == n) e in same c r n (eq_true c.leaf r parts.0) (eq_true c.number n parts.1)
    here false e lt ih = ih (omega (arith, lt))

pub just_same : {X : Type 0} (x y : X) → just x ≡ just y → x ≡ y
just_same x y h = cc

pub then_just : {X Y : Type 0} (o : Maybe X) (f : X → Maybe Y) (y : Y) → and_then o f ≡ just y → (x : X) × (o ≡ just x) × (f x ≡ just y)
then_just nothing f y h = cc
then_just (just x) f y h = (x, refl, h)

-- a number that was read has the place
pub number_read : (columns : List Column) (r k n : ℕ) → number_at columns r k ≡ just n → place columns r n ≡ k
number_read columns r k n h = here (slice_index_or columns k (column (suc r) 0)) h
  where
    chosen : (b : Bool) (m : ℕ) → (if b then just m else nothing) ≡ just n → (b ≡ true) × (m ≡ n)
    chosen true m h = (refl, just_same m n h)
    chosen false m h = cc

    here : (c : Column) → (if (c.leaf == r) && (place columns r c.number == k) then just c.number else nothing) ≡ just n → place columns r n ≡ k
    here c h =
        let parts = chosen ((c.leaf == r) && (place columns r c.number == k)) c.number h in
        let both = and_parts (c.leaf == r) (place columns r c.number == k) parts.0 in
        ap (place columns r) (sym parts.1) ∙ eq_true (place columns r c.number) k both.1

-- a number with a place within the columns is read there
number_found : (columns : List Column) (r n : ℕ) → place columns r n < length columns → number_at columns r (place columns r n) ≡ just n
number_found columns r n h = here (slice_index_or columns (place columns r n) (column (suc r) 0)) (placed_column columns r n (column (suc r) 0) h)
  where
    passes : (b c : Bool) → b ≡ true → c ≡ true → (if b && c then just n else nothing) ≡ just n
    passes true true e f = refl
    passes true false e f = absurd (false≢true f)
    passes false c e f = absurd (false≢true e)

    here : (c : Column) → c ≡ column r n → (if (c.leaf == r) && (place columns r c.number == place columns r n) then just c.number else nothing) ≡ just n
    here c e = subst (λ (d : Column). (if (d.leaf == r) && (place columns r d.number == place columns r n) then just d.number else nothing) ≡ just n) (sym e) (passes (r == r) (place columns r n == place columns r n) (number_itself r) (number_itself (place columns r n)))

both_ends : {X : Type 0} (x y : X) (xs ys : List X) → x ≡ y → xs ≡ ys → x ∷ xs ≡ y ∷ ys
both_ends x y xs ys e f = cc

pub numbers_read : (columns : List Column) (r : ℕ) (l ns : List ℕ) → numbers_at columns r l ≡ just ns → map (place columns r) ns ≡ l
numbers_read columns r [] ns h = ap (map (place columns r)) (sym (just_same [] ns h))
numbers_read columns r (k ∷ l) ns h =
    let one = then_just (number_at columns r k) _ ns h in
    let two = then_just (numbers_at columns r l) _ ns one.2 in
    ap (map (place columns r)) (sym (just_same (one.0 ∷ two.0) ns two.2)) ∙ both_ends _ _ _ _ (number_read columns r k one.0 one.1) (numbers_read columns r l two.0 two.1)

then_step : {X Y : Type 0} (o : Maybe X) (f : X → Maybe Y) (x : X) (y : Maybe Y) → o ≡ just x → f x ≡ y → and_then o f ≡ y
then_step o f x y e h = ap (λ o. and_then o f) e ∙ h

numbers_found : (columns : List Column) (r : ℕ) (ns : List ℕ) → Each (λ n. place columns r n < length columns) ns → numbers_at columns r (map (place columns r) ns) ≡ just ns
numbers_found columns r [] h = refl
numbers_found columns r (n ∷ ns) h = then_step (number_at columns r (place columns r n)) _ n (just (n ∷ ns)) (number_found columns r n h.0) (then_step (numbers_at columns r (map (place columns r) ns)) _ ns (just (n ∷ ns)) (numbers_found columns r ns h.1) refl)

pub width_found : (m : Assigned) (r : ℕ) → r < length m.leaves → slice_index_or (map width m.leaves) r 0 ≡ width (leaf_plan m r)
width_found m r h = index_map width m.leaves r (plans.table 0 0) 0 h

-- Where the side filled in is the plan, with each number placed, the walk finds what the assignment gives: so there is
-- at most one such assignment, and where the walk finds nothing there is none.
pub record Finds (A : List ℕ) (m : Assigned) (s : SideTree) : Type 0 where
  pub seen : Found
  pub found : found s A (fill s A m) ≡ just seen
  pub reads : Reads m s seen
  pub columns : seen.columns ≡ header s A m

record_reads : (m : Assigned) (s t : SideTree) (x y : Found) → Reads m s x → Reads m t y → (x.leaves ++ y.leaves ≡ map (leaf_plan m) (leaves_of s ++ leaves_of t)) × (x.lists ++ y.lists ≡ map (list_of m) (lists_of s ++ lists_of t)) × (x.preds ++ y.preds ≡ map (pred_of m) (preds_of s ++ preds_of t))
record_reads m s t x y h k = (
  both_parts' _ _ _ _ h.leaves k.leaves ∙ sym (map_append (leaf_plan m) (leaves_of s) (leaves_of t)),
  both_parts' _ _ _ _ h.lists k.lists ∙ sym (map_append (list_of m) (lists_of s) (lists_of t)),
  both_parts' _ _ _ _ h.preds k.preds ∙ sym (map_append (pred_of m) (preds_of s) (preds_of t)),
)
  where
    both_parts' : {X : Type 0} (xs ys vs ws : List X) → xs ≡ vs → ys ≡ ws → xs ++ ys ≡ vs ++ ws
    both_parts' xs ys vs ws e f = ap (λ (l : List _). l ++ ys) e ∙ ap (λ (l : List _). vs ++ l) f

numbers_seen : (A : List ℕ) (m : Assigned) (s : SideTree) (a : ℕ) (x : Found) → x.columns ≡ header s A m → IsPlaced s A m a → numbers_at x.columns (anchor A a) (places s A m a) ≡ just (list_of m a)
numbers_seen A m s a x e h = ap (λ (cs : List Column). numbers_at cs (anchor A a) (places s A m a)) e ∙ numbers_found (header s A m) (anchor A a) (list_of m a) h

join_seen : (A : List ℕ) (m : Assigned) (a b : ℕ) (s t : SideTree) (h : Finds A m s) (k : Finds A m t) → IsPlaced s A m a → IsPlaced t A m b →
    found_join (anchor A a) (anchor A b) (places s A m a) (places t A m b) (found s A (fill s A m)) (found t A (fill t A m))
    ≡ just (record { columns = h.seen.columns ++ k.seen.columns; leaves = h.seen.leaves ++ k.seen.leaves; lists = list_of m a ∷ list_of m b ∷ (h.seen.lists ++ k.seen.lists); preds = h.seen.preds ++ k.seen.preds })
join_seen A m a b s t h k pa pb =
    then_step (found s A (fill s A m)) _ h.seen _ h.found
    (then_step (found t A (fill t A m)) _ k.seen _ k.found
    (then_step (numbers_at h.seen.columns (anchor A a) (places s A m a)) _ (list_of m a) _ (numbers_seen A m s a h.seen h.columns pa)
    (then_step (numbers_at k.seen.columns (anchor A b) (places t A m b)) _ (list_of m b) _ (numbers_seen A m t b k.seen k.columns pb) refl)))

both_columns : (xs ys vs ws : List Column) → xs ≡ vs → ys ≡ ws → xs ++ ys ≡ vs ++ ws
both_columns xs ys vs ws e f = ap (λ (l : List Column). l ++ ys) e ∙ ap (λ (l : List Column). vs ++ l) f

pub finds : (A : List ℕ) (m : Assigned) (s : SideTree) → Covers m s → ArePlaced s A m → Finds A m s
finds A m (sides.input r) c h = record {
  seen = record { columns = leaf_columns r 0 (width (leaf_plan m r)); leaves = leaf_plan m r ∷ []; lists = []; preds = [] };
  found = refl;
  reads = record { leaves = refl; lists = refl; preds = refl };
  columns = ap (leaf_columns r 0) (sym (width_found m r c));
}
finds A m (sides.proj a s) c h = let ih = finds A m s c.1 h.1 in record {
  seen = record { columns = map (column (anchor A a)) (list_of m a); leaves = ih.seen.leaves; lists = list_of m a ∷ ih.seen.lists; preds = ih.seen.preds };
  found = then_step (found s A (fill s A m)) _ ih.seen _ ih.found (then_step (numbers_at ih.seen.columns (anchor A a) (places s A m a)) _ (list_of m a) _ (numbers_seen A m s a ih.seen ih.columns h.0) refl);
  reads = record { leaves = ih.reads.leaves; lists = ap (λ (l : List (List ℕ)). list_of m a ∷ l) ih.reads.lists; preds = ih.reads.preds };
  columns = refl;
}
finds A m (sides.filtered p a s) c h = let ih = finds A m s c.2 h.1 in record {
  seen = record { columns = ih.seen.columns; leaves = ih.seen.leaves; lists = list_of m a ∷ ih.seen.lists; preds = pred_of m p ∷ ih.seen.preds };
  found = then_step (found s A (fill s A m)) _ ih.seen _ ih.found (then_step (numbers_at ih.seen.columns (anchor A a) (places s A m a)) _ (list_of m a) _ (numbers_seen A m s a ih.seen ih.columns h.0) refl);
  reads = record { leaves = ih.reads.leaves; lists = ap (λ (l : List (List ℕ)). list_of m a ∷ l) ih.reads.lists; preds = ap (λ (l : List PredTree). pred_of m p ∷ l) ih.reads.preds };
  columns = ih.columns;
}
finds A m (sides.inner_join a b s t) c h = let l = finds A m s c.2 h.2 in let r = finds A m t c.3 h.3 in let both = record_reads m s t l.seen r.seen l.reads r.reads in record {
  seen = record { columns = l.seen.columns ++ r.seen.columns; leaves = l.seen.leaves ++ r.seen.leaves; lists = list_of m a ∷ list_of m b ∷ (l.seen.lists ++ r.seen.lists); preds = l.seen.preds ++ r.seen.preds };
  found = join_seen A m a b s t l r h.0 h.1;
  reads = record { leaves = both.0; lists = ap (λ (z : List (List ℕ)). list_of m a ∷ list_of m b ∷ z) both.1; preds = both.2 };
  columns = both_columns _ _ _ _ l.columns r.columns;
}
finds A m (sides.left_join a b s t) c h = let l = finds A m s c.2 h.2 in let r = finds A m t c.3 h.3 in let both = record_reads m s t l.seen r.seen l.reads r.reads in record {
  seen = record { columns = l.seen.columns ++ r.seen.columns; leaves = l.seen.leaves ++ r.seen.leaves; lists = list_of m a ∷ list_of m b ∷ (l.seen.lists ++ r.seen.lists); preds = l.seen.preds ++ r.seen.preds };
  found = join_seen A m a b s t l r h.0 h.1;
  reads = record { leaves = both.0; lists = ap (λ (z : List (List ℕ)). list_of m a ∷ list_of m b ∷ z) both.1; preds = both.2 };
  columns = both_columns _ _ _ _ l.columns r.columns;
}
finds A m (sides.in_sub a s t) c h = let l = finds A m s c.1 h.1 in let r = finds A m t c.2 h.2 in let both = record_reads m s t l.seen r.seen l.reads r.reads in record {
  seen = record { columns = l.seen.columns; leaves = l.seen.leaves ++ r.seen.leaves; lists = list_of m a ∷ (l.seen.lists ++ r.seen.lists); preds = l.seen.preds ++ r.seen.preds };
  found = then_step (found s A (fill s A m)) _ l.seen _ l.found (then_step (found t A (fill t A m)) _ r.seen _ r.found (then_step (numbers_at l.seen.columns (anchor A a) (places s A m a)) _ (list_of m a) _ (numbers_seen A m s a l.seen l.columns h.0) refl));
  reads = record { leaves = both.0; lists = ap (λ (z : List (List ℕ)). list_of m a ∷ z) both.1; preds = both.2 };
  columns = l.columns;
}
finds A m (sides.dedup s) c h = let ih = finds A m s c h in record { seen = ih.seen; found = ih.found; reads = record { leaves = ih.reads.leaves; lists = ih.reads.lists; preds = ih.reads.preds }; columns = ih.columns }
