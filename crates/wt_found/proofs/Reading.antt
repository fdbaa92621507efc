-- Numbers that are read one after the other, and a leaf's columns made one after the other.
use Rattle.std.proofs.Common.{◌≡◌, ℕ, suc, ◌+◌, ◌-◌, ◌^◌, ◌<◌, min, List, [], ◌∷◌, ◌++◌, append_assoc, refl, sym, ap, ◌∙◌, arith}
use Rattle.wt_instance.specs.declared.named.Column.{Column}
use Rattle.wt_instance.specs.Rows.{column, leaf_columns}
use Rattle.wt_pred.specs.Tree.{PredTree}
use Rattle.wt_plan.specs.Tree.{PlanTree}
use Rattle.wt_plan.specs.Measures.{width}
use Rattle.wt_matching.specs.Finding.{Maybe, nothing, just, and_then, number_at, numbers_at, Found}
use Rattle.wt_matching.proofs.Lists.{map_append}
use Rattle.wt_found.specs.declared.columns.Shown.{Shown}
use Rattle.wt_found.specs.declared.walk.Found.{Found as CodeFound}
use Rattle.wt_found.specs.Seen.{named, plans_behind, preds_behind, seen}
use Rattle.wt_found.specs.Steps.{found_leaf}

-- the numbers so far, and those that are still read
abbrev pub continued : List ℕ → Maybe (List ℕ) → Maybe (List ℕ)
continued ns nothing = nothing
continued ns (just l) = just (ns ++ l)

pub continued_none : (o : Maybe (List ℕ)) → continued [] o ≡ o
continued_none nothing = refl
continued_none (just l) = refl

pub continued_one : (columns : List Column) (r k n : ℕ) (l ns : List ℕ) → number_at columns r k ≡ just n →
    continued ns (numbers_at columns r (k ∷ l)) ≡ continued (ns ++ n ∷ []) (numbers_at columns r l)
continued_one columns r k n l ns h =
    ap (λ o. continued ns (and_then o (λ m. and_then (numbers_at columns r l) (λ rest. just (m ∷ rest))))) h ∙ here (numbers_at columns r l)
  where
    here : (o : Maybe (List ℕ)) → continued ns (and_then o (λ rest. just (n ∷ rest))) ≡ continued (ns ++ n ∷ []) o
    here nothing = refl
    here (just rest) = ap just (sym (append_assoc ns (n ∷ []) rest))

pub continued_stops : (columns : List Column) (r k : ℕ) (l ns : List ℕ) → number_at columns r k ≡ nothing →
    continued ns (numbers_at columns r (k ∷ l)) ≡ nothing
continued_stops columns r k l ns h = ap (λ o. continued ns (and_then o (λ m. and_then (numbers_at columns r l) (λ rest. just (m ∷ rest))))) h

pub one_leaf_column : (r n w : ℕ) → n < w → leaf_columns r n (w - n) ≡ column r n ∷ leaf_columns r (n + 1) (w - (n + 1))
one_leaf_column r n w h = here (w - n) (w - (n + 1)) (omega arith)
  where
    here : (k j : ℕ) → k ≡ suc j → leaf_columns r n k ≡ column r n ∷ leaf_columns r (n + 1) j
    here k j e = ap (leaf_columns r n) e ∙ ap (λ m. column r n ∷ leaf_columns r m j) (omega arith)

pub small_min : (n : ℕ) → n < 2 ^ 32 → min (2 ^ 32 - 1) n ≡ n
small_min n h = omega arith

named_append : (xs ys : List Shown) → named (xs ++ ys) ≡ named xs ++ named ys
named_append xs ys = map_append (λ (c : Shown). column c.leaf c.number) xs ys

pub leaf_preserved : (r n w : ℕ) (old new : List Shown) (all : List Column) → n < w → new ≡ old ++ record { leaf = r; number = n } ∷ [] →
    named old ++ leaf_columns r n (w - n) ≡ all → named new ++ leaf_columns r (n + 1) (w - (n + 1)) ≡ all
leaf_preserved r n w old new all lt e h =
    ap (λ cs. named cs ++ leaf_columns r (n + 1) (w - (n + 1))) e
    ∙ ap (λ cs. cs ++ leaf_columns r (n + 1) (w - (n + 1))) (named_append old (record { leaf = r; number = n } ∷ []))
    ∙ append_assoc (named old) (column r n ∷ []) (leaf_columns r (n + 1) (w - (n + 1)))
    ∙ ap (λ cs. named old ++ cs) (sym (one_leaf_column r n w lt))
    ∙ h

-- what was found, by its parts
abbrev pub made : List Column → List PlanTree → List (List ℕ) → List PredTree → Found
made columns leaves lists preds = record { columns = columns; leaves = leaves; lists = lists; preds = preds }

pub all_parts : (cs cs' : List Column) (ls ls' : List PlanTree) (ns ns' : List (List ℕ)) (fs fs' : List PredTree) → cs ≡ cs' → ls ≡ ls' → ns ≡ ns' → fs ≡ fs' →
    made cs ls ns fs ≡ made cs' ls' ns' fs'
all_parts cs cs' ls ls' ns ns' fs fs' e f g h =
    ap (λ z. made z ls ns fs) e ∙ (ap (λ z. made cs' z ns fs) f ∙ (ap (λ z. made cs' ls' z fs) g ∙ ap (made cs' ls' ns') h))

pub leaf_seen : (x : CodeFound) (r : ℕ) (p : PlanTree) (w : ℕ) → named x.columns.items ≡ leaf_columns r 0 w → w ≡ width p →
    plans_behind x.leaves.items ≡ p ∷ [] → x.lists.items ≡ [] → preds_behind x.preds.items ≡ [] → seen x ≡ found_leaf r p
leaf_seen x r p w e f g h k = all_parts _ _ _ _ _ _ _ _ (e ∙ ap (leaf_columns r 0) f) g h k
