-- A variable taken away.
use Rattle.std.proofs.Common.{ℕ, zero, suc, ◌-◌, ◌<◌, Bool, true, false, ◌&&◌, cond, ltb, List, [], ◌∷◌, ◌++◌, map, ◌≡◌, refl, sym, ap, ◌∙◌, arith, length, ◌⊎◌, inl, inr, eq-eqb}
use Rattle.std.specs.Prelude.{nat_eq, slice_index_or}
use Rattle.std.proofs.lemmas.Bool.{lt-ltb, le-ltb, cases_order}
use Rattle.wt_bag.specs.Bags.{Each}
use Rattle.wt_bag.specs.Choices.{At}
use Rattle.wt_form.specs.declared.form.Expr.{Expr}
use Rattle.wt_form.specs.declared.form.Expr.TheVariants.{Of, Null as NullOf}
use Rattle.wt_form.specs.Trees.{Ranges, no_ranges, range_then, FormRange, Conds, no_conds, cond_then, Cond, Pred, Join, is_in, not_in}
use Rattle.wt_form.specs.Parts.{ranges_append, conds_append, ranges_count, ranges_list, conds_list, cond_map, conds_map}
use Rattle.wt_instance.specs.declared.instance.Instance.{Instance}
use Rattle.wt_rows.specs.FormRows.{Piece, Env, part_values, values_of, row_of, conds_hold, cond_holds}
use Rattle.std.proofs.lemmas.List.{get_or_append_left, get_or-append_right}
use Rattle.std.proofs.lemmas.Bool.{ne_eqb}
use Rattle.wt_form.specs.Facts.{IsOver}
use Rattle.wt_form.specs.Changes.{expr_down, expr_onto, CondAvoids}

pub get_down : (a b : Env) (c : List Piece) (v k : ℕ) → length a ≡ k → (v ≡ k → ⊥) → slice_index_or (a ++ b) (cond (ltb k v) (v - 1) v) [] ≡ slice_index_or (a ++ c ∷ b) v []
get_down a b c v k l n = go (cases_order v k)
  where
    go : (v ≡ k) ⊎ ((v < k) ⊎ (k < v)) → slice_index_or (a ++ b) (cond (ltb k v) (v - 1) v) [] ≡ slice_index_or (a ++ c ∷ b) v []
    go (inl e) = absurd (n e)
    go (inr (inl h)) = ap (λ t. slice_index_or (a ++ b) (cond t (v - 1) v) []) (le-ltb k v (omega arith)) ∙ get_or_append_left a b [] v (omega arith) ∙ sym (get_or_append_left a (c ∷ b) [] v (omega arith))
    go (inr (inr h)) = ap (λ t. slice_index_or (a ++ b) (cond t (v - 1) v) []) (lt-ltb k v h) ∙ get_or-append_right a b k (v - 1) [] l (omega arith)
        ∙ sym (ap (λ j. slice_index_or (c ∷ b) j []) more) ∙ sym (get_or-append_right a (c ∷ b) k v [] l (omega arith))
      where
        more : v - k ≡ suc (v - 1 - k)
        more = omega arith

pub get_here : (a b : Env) (c : List Piece) (k : ℕ) → length a ≡ k → slice_index_or (a ++ c ∷ b) k [] ≡ c
get_here a b c k l = get_or-append_right a (c ∷ b) k k [] l (omega arith) ∙ ap (λ j. slice_index_or (c ∷ b) j []) none
  where
    none : k - k ≡ 0
    none = omega arith

pub get_left : (a b : Env) (v : ℕ) → v < length a → slice_index_or (a ++ b) v [] ≡ slice_index_or a v []
get_left a b v l = get_or_append_left a b [] v l

pub value_down : (I : Instance) (a b : Env) (c : List Piece) (k : ℕ) (x : Expr) → length a ≡ k → (IsOver k x → ⊥) → values_of I (a ++ b) (expr_down k x) ≡ values_of I (a ++ c ∷ b) x
value_down I a b c k (Of v i d) l n = ap (λ p. part_values I d (slice_index_or p i [])) (get_down a b c v k l n)
value_down I a b c k (NullOf r d) l n = refl

cond_down : (I : Instance) (a b : Env) (c : List Piece) (k : ℕ) (q : Cond) → length a ≡ k → CondAvoids k q → cond_holds (cond_map (expr_down k) q) I (a ++ b) ≡ cond_holds q I (a ++ c ∷ b)
cond_down I a b c k (Pred p x) l n = rw (value_down I a b c k x l n)
cond_down I a b c k (Join x y) l n = rw (value_down I a b c k x l n.0, value_down I a b c k y l n.1)
cond_down I a b c k (is_in x h ts) l n = rw (value_down I a b c k x l n)
cond_down I a b c k (not_in x h ts) l n = rw (value_down I a b c k x l n)

pub conds_down : (I : Instance) (a b : Env) (c : List Piece) (k : ℕ) (cs : Conds) → length a ≡ k → Each (CondAvoids k) (conds_list cs) → conds_hold (conds_map (expr_down k) cs) I (a ++ b) ≡ conds_hold cs I (a ++ c ∷ b)
conds_down I a b c k no_conds l n = refl
conds_down I a b c k (cond_then q cs) l n = rw (cond_down I a b c k q l n.0, conds_down I a b c k cs l n.1)

pub row_down : (I : Instance) (a b : Env) (c : List Piece) (k : ℕ) (ps : List Expr) → length a ≡ k → Each (λ x. IsOver k x → ⊥) ps → row_of I (map (expr_down k) ps) (a ++ b) ≡ row_of I ps (a ++ c ∷ b)
row_down I a b c k [] l h = refl
row_down I a b c k (p ∷ ps) l h = rw (value_down I a b c k p l h.0, row_down I a b c k ps l h.1)

-- variable x stands for the one taken away
pub value_onto : (I : Instance) (a b : Env) (x k : ℕ) (z : Expr) → length a ≡ k → x < k → values_of I (a ++ b) (expr_onto x k z) ≡ values_of I (a ++ slice_index_or a x [] ∷ b) z
value_onto I a b x k (NullOf r d) l m = refl
value_onto I a b x k (Of v i d) l m = go (cases_order v k)
  where
    go : (v ≡ k) ⊎ ((v < k) ⊎ (k < v)) → values_of I (a ++ b) (cond (nat_eq v k) (Of x i d) (expr_down k (Of v i d))) ≡ part_values I d (slice_index_or (slice_index_or (a ++ slice_index_or a x [] ∷ b) v []) i [])
    go (inl e) = ap (λ t. values_of I (a ++ b) (cond t (Of x i d) (expr_down k (Of v i d)))) (eq-eqb v k e)
        ∙ ap (λ p. part_values I d (slice_index_or p i [])) (get_left a b x (omega arith) ∙ sym (get_here a b (slice_index_or a x []) k l) ∙ ap (λ j. slice_index_or (a ++ slice_index_or a x [] ∷ b) j []) (sym e))
    go (inr o) = ap (λ t. values_of I (a ++ b) (cond t (Of x i d) (expr_down k (Of v i d)))) (ne_eqb v k (λ e. differ o e)) ∙ value_down I a b (slice_index_or a x []) k (Of v i d) l (λ e. differ o e)
      where
        differ : (v < k) ⊎ (k < v) → v ≡ k → ⊥
        differ (inl h) e = omega arith
        differ (inr h) e = omega arith

-- a replacement that keeps values keeps conditions and pieces
pub cond_keeps : (I : Instance) (f : Expr → Expr) (e e' : Env) → ((x : Expr) → values_of I e' (f x) ≡ values_of I e x) → (c : Cond) → cond_holds (cond_map f c) I e' ≡ cond_holds c I e
cond_keeps I f e e' h (Pred p x) = rw (h x)
cond_keeps I f e e' h (Join x y) = rw (h x, h y)
cond_keeps I f e e' h (is_in x k ts) = rw (h x)
cond_keeps I f e e' h (not_in x k ts) = rw (h x)

pub conds_keep : (I : Instance) (f : Expr → Expr) (e e' : Env) → ((x : Expr) → values_of I e' (f x) ≡ values_of I e x) → (cs : Conds) → conds_hold (conds_map f cs) I e' ≡ conds_hold cs I e
conds_keep I f e e' h no_conds = refl
conds_keep I f e e' h (cond_then c cs) = rw (cond_keeps I f e e' h c, conds_keep I f e e' h cs)

pub row_keeps : (I : Instance) (f : Expr → Expr) (e e' : Env) → ((x : Expr) → values_of I e' (f x) ≡ values_of I e x) → (ps : List Expr) → row_of I (map f ps) e' ≡ row_of I ps e
row_keeps I f e e' h [] = refl
row_keeps I f e e' h (p ∷ ps) = rw (h p, row_keeps I f e e' h ps)

pub conds_map-middle : (I : Instance) (e : Env) (f : Expr → Expr) (cs ds : Conds) (c : Cond) →
    conds_hold (conds_map f (conds_append cs (cond_then c ds))) I e ≡ (cond_holds (cond_map f c) I e && conds_hold (conds_map f (conds_append cs ds)) I e)
conds_map-middle I e f no_conds ds c = refl
conds_map-middle I e f (cond_then d cs) ds c = ap (λ b. cond_holds (cond_map f d) I e && b) (conds_map-middle I e f cs ds c) ∙ exchange (cond_holds (cond_map f d) I e) (cond_holds (cond_map f c) I e) (conds_hold (conds_map f (conds_append cs ds)) I e)
  where
    exchange : (a b c : Bool) → (a && (b && c)) ≡ (b && (a && c))
    exchange true true c = refl
    exchange true false c = refl
    exchange false true c = refl
    exchange false false c = refl

pub at_before : (P : FormRange → Type 0) (x : ℕ) (rs more : Ranges) → x < ranges_count rs → At P x (ranges_list (ranges_append rs more)) → At P x (ranges_list rs)
at_before P x no_ranges more l a = let bad : ⊥ = omega arith in absurd bad
at_before P zero (range_then r rs) more l a = a
at_before P (suc x) (range_then r rs) more l a = at_before P x rs more (omega arith) a
