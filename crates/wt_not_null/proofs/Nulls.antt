-- Deciding that an expression is never NULL.
use Rattle.std.proofs.Common.{ℕ, zero, suc, ◌≡◌, ◌⊎◌, ◌↔◌, ◌-◌, inl, inr, Bool, true, false, List, [], ◌∷◌, refl, sym, ap, ◌∙◌, subst}
use Rattle.std.specs.List.{list_any}
use Rattle.std.proofs.lemmas.Bool.{false≢true, and_parts, and_from}
use Rattle.wt_bag.specs.Choices.{At, Has}
use Rattle.wt_bag.proofs.HasLaws.{list_any_has, has_list_any}
use Rattle.wt_symbol.specs.declared.head.PartCols.TheVariants.{Whole, List as Listed}
use Rattle.wt_form.specs.declared.form.Expr.{Expr}
use Rattle.wt_form.specs.declared.form.Expr.TheVariants.{Of, Null as NullOf}
use Rattle.wt_form.specs.Trees.{FormRange, Rel, distinct_of, Cond, Pred, Join, is_in, not_in}
use Rattle.wt_form.specs.Known.{Known}
use Rattle.wt_form.specs.Facts.{NotNull, by_relation, by_condition, Compares}
use Rattle.wt_facts.specs.declared.facts.Facts.{Facts}
use Rattle.wt_facts.specs.Facts.{known_of}
use Rattle.wt_not_null.specs.NeverNull.{covers, ByRelation, ExprWithin, ComparedWithin, ByCondition}
use Rattle.wt_not_null.proofs.Respects.{not_null_entry, entry_not_null, within_to, list_law}

abbrev leaf_is : FormRange → ℕ
leaf_is (Rel r) = r
leaf_is (distinct_of h ts) = 0

-- a variable has one leaf
pub one_leaf : (rs : List FormRange) (v r s : ℕ) → At (λ range. range ≡ Rel r) v rs → At (λ range. range ≡ Rel s) v rs → r ≡ s
one_leaf [] v r s h g = absurd h
one_leaf (x ∷ rs) zero r s h g = ap leaf_is (sym h ∙ g)
one_leaf (x ∷ rs) (suc v) r s h g = one_leaf rs v r s h g

pub covered : (facts : Facts) (r c : ℕ) → (list_any (covers facts r c) facts.not_null ≡ true) ↔ ((d : ℕ) × ((known_of facts).not_null r d ≡ true) × ((known_of facts).within c d ≡ true))
covered facts r c = (to, from)
  where
    to : list_any (covers facts r c) facts.not_null ≡ true → (d : ℕ) × ((known_of facts).not_null r d ≡ true) × ((known_of facts).within c d ≡ true)
    to h =
        let f = has_list_any (covers facts r c) facts.not_null h in
        let q = and_parts ((known_of facts).rel r f.0.leaf) ((known_of facts).within c f.0.list) f.2 in
        (f.0.list, entry_not_null facts r f.0.list f.0 f.1 q.0 ((list_law facts).reflexive f.0.list), q.1)

    from : ((d : ℕ) × ((known_of facts).not_null r d ≡ true) × ((known_of facts).within c d ≡ true)) → list_any (covers facts r c) facts.not_null ≡ true
    from h =
        let l = not_null_entry facts r h.0 h.1 in
        list_any_has (covers facts r c) l.0 facts.not_null l.1 (and_from ((known_of facts).rel r l.0.leaf) ((known_of facts).within c l.0.list) l.2 (within_to facts c h.0 l.0.list h.2 l.3))

pub relation_tells : (facts : Facts) (rs : List FormRange) (v c r : ℕ) (b : Bool) → At (λ range. range ≡ Rel r) v rs → b ≡ list_any (covers facts r c) facts.not_null → (b ≡ true) ↔ ByRelation (known_of facts) rs v c
relation_tells facts rs v c r b at e = (
  λ t. let d = (covered facts r c).0 (sym e ∙ t) in (r, d.0, at, d.1, d.2),
  λ h. let same = one_leaf rs v h.0 r h.2 at in e ∙ (covered facts r c).1 (h.1, subst (λ s. (known_of facts).not_null s h.1 ≡ true) same h.3, h.4),
)

expr_is : (K : Known) (v i c : ℕ) (x : Expr) → ExprWithin K v i c x → (d : ℕ) × (x ≡ Of v i (Listed d)) × (K.within c d ≡ true)
expr_is K v i c (Of w j (Listed d)) h = (d, ap (λ k. Of k j (Listed d)) h.0 ∙ ap (λ k. Of v k (Listed d)) h.1, h.2)
expr_is K v i c (Of w j Whole) h = absurd h
expr_is K v i c (NullOf r d) h = absurd h

is_expr : (K : Known) (v i c d : ℕ) (x : Expr) → x ≡ Of v i (Listed d) → K.within c d ≡ true → ExprWithin K v i c x
is_expr K v i c d x e w = subst (ExprWithin K v i c) (sym e) (refl, refl, w)

compared_is : (K : Known) (v i c : ℕ) (q : Cond) → ComparedWithin K v i c q → (d : ℕ) × Compares (Of v i (Listed d)) q × (K.within c d ≡ true)
compared_is K v i c (Pred p x) h = absurd h
compared_is K v i c (Join x y) (inl h) = let e = expr_is K v i c x h in (e.0, inl e.1, e.2)
compared_is K v i c (Join x y) (inr h) = let e = expr_is K v i c y h in (e.0, inr e.1, e.2)
compared_is K v i c (is_in x g ts) h = expr_is K v i c x h
compared_is K v i c (not_in x g ts) h = absurd h

is_compared : (K : Known) (v i c d : ℕ) (q : Cond) → Compares (Of v i (Listed d)) q → K.within c d ≡ true → ComparedWithin K v i c q
is_compared K v i c d (Pred p x) h w = absurd h
is_compared K v i c d (Join x y) (inl e) w = inl (is_expr K v i c d x e w)
is_compared K v i c d (Join x y) (inr e) w = inr (is_expr K v i c d y e w)
is_compared K v i c d (is_in x g ts) e w = is_expr K v i c d x e w
is_compared K v i c d (not_in x g ts) h w = absurd h

condition_is : (K : Known) (rs : List FormRange) (cs all : List Cond) (v i c : ℕ) → ((q : Cond) → Has q cs → Has q all) → ByCondition K cs v i c → NotNull K rs all v i c
condition_is K rs [] all v i c f h = absurd h
condition_is K rs (q ∷ cs) all v i c f (inl h) = let d = compared_is K v i c q h in by_condition {d = d.0} q (f q (inl refl)) d.1 d.2
condition_is K rs (q ∷ cs) all v i c f (inr h) = condition_is K rs cs all v i c (λ p g. f p (inr g)) h

is_condition : (K : Known) (cs : List Cond) (v i c d : ℕ) (q : Cond) → Has q cs → Compares (Of v i (Listed d)) q → K.within c d ≡ true → ByCondition K cs v i c
is_condition K [] v i c d q h k w = absurd h
is_condition K (p ∷ cs) v i c d q (inl e) k w = inl (is_compared K v i c d p (subst (Compares (Of v i (Listed d))) e k) w)
is_condition K (p ∷ cs) v i c d q (inr h) k w = inr (is_condition K cs v i c d q h k w)

not_null_is : (K : Known) (rs : List FormRange) (cs : List Cond) (v i c : ℕ) → NotNull K rs cs v i c → ByRelation K rs v c ⊎ ByCondition K cs v i c
not_null_is K rs cs v i c (by_relation {r = r} {d = d} at n w) = inl (r, d, at, n, w)
not_null_is K rs cs v i c (by_condition {d = d} q h k w) = inr (is_condition K cs v i c d q h k w)

-- either way
pub either_way : (K : Known) (rs : List FormRange) (cs : List Cond) (v i c : ℕ) → (ByRelation K rs v c ⊎ ByCondition K cs v i c) ↔ NotNull K rs cs v i c
either_way K rs cs v i c = (to, not_null_is K rs cs v i c)
  where
    to : ByRelation K rs v c ⊎ ByCondition K cs v i c → NotNull K rs cs v i c
    to (inl h) = by_relation {r = h.0} {d = h.1} h.2 h.3 h.4
    to (inr h) = condition_is K rs cs cs v i c (λ q g. g) h

-- of two tests the first is passed, or only the second is asked
pub first_yes : (b : Bool) (A B C : Type 0) → ((A ⊎ B) ↔ C) → ((b ≡ true) ↔ A) → b ≡ true → ((b ≡ true) ↔ C)
first_yes b A B C f g e = (λ t. f.0 (inl (g.0 t)), λ x. e)

pub second_yes : (b d : Bool) (A B C : Type 0) → ((A ⊎ B) ↔ C) → ((b ≡ true) ↔ A) → b ≡ false → ((d ≡ true) ↔ B) → ((d ≡ true) ↔ C)
second_yes b d A B C f g e h = (λ t. f.0 (inr (h.0 t)), λ x. back (f.1 x))
  where
    back : A ⊎ B → d ≡ true
    back (inl a) = absurd (false≢true (sym e ∙ g.1 a))
    back (inr y) = h.1 y
