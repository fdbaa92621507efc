-- What the pieces hold determines a variable.
use Rattle.std.proofs.Common.{ℕ, ◌≡◌, inl, inr, true, List, [], ◌∷◌, refl, sym, ap, ◌∙◌, subst}
use Rattle.wt_bag.specs.Choices.{At, Has}
use Rattle.wt_symbol.specs.declared.head.PartCols.TheVariants.{Whole, List as Listed}
use Rattle.wt_form.specs.declared.form.Expr.{Expr}
use Rattle.wt_form.specs.declared.form.Expr.TheVariants.{Of, Null as NullOf}
use Rattle.wt_form.specs.Trees.{FormRange, Rel, distinct_of, Cond}
use Rattle.wt_form.specs.Known.{Known}
use Rattle.wt_form.specs.Facts.{NotNull, by_relation, by_condition, Determined, by_whole_row, by_columns, by_parts}
use Rattle.wt_facts.specs.declared.facts.LeafList.{LeafList}
use Rattle.wt_facts.specs.declared.facts.Facts.{Facts}
use Rattle.wt_facts.specs.Facts.{known_of}
use Rattle.wt_not_null.proofs.Respects.{list_law, within_from, unique_entry, entry_unique}
use Rattle.wt_determined.specs.Pieces.{ListOver, HasListOver}
use Rattle.wt_determined.specs.Alone.{KeyHeld, SomeKeyHeld, RangeHeld}

list_over : (K : Known) (u c : ℕ) (x : Expr) → ListOver K u c x → (d : ℕ) × (x ≡ Of u 0 (Listed d)) × (K.within c d ≡ true)
list_over K u c (Of v i (Listed d)) h = (d, ap (λ w. Of w i (Listed d)) h.0 ∙ ap (λ w. Of u w (Listed d)) h.1, h.2)
list_over K u c (Of v i Whole) h = absurd h
list_over K u c (NullOf r d) h = absurd h

some_list : (K : Known) (u c : ℕ) (ps : List Expr) → HasListOver K u c ps → (d : ℕ) × Has (Of u 0 (Listed d)) ps × (K.within c d ≡ true)
some_list K u c [] h = absurd h
some_list K u c (x ∷ ps) (inl h) = let r = list_over K u c x h in (r.0, inl (sym r.1), r.2)
some_list K u c (x ∷ ps) (inr h) = let r = some_list K u c ps h in (r.0, inr r.1, r.2)

list_there : (K : Known) (u c d : ℕ) (ps : List Expr) → Has (Of u 0 (Listed d)) ps → K.within c d ≡ true → HasListOver K u c ps
list_there K u c d [] h w = absurd h
list_there K u c d (x ∷ ps) (inl e) w = inl (subst (ListOver K u c) e (refl, refl, w))
list_there K u c d (x ∷ ps) (inr h) w = inr (list_there K u c d ps h w)

some_key : (K : Known) (rs : List FormRange) (cs : List Cond) (ps : List Expr) (u r : ℕ) (keys : List LeafList) → SomeKeyHeld K rs cs ps u r keys → (key : LeafList) × Has key keys × KeyHeld K rs cs ps u r key
some_key K rs cs ps u r [] h = absurd h
some_key K rs cs ps u r (key ∷ keys) (inl h) = (key, inl refl, h)
some_key K rs cs ps u r (key ∷ keys) (inr h) = let s = some_key K rs cs ps u r keys h in (s.0, inr s.1, s.2)

key_there : (K : Known) (rs : List FormRange) (cs : List Cond) (ps : List Expr) (u r : ℕ) (keys : List LeafList) (key : LeafList) → Has key keys → KeyHeld K rs cs ps u r key → SomeKeyHeld K rs cs ps u r keys
key_there K rs cs ps u r [] key h k = absurd h
key_there K rs cs ps u r (l ∷ keys) key (inl e) k = inl (subst (KeyHeld K rs cs ps u r) e k)
key_there K rs cs ps u r (l ∷ keys) key (inr h) k = inr (key_there K rs cs ps u r keys key h k)

pub held_determined : (facts : Facts) (rs : List FormRange) (cs : List Cond) (ps : List Expr) (u : ℕ) (range : FormRange) → At (λ r. r ≡ range) u rs → RangeHeld facts rs cs ps u range → Determined (known_of facts) rs cs ps u
held_determined facts rs cs ps u (distinct_of h ts) at held = by_parts h ts at held
held_determined facts rs cs ps u (Rel r) at held = go (some_key (known_of facts) rs cs ps u r facts.unique held)
  where
    go : ((key : LeafList) × Has key facts.unique × KeyHeld (known_of facts) rs cs ps u r key) → Determined (known_of facts) rs cs ps u
    go (key, there, (leaf, never, inl whole)) = by_whole_row {r = r} {c = key.list} at (entry_unique facts r key.list key there leaf ((list_law facts).reflexive key.list)) whole never
    go (key, there, (leaf, never, inr some)) =
        let l = some_list (known_of facts) u key.list ps some in
        by_columns {r = r} {c = key.list} {d = l.0} at (entry_unique facts r key.list key there leaf ((list_law facts).reflexive key.list)) l.1 l.2 never

-- a list that is the same is not NULL either
never_moves : (facts : Facts) (rs : List FormRange) (cs : List Cond) (u i a b : ℕ) → (known_of facts).attr a b ≡ true → NotNull (known_of facts) rs cs u i a → NotNull (known_of facts) rs cs u i b
never_moves facts rs cs u i a b same (by_relation {r = r} {d = d} at n w) = by_relation {r = r} {d = d} at n (within_from facts a b d same w)
never_moves facts rs cs u i a b same (by_condition {d = d} q h k w) = by_condition {d = d} q h k (within_from facts a b d same w)

pub whole_row_held : (facts : Facts) (rs : List FormRange) (cs : List Cond) (ps : List Expr) (u r c : ℕ) → (known_of facts).unique r c ≡ true → Has (Of u 0 Whole) ps → NotNull (known_of facts) rs cs u 0 c → RangeHeld facts rs cs ps u (Rel r)
whole_row_held facts rs cs ps u r c unique whole never =
    let l = unique_entry facts r c unique in
    key_there (known_of facts) rs cs ps u r facts.unique l.0 l.1 (l.2, never_moves facts rs cs u 0 c l.0.list l.3 never, inl whole)

pub columns_held : (facts : Facts) (rs : List FormRange) (cs : List Cond) (ps : List Expr) (u r c d : ℕ) → (known_of facts).unique r c ≡ true → Has (Of u 0 (Listed d)) ps → (known_of facts).within c d ≡ true → NotNull (known_of facts) rs cs u 0 c → RangeHeld facts rs cs ps u (Rel r)
columns_held facts rs cs ps u r c d unique held within never =
    let l = unique_entry facts r c unique in
    key_there (known_of facts) rs cs ps u r facts.unique l.0 l.1 (l.2, never_moves facts rs cs u 0 c l.0.list l.3 never, inr (list_there (known_of facts) u l.0.list d ps held (within_from facts c l.0.list d l.3 within)))
