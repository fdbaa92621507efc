-- Variables that follow from determined ones are determined, and each determined one follows.
use Rattle.std.proofs.Common.{ℕ, zero, suc, ◌<◌, ◌≡◌, ◌⊎◌, ◌↔◌, inl, inr, Bool, true, List, [], ◌∷◌, length, get_or, refl, sym, ap, ◌∙◌, subst, arith}
use Rattle.std.specs.Prelude.{◌≢◌}
use Rattle.wt_bag.specs.Bags.{Each}
use Rattle.wt_bag.specs.Choices.{At, Has}
use Rattle.wt_symbol.specs.declared.head.PartCols.TheVariants.{Whole, List as Listed}
use Rattle.wt_form.specs.declared.form.Expr.{Expr}
use Rattle.wt_form.specs.declared.form.Expr.TheVariants.{Of, Null as NullOf}
use Rattle.wt_form.specs.Trees.{Ranges, FormRange, Rel, distinct_of, Conds, Cond, Pred, Join, is_in, not_in}
use Rattle.wt_form.specs.Parts.{ranges_count, ranges_list, conds_list}
use Rattle.wt_form.specs.Known.{Known}
use Rattle.wt_form.specs.Opening.{AllDetermined}
use Rattle.wt_form.specs.Facts.{Joins, IsOver, Determined, by_whole_row, by_columns, by_join, by_parts}
use Rattle.wt_facts.specs.declared.facts.Facts.{Facts}
use Rattle.wt_facts.specs.Facts.{known_of}
use Rattle.wt_not_null.proofs.Nulls.{one_leaf}
use Rattle.wt_not_null.proofs.Respects.{list_law, unique_moves}
use Rattle.wt_determined.specs.Alone.{RangeHeld}
use Rattle.wt_determined.specs.Linked.{KeyOf, OverOther, CondLinks, SomeLinks, Linked, Follows}
use Rattle.wt_determined.proofs.HeldLaws.{held_determined, whole_row_held, columns_held}
use Rattle.wt_determined.proofs.ClosingLaws.{at_taken, of_each}

key_is : (K : Known) (u r : ℕ) (x : Expr) → KeyOf K u r x → (c : ℕ) × (x ≡ Of u 0 (Listed c)) × (K.unique r c ≡ true)
key_is K u r (Of v i (Listed c)) h = (c, ap (λ w. Of w i (Listed c)) h.0 ∙ ap (λ w. Of u w (Listed c)) h.1, h.2)
key_is K u r (Of v i Whole) h = absurd h
key_is K u r (NullOf s c) h = absurd h

over_is : (ws : List ℕ) (u : ℕ) (e : Expr) → OverOther ws u e → (w : ℕ) × IsOver w e × (w ≢ u) × Has w ws
over_is ws u (Of w i c) h = (w, refl, h.0, h.1)
over_is ws u (NullOf s c) h = absurd h

is_over : (ws : List ℕ) (u w : ℕ) (e : Expr) → IsOver w e → w ≢ u → Has w ws → OverOther ws u e
is_over ws u w (Of v i c) o n h = (λ q. n (sym o ∙ q), subst (λ z. Has z ws) (sym o) h)
is_over ws u w (NullOf s c) o n h = absurd o

-- what a linked variable is joined with
abbrev Link : Known → List ℕ → ℕ → ℕ → Cond → Type 0
Link K ws u r q = (c : ℕ) × (e : Expr) × Joins (Of u 0 (Listed c)) e q × (K.unique r c ≡ true) × OverOther ws u e

link_of : (K : Known) (ws : List ℕ) (u r : ℕ) (q : Cond) → CondLinks K ws u r q → Link K ws u r q
link_of K ws u r (Join x y) (inl h) = let k = key_is K u r x h.0 in (k.0, y, inl (k.1, refl), k.2, h.1)
link_of K ws u r (Join x y) (inr h) = let k = key_is K u r y h.0 in (k.0, x, inr (refl, k.1), k.2, h.1)
link_of K ws u r (Pred p x) h = absurd h
link_of K ws u r (is_in x g ts) h = absurd h
link_of K ws u r (not_in x g ts) h = absurd h

of_link : (K : Known) (ws : List ℕ) (u r c : ℕ) (e : Expr) (q : Cond) → Joins (Of u 0 (Listed c)) e q → K.unique r c ≡ true → OverOther ws u e → CondLinks K ws u r q
of_link K ws u r c e (Join x y) (inl (p, o)) k h = inl (subst (KeyOf K u r) (sym p) (refl, refl, k), subst (OverOther ws u) (sym o) h)
of_link K ws u r c e (Join x y) (inr (o, p)) k h = inr (subst (KeyOf K u r) (sym p) (refl, refl, k), subst (OverOther ws u) (sym o) h)
of_link K ws u r c e (Pred p x) j k h = absurd j
of_link K ws u r c e (is_in x g ts) j k h = absurd j
of_link K ws u r c e (not_in x g ts) j k h = absurd j

some_link : (K : Known) (cs : List Cond) (ws : List ℕ) (u r : ℕ) → SomeLinks K cs ws u r → (q : Cond) × Has q cs × Link K ws u r q
some_link K [] ws u r h = absurd h
some_link K (q ∷ cs) ws u r (inl h) = (q, inl refl, link_of K ws u r q h)
some_link K (q ∷ cs) ws u r (inr h) = let s = some_link K cs ws u r h in (s.0, inr s.1, s.2)

link_there : (K : Known) (cs : List Cond) (ws : List ℕ) (u r : ℕ) (q : Cond) → Has q cs → CondLinks K ws u r q → SomeLinks K cs ws u r
link_there K [] ws u r q h l = absurd h
link_there K (p ∷ cs) ws u r q (inl e) l = inl (subst (CondLinks K ws u r) e l)
link_there K (p ∷ cs) ws u r q (inr h) l = inr (link_there K cs ws u r q h l)

-- what a linked variable's leaf and a test say together
pub linked_tells : (K : Known) (rs : List FormRange) (cs : List Cond) (ws : List ℕ) (u r : ℕ) (b : _) → At (λ range. range ≡ Rel r) u rs → ((b ≡ true) ↔ SomeLinks K cs ws u r) → ((b ≡ true) ↔ Linked K rs cs ws u)
linked_tells K rs cs ws u r b at f = (
  λ t. (r, at, f.0 t),
  λ h. f.1 (subst (SomeLinks K cs ws u) (one_leaf rs u h.0 r h.1 at) h.2),
)

at_some : {X : Type 0} (P : X → Type 0) (u : ℕ) (xs : List X) → At P u xs → (x : X) × At (λ y. y ≡ x) u xs × P x
at_some P u [] h = absurd h
at_some P zero (x ∷ xs) h = (x, refl, h)
at_some P (suc u) (x ∷ xs) h = at_some P u xs h

at_this : {X : Type 0} (P : X → Type 0) (u : ℕ) (xs : List X) (x : X) → At (λ y. y ≡ x) u xs → P x → At P u xs
at_this P u [] x h p = absurd h
at_this P zero (y ∷ xs) x h p = subst P (sym h) p
at_this P (suc u) (y ∷ xs) x h p = at_this P u xs x h p

at_below : {X : Type 0} (P : X → Type 0) (u : ℕ) (xs : List X) → At P u xs → u < length xs
at_below P u [] h = absurd h
at_below P zero (x ∷ xs) h = omega arith
at_below P (suc u) (x ∷ xs) h = let l = at_below P u xs h in omega (arith, l)

module _ (facts : Facts) (rs : List FormRange) (cs : List Cond) (ps : List Expr) where
  abbrev K : Known
  K = known_of facts

  -- what follows from determined variables is determined
  pub follows_determined : (ws : List ℕ) → ((v : ℕ) → Has v ws → Determined K rs cs ps v) → (u : ℕ) → Follows facts rs cs ps ws u → Determined K rs cs ps u
  follows_determined ws all u (inl h) = let r = at_some (RangeHeld facts rs cs ps u) u rs h in held_determined facts rs cs ps u r.0 r.1 r.2
  follows_determined ws all u (inr (r, at, links)) =
      let s = some_link K cs ws u r links in
      let k = s.2 in
      let o = over_is ws u k.1 k.4 in
      by_join {w = o.0} {r = r} {c = k.0} {c' = k.0} k.1 s.0 at k.3 ((list_law facts).reflexive k.0) s.1 k.2 o.1 o.2 (all o.0 o.3)

  -- where no variable that is left follows, each determined one is among these
  module _ (ws left : List ℕ) (each : (v : ℕ) → v < length rs → Has v ws ⊎ Has v left) (none : (v : ℕ) → Has v left → Follows facts rs cs ps ws v → ⊥) where
    there : (u : ℕ) → u < length rs → Follows facts rs cs ps ws u → Has u ws
    there u l f = go (each u l)
      where
        go : Has u ws ⊎ Has u left → Has u ws
        go (inl h) = h
        go (inr h) = absurd (none u h f)

    pub determined_there : (u : ℕ) → Determined K rs cs ps u → Has u ws
    determined_there u (by_whole_row {r = r} {c = c} at k h n) = there u (at_below (λ range. range ≡ Rel r) u rs at) (inl (at_this (RangeHeld facts rs cs ps u) u rs (Rel r) at (whole_row_held facts rs cs ps u r c k h n)))
    determined_there u (by_columns {r = r} {c = c} {d = d} at k h w n) = there u (at_below (λ range. range ≡ Rel r) u rs at) (inl (at_this (RangeHeld facts rs cs ps u) u rs (Rel r) at (columns_held facts rs cs ps u r c d k h w n)))
    determined_there u (by_parts h ts at held) = there u (at_below (λ range. range ≡ distinct_of h ts) u rs at) (inl (at_this (RangeHeld facts rs cs ps u) u rs (distinct_of h ts) at held))
    determined_there u (by_join {w = w} {r = r} {c = c} {c' = c'} e q at k same h j o n d) =
        there u (at_below (λ range. range ≡ Rel r) u rs at)
        (inr (r, at, link_there K cs ws u r q h (of_link K ws u r c' e q j (unique_moves facts r c c' ((list_law facts).symmetric c' c same) k) (is_over ws u w e o n (determined_there w d)))))

  -- a variable that is taken from those that are left, as it follows, is determined
  pub taken_determined : (ws ws' left left' : List ℕ) (j u : ℕ) → ws' ≡ ws → left' ≡ left → u ≡ get_or left j u → ((v : ℕ) → Has v ws → Determined K rs cs ps v) → (j < length left') × At (Follows facts rs cs ps ws') j left' → Determined K rs cs ps u
  taken_determined ws ws' left left' j u e d g all (l, at) =
      let h : At (Follows facts rs cs ps ws) j left = subst (λ z. At (Follows facts rs cs ps ws) j z) d (subst (λ z. At (Follows facts rs cs ps z) j left') e at) in
      follows_determined ws all u (at_taken (Follows facts rs cs ps ws) left j u g h)

  pub each_there : (ws ws' left left' : List ℕ) → ws' ≡ ws → left' ≡ left → ((v : ℕ) → v < length rs → Has v ws ⊎ Has v left) → Each (λ u. Follows facts rs cs ps ws' u → ⊥) left' → (u : ℕ) → Determined K rs cs ps u → Has u ws
  each_there ws ws' left left' e d each none u =
      let n = subst (λ z. Each (λ u. Follows facts rs cs ps ws u → ⊥) z) d (subst (λ z. Each (λ u. Follows facts rs cs ps z u → ⊥) left') e none) in
      determined_there ws left each (of_each (λ u. Follows facts rs cs ps ws u → ⊥) left n) u

-- whether all variables are among the determined ones
pub all_tells : (K : Known) (rs : Ranges) (cs : Conds) (ps qs : List Expr) (ds : List Cond) (ws ws' : List ℕ) (n : ℕ) (b : Bool) → n ≡ ranges_count rs → ds ≡ conds_list cs → qs ≡ ps → ws' ≡ ws →
    ((u : ℕ) → (Has u ws ↔ Determined K (ranges_list rs) ds qs u)) → ((b ≡ true) ↔ ((v : ℕ) → v < n → Has v ws')) → ((b ≡ true) ↔ AllDetermined K rs cs ps)
all_tells K rs cs ps qs ds ws ws' n b en ed eq ew exact all = (
  λ t u l. subst (λ z. Determined K (ranges_list rs) (conds_list cs) z u) eq (subst (λ z. Determined K (ranges_list rs) z qs u) ed ((exact u).0 (subst (Has u) ew (all.0 t u (omega (arith, en, l)))))),
  λ h. all.1 (λ v l. subst (Has v) (sym ew) ((exact v).1 (subst (λ z. Determined K (ranges_list rs) z qs v) (sym ed) (subst (λ z. Determined K (ranges_list rs) (conds_list cs) z v) (sym eq) (h v (omega (arith, en, l))))))),
)
