-- Places among those that are left.
use Rattle.std.proofs.Common.{◌⊎◌, ℕ, zero, suc, ◌≡◌, ◌+◌, ◌<◌, ◌≤◌, ◌↔◌, Bool, true, List, [], ◌∷◌, ◌++◌, length, map, take, remove, get_or, refl, sym, ap, ◌∙◌, subst, arith, inl, inr, nat_eq, eqb-true}
use Rattle.std.proofs.lemmas.Bool.{cases_order}
use Rattle.std.proofs.lemmas.List.{take_more, take_all}
use Rattle.wt_bag.specs.Choices.{At, Has, drop_at}
use Rattle.wt_bag.proofs.HasLaws.{has_left, has_right, has_split, has_map, has_from_map}
use Rattle.wt_symbol.specs.declared.head.Part.{Part}
use Rattle.wt_form.specs.declared.form.Expr.{Expr}
use Rattle.wt_form.specs.Trees.{Terms, no_terms, term_then, Ranges, range_then, FormRange, distinct_of, Cond, is_in, not_in}
use Rattle.wt_form.specs.Parts.{terms_count, ranges_at, conds_at, pieces_at, terms_without}
use Rattle.wt_form.specs.Known.{Known, heads_same}
use Rattle.wt_form.specs.Congruent.{TermsSame, RangesSame, RangeSame, CondSame, expr_same}
use Rattle.wt_form.specs.Views.{OneTerm, terms_list, terms_from}
use Rattle.wt_congruent.specs.Refs.{TermIs}

pub remove-drop_at : {X : Type 0} (xs : List X) (j : ℕ) → j < length xs → remove xs j ≡ drop_at j xs
remove-drop_at [] j l = let bad : ⊥ = omega arith in absurd bad
remove-drop_at (x ∷ xs) zero l = refl
remove-drop_at (x ∷ xs) (suc j) l = ap (λ l'. x ∷ l') (remove-drop_at xs j (omega arith))

pub at_put : {X Y : Type 0} (P : Y → Type 0) (f : X → Y) (xs : List X) (j : ℕ) (x : X) → j < length xs → x ≡ get_or xs j x → P (f x) → At P j (map f xs)
at_put P f [] j x l e p = let bad : ⊥ = omega arith in absurd bad
at_put P f (y ∷ xs) zero x l e p = subst (λ z. P (f z)) e p
at_put P f (y ∷ xs) (suc j) x l e p = at_put P f xs j x (omega arith) e p

pub at_get : {X Y : Type 0} (P : Y → Type 0) (f : X → Y) (xs : List X) (j : ℕ) (x : X) → x ≡ get_or xs j x → At P j (map f xs) → P (f x)
at_get P f [] j x e h = absurd h
at_get P f (y ∷ xs) zero x e h = subst (λ z. P (f z)) (sym e) h
at_get P f (y ∷ xs) (suc j) x e h = at_get P f xs j x e h

pub at_within : {X Y : Type 0} (P : Y → Type 0) (f : X → Y) (xs : List X) (j : ℕ) → At P j (map f xs) → j < length xs
at_within P f [] j h = absurd h
at_within P f (y ∷ xs) zero h = omega arith
at_within P f (y ∷ xs) (suc j) h = let l = at_within P f xs j h in omega arith

pub drop_at-map : {X Y : Type 0} (f : X → Y) (k : ℕ) (xs : List X) → drop_at k (map f xs) ≡ map f (drop_at k xs)
drop_at-map f k [] = refl
drop_at-map f zero (x ∷ xs) = refl
drop_at-map f (suc k) (x ∷ xs) = ap (λ l. f x ∷ l) (drop_at-map f k xs)

-- none of the first j, and not the next
pub one_more : (P : ℕ → Type 0) (j : ℕ) → ((i : ℕ) → i < j → P i → ⊥) → (P j → ⊥) → (i : ℕ) → i < j + 1 → P i → ⊥
one_more P j before here i l = go (cases_order i j)
  where
    go : (i ≡ j) ⊎ ((i < j) ⊎ (j < i)) → P i → ⊥
    go (inl q) p = here (subst P q p)
    go (inr (inl q)) p = before i q p
    go (inr (inr q)) p = let bad : ⊥ = omega arith in absurd bad

pub at_index : {X Y : Type 0} (P : Y → Type 0) (f : X → Y) (xs : List X) (j n : ℕ) (x : X) → j < n → n ≡ length xs → x ≡ get_or xs j x → P (f x) → At P j (map f xs)
at_index P f xs j n x l e = at_put P f xs j x (omega arith)

-- a partner at place j, with the rest paired among those that are left; and none there
pub hit : {X Y Z : Type 0} (P : Y → Type 0) (Q : Z → List Y → Type 0) (f : X → Y) (xs fewer : List X) (j : ℕ) (x : X) (z z' : Z) → z' ≡ z → j < length xs → x ≡ get_or xs j x → fewer ≡ drop_at j xs → P (f x) → Q z' (map f fewer) → (i : ℕ) × At P i (map f xs) × Q z (drop_at i (map f xs))
hit P Q f xs fewer j x z z' zz l e d p q = (j, at_put P f xs j x l e p, subst (λ y. Q y (drop_at j (map f xs))) zz (subst (Q z') (ap (map f) d ∙ sym (drop_at-map f j xs)) q))

pub miss_first : {X Y : Type 0} (P : Y → Type 0) (Q : List Y → Type 0) (f : X → Y) (xs : List X) (j : ℕ) (x : X) → x ≡ get_or xs j x → (P (f x) → ⊥) → (At P j (map f xs) × Q (drop_at j (map f xs))) → ⊥
miss_first P Q f xs j x e n h = n (at_get P f xs j x e h.0)

pub miss_rest : {X Y Z : Type 0} (P : Y → Type 0) (Q : Z → List Y → Type 0) (f : X → Y) (xs fewer : List X) (j : ℕ) (z z' : Z) → z' ≡ z → fewer ≡ drop_at j xs → (Q z' (map f fewer) → ⊥) → (At P j (map f xs) × Q z (drop_at j (map f xs))) → ⊥
miss_rest P Q f xs fewer j z z' zz d n h = n (subst (λ y. Q y (map f fewer)) (sym zz) (subst (Q z) (drop_at-map f j xs ∙ ap (map f) (sym d)) h.1))

pub no_truth : (b : Bool) (A : Type 0) → (b ≡ true → ⊥) → (A → b ≡ true) → A → ⊥
no_truth b A n t a = n (t a)

-- the lists that begin with one of these places and go on as Q asks
abbrev pub Paired_by : (ℕ → List ℕ → Type 0) → List ℕ → List (List ℕ) → Type 0
Paired_by Q seen out = (ks : List ℕ) → (Has ks out ↔ ((i : ℕ) × Has i seen × (is : List ℕ) × (ks ≡ i ∷ is) × Q i is))

pub paired_more : (Q : ℕ → List ℕ → Type 0) (all : List ℕ) (n j : ℕ) (out out' tails : List (List ℕ)) → n < length all → j ≡ get_or all n j → out' ≡ out ++ map (λ ks. j ∷ ks) tails →
    ((ks : List ℕ) → (Has ks tails ↔ Q j ks)) → Paired_by Q (take n all) out → Paired_by Q (take (n + 1) all) out'
paired_more Q all n j out out' tails l e o t before ks = (there, back)
  where
    longer : take (n + 1) all ≡ take n all ++ j ∷ []
    longer = take_more all n j l ∙ ap (λ k. take n all ++ k ∷ []) (sym e)

    Then : List ℕ → Type 0
    Then seen = (i : ℕ) × Has i seen × (is : List ℕ) × (ks ≡ i ∷ is) × Q i is

    there_split : Has ks out ⊎ Has ks (map (λ ks. j ∷ ks) tails) → Then (take n all ++ j ∷ [])
    there_split (inl h) = let r = (before ks).0 h in (r.0, has_left r.0 (take n all) (j ∷ []) r.1, r.2, r.3, r.4)
    there_split (inr h) = let r = has_from_map ks (λ ks. j ∷ ks) tails h in (j, has_right j (take n all) (j ∷ []) (inl refl), r.0, r.2, (t r.0).0 r.1)

    there : Has ks out' → Then (take (n + 1) all)
    there h = subst Then (sym longer) (there_split (has_split ks out (map (λ ks. j ∷ ks) tails) (subst (Has ks) o h)))

    last : (i : ℕ) → Has i (j ∷ []) → i ≡ j
    last i (inl q) = q
    last i (inr h) = absurd h

    back_split : (i : ℕ) (is : List ℕ) → ks ≡ i ∷ is → Q i is → Has i (take n all) ⊎ Has i (j ∷ []) → Has ks (out ++ map (λ ks. j ∷ ks) tails)
    back_split i is q p (inl h) = has_left ks out _ ((before ks).1 (i, h, is, q, p))
    back_split i is q p (inr h) =
        let same = last i h in
        has_right ks out _ (subst (λ k. Has k (map (λ ks. j ∷ ks) tails)) (sym (q ∙ ap (λ k. k ∷ is) same)) (has_map is (λ ks. j ∷ ks) tails ((t is).1 (subst (λ k. Q k is) same p))))

    back : Then (take (n + 1) all) → Has ks out'
    back h = let g = subst Then longer h in subst (Has ks) (sym o) (back_split g.0 g.2 g.3 g.4 (has_split g.0 (take n all) (j ∷ []) g.1))

pub has_at : {X : Type 0} (xs : List X) (n : ℕ) (x : X) → n < length xs → x ≡ get_or xs n x → Has x xs
has_at [] n x l e = let bad : ⊥ = omega arith in absurd bad
has_at (y ∷ xs) zero x l e = inl e
has_at (y ∷ xs) (suc n) x l e = inr (has_at xs n x (omega arith) e)

pub all_paired : (K : Known) (r : FormRange) (rs : Ranges) (gs : List FormRange) (all : List ℕ) (n : ℕ) (out : List (List ℕ)) → length all ≤ n →
    ((j : ℕ) → (Has j all ↔ At (RangeSame K r) j gs)) → Paired_by (λ i is. RangesSame K is rs (drop_at i gs)) (take n all) out → (ks : List ℕ) → (Has ks out ↔ RangesSame K ks (range_then r rs) gs)
all_paired K r rs gs all n out l partners paired ks = (there ks, back ks)
  where
    whole : take n all ≡ all
    whole = take_all n all l

    there : (ks : List ℕ) → Has ks out → RangesSame K ks (range_then r rs) gs
    there ks h = let p = (paired ks).0 h in
        subst (λ k. RangesSame K k (range_then r rs) gs) (sym p.3) ((partners p.0).0 (subst (Has p.0) whole p.1), p.4)

    back : (ks : List ℕ) → RangesSame K ks (range_then r rs) gs → Has ks out
    back [] h = absurd h
    back (k ∷ ks) h = (paired (k ∷ ks)).1 (k, subst (Has k) (sym whole) ((partners k).1 h.0), ks, refl, h.1)

-- the places below j that have the property, and one more place
pub partner_there : (P : ℕ → Type 0) (j : ℕ) (out out' : List ℕ) → out' ≡ out ++ j ∷ [] → P j → ((i : ℕ) → (Has i out ↔ ((i < j) × P i))) → (i : ℕ) → (Has i out' ↔ ((i < j + 1) × P i))
partner_there P j out out' o p before i = (λ h. split (has_split i out (j ∷ []) (subst (Has i) o h)), λ h. subst (Has i) (sym o) (back (cases_order i j) h.0 h.1))
  where
    last : Has i (j ∷ []) → i ≡ j
    last (inl q) = q
    last (inr h) = absurd h

    split : Has i out ⊎ Has i (j ∷ []) → (i < j + 1) × P i
    split (inl h) = let b = (before i).0 h in (omega (arith, b.0), b.1)
    split (inr h) = let q = last h in (omega (arith, q), subst P (sym q) p)

    back : (i ≡ j) ⊎ ((i < j) ⊎ (j < i)) → i < j + 1 → P i → Has i (out ++ j ∷ [])
    back (inl q) l pi = has_right i out (j ∷ []) (inl q)
    back (inr (inl q)) l pi = has_left i out (j ∷ []) ((before i).1 (q, pi))
    back (inr (inr q)) l pi = let bad : ⊥ = omega arith in absurd bad

pub partner_absent : (P : ℕ → Type 0) (j : ℕ) (out out' : List ℕ) → out' ≡ out → (P j → ⊥) → ((i : ℕ) → (Has i out ↔ ((i < j) × P i))) → (i : ℕ) → (Has i out' ↔ ((i < j + 1) × P i))
partner_absent P j out out' o n before i = (λ h. let b = (before i).0 (subst (Has i) o h) in (omega (arith, b.0), b.1), λ h. subst (Has i) (sym o) (back (cases_order i j) h.0 h.1))
  where
    back : (i ≡ j) ⊎ ((i < j) ⊎ (j < i)) → i < j + 1 → P i → Has i out
    back (inl q) l pi = absurd (n (subst P q pi))
    back (inr (inl q)) l pi = (before i).1 (q, pi)
    back (inr (inr q)) l pi = let bad : ⊥ = omega arith in absurd bad

-- terms as a list, and back
pub terms_there : (ts : Terms) → terms_from (terms_list ts) ≡ ts
terms_there no_terms = refl
terms_there (term_then rs cs ps ts) = ap (term_then rs cs ps) (terms_there ts)

pub whole_terms : (K : Known) (holds : Bool) (ts us : Terms) (zs refs : List OneTerm) → zs ≡ refs → refs ≡ terms_list us → ((holds ≡ true) ↔ TermsSame K ts (terms_from zs)) → ((holds ≡ true) ↔ TermsSame K ts us)
whole_terms K holds ts us zs refs a b h = subst (λ u. (holds ≡ true) ↔ TermsSame K ts u) (ap terms_from (a ∙ b) ∙ terms_there us) h

pub with_fact : (holds : Bool) (A B : Type 0) → A → ((holds ≡ true) ↔ B) → ((holds ≡ true) ↔ (A × B))
with_fact holds A B a h = (λ y. (a, h.0 y), λ p. h.1 p.1)

at_from : (ts : List OneTerm) (k : ℕ) (P : OneTerm → Type 0) → At P k ts → P (record { ranges = ranges_at k (terms_from ts); conds = conds_at k (terms_from ts); pieces = pieces_at k (terms_from ts) })
at_from [] k P h = absurd h
at_from (t ∷ ts) zero P h = h
at_from (t ∷ ts) (suc k) P h = at_from ts k P h

at_back : (ts : List OneTerm) (k : ℕ) (P : OneTerm → Type 0) → k < terms_count (terms_from ts) → P (record { ranges = ranges_at k (terms_from ts); conds = conds_at k (terms_from ts); pieces = pieces_at k (terms_from ts) }) → At P k ts
at_back [] k P l h = let bad : ⊥ = omega arith in absurd bad
at_back (t ∷ ts) zero P l h = h
at_back (t ∷ ts) (suc k) P l h = at_back ts k P (omega arith) h

count_at : (ts : List OneTerm) (k : ℕ) (P : OneTerm → Type 0) → At P k ts → k < terms_count (terms_from ts)
count_at [] k P h = absurd h
count_at (t ∷ ts) zero P h = omega arith
count_at (t ∷ ts) (suc k) P h = let l = count_at ts k P h in omega arith

without_from : (ts : List OneTerm) (k : ℕ) → terms_without k (terms_from ts) ≡ terms_from (drop_at k ts)
without_from [] k = refl
without_from (t ∷ ts) zero = refl
without_from (t ∷ ts) (suc k) = ap (term_then t.ranges t.conds t.pieces) (without_from ts k)

-- the first term takes a partner, and the rest the others
pub terms_hit : (K : Known) (t : OneTerm) (ts : Terms) (us : List OneTerm) → ((k : ℕ) × At (TermIs K t) k us × TermsSame K ts (terms_from (drop_at k us))) → TermsSame K (term_then t.ranges t.conds t.pieces ts) (terms_from us)
terms_hit K t ts us h =
    let m = at_from us h.0 (TermIs K t) h.1 in
    (h.0, m.0, count_at us h.0 (TermIs K t) h.1, m.1, m.2, m.3, subst (TermsSame K ts) (sym (without_from us h.0)) h.2)

pub terms_taken : (K : Known) (t : OneTerm) (ts : Terms) (us : List OneTerm) → TermsSame K (term_then t.ranges t.conds t.pieces ts) (terms_from us) → ((k : ℕ) × At (TermIs K t) k us × TermsSame K ts (terms_from (drop_at k us)))
terms_taken K t ts us h =
    (h.0, at_back us h.0 (TermIs K t) h.2 (h.1, h.3, h.4, h.5), subst (TermsSame K ts) (without_from us h.0) h.6)

abbrev NoTerm : Terms → Type 0
NoTerm no_terms = Unit {0}
NoTerm (term_then rs cs ps ts) = ⊥

pub terms_none : (us : List OneTerm) → terms_from us ≡ no_terms → us ≡ []
terms_none [] e = refl
terms_none (t ∷ us) e = absurd (subst NoTerm (sym e) tt)

-- the ways up to a place
pub no_way : {X : Type 0} (P : X → Type 0) (ways : List X) (n : ℕ) (x : X) → n < length ways → x ≡ get_or ways n x → (P x → ⊥) → ((k : X) → Has k (take n ways) → P k → ⊥) → (k : X) → Has k (take (n + 1) ways) → P k → ⊥
no_way P ways n x l e none before k h p = go (has_split k (take n ways) (x ∷ []) (subst (Has k) (take_more ways n x l ∙ ap (λ z. take n ways ++ z ∷ []) (sym e)) h))
  where
    go : Has k (take n ways) ⊎ Has k (x ∷ []) → ⊥
    go (inl g) = before k g p
    go (inr (inl q)) = none (subst P q p)
    go (inr (inr g)) = absurd g

pub whole_in : (K : Known) (ks : List ℕ) (holds : Bool) (c d : Cond) (x y : Expr) (h h' : List Part) (ts ts' us : Terms) (zs refs : List OneTerm) → c ≡ is_in x h ts → d ≡ is_in y h' us → expr_same K ks x y ≡ true → zs ≡ refs → refs ≡ terms_list us → ts' ≡ ts →
    ((holds ≡ true) ↔ TermsSame K ts' (terms_from zs)) → ((holds ≡ true) ↔ CondSame K ks c d)
whole_in K ks holds c d x y h h' ts ts' us zs refs a b e o r t w =
    subst (λ k. (holds ≡ true) ↔ CondSame K ks k d) (sym a) (subst (λ k. (holds ≡ true) ↔ CondSame K ks (is_in x h ts) k) (sym b)
    (with_fact holds (expr_same K ks x y ≡ true) (TermsSame K ts us) e (whole_terms K holds ts us zs refs o r (subst (λ k. (holds ≡ true) ↔ TermsSame K k (terms_from zs)) t w))))

pub whole_not_in : (K : Known) (ks : List ℕ) (holds : Bool) (c d : Cond) (x y : Expr) (h h' : List Part) (ts ts' us : Terms) (zs refs : List OneTerm) → c ≡ not_in x h ts → d ≡ not_in y h' us → expr_same K ks x y ≡ true → zs ≡ refs → refs ≡ terms_list us → ts' ≡ ts →
    ((holds ≡ true) ↔ TermsSame K ts' (terms_from zs)) → ((holds ≡ true) ↔ CondSame K ks c d)
whole_not_in K ks holds c d x y h h' ts ts' us zs refs a b e o r t w =
    subst (λ k. (holds ≡ true) ↔ CondSame K ks k d) (sym a) (subst (λ k. (holds ≡ true) ↔ CondSame K ks (not_in x h ts) k) (sym b)
    (with_fact holds (expr_same K ks x y ≡ true) (TermsSame K ts us) e (whole_terms K holds ts us zs refs o r (subst (λ k. (holds ≡ true) ↔ TermsSame K k (terms_from zs)) t w))))

pub whole_distinct : (K : Known) (holds : Bool) (r s : FormRange) (h h' : List Part) (ts ts' us : Terms) (zs refs : List OneTerm) → r ≡ distinct_of h ts → s ≡ distinct_of h' us → heads_same K h h' ≡ true → zs ≡ refs → refs ≡ terms_list us → ts' ≡ ts →
    ((holds ≡ true) ↔ TermsSame K ts' (terms_from zs)) → ((holds ≡ true) ↔ RangeSame K r s)
whole_distinct K holds r s h h' ts ts' us zs refs a b e o q t w =
    subst (λ k. (holds ≡ true) ↔ RangeSame K k s) (sym a) (subst (λ k. (holds ≡ true) ↔ RangeSame K (distinct_of h ts) k) (sym b)
    (with_fact holds (heads_same K h h' ≡ true) (TermsSame K ts us) e (whole_terms K holds ts us zs refs o q (subst (λ k. (holds ≡ true) ↔ TermsSame K k (terms_from zs)) t w))))

pub tails_are : {X : Type 0} (K : Known) (rs rs' : Ranges) (f : X → FormRange) (left fewer zs : List X) (j : ℕ) (tails : List (List ℕ)) → rs' ≡ rs → zs ≡ fewer → fewer ≡ drop_at j left →
    ((ks : List ℕ) → (Has ks tails ↔ RangesSame K ks rs' (map f zs))) → (ks : List ℕ) → (Has ks tails ↔ RangesSame K ks rs (drop_at j (map f left)))
tails_are K rs rs' f left fewer zs j tails r z d h ks =
    subst (λ k. Has ks tails ↔ RangesSame K ks k (drop_at j (map f left))) r (subst (λ k. Has ks tails ↔ RangesSame K ks rs' k) (ap (map f) (z ∙ d) ∙ sym (drop_at-map f j left)) (h ks))

pub no_terms_left : (holds : Bool) (us : List OneTerm) → ((holds ≡ true) ↔ (us ≡ [])) → ((holds ≡ true) ↔ (terms_from us ≡ no_terms))
no_terms_left holds us h = (λ y. ap terms_from (h.0 y), λ e. h.1 (terms_none us e))

pub empty_is : {X : Type 0} (f : X → OneTerm) (xs : List X) (holds : Bool) → holds ≡ nat_eq (length xs) 0 → ((holds ≡ true) ↔ (map f xs ≡ []))
empty_is f [] holds h = (λ y. refl, λ e. h)
empty_is f (x ∷ xs) holds h = (λ y. let q = eqb-true (length (x ∷ xs)) 0 (sym h ∙ y) in let bad : ⊥ = omega (arith, q) in absurd bad, λ e. let l = ap length e in let bad : ⊥ = omega (arith, l) in absurd bad)
