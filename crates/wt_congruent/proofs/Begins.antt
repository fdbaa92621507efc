-- Pairings that begin with given places.
use Rattle.std.proofs.Common.{ℕ, zero, suc, ◌≡◌, ◌-◌, ◌<◌, ◌≤◌, Bool, true, false, ◌&&◌, List, [], ◌∷◌, ◌++◌, length, map, take, drop, get_or, refl, sym, ap, ◌∙◌, subst, arith, inl, inr}
use Rattle.std.proofs.lemmas.List.{take_all}
use Rattle.wt_bag.specs.Bags.{Each}
use Rattle.wt_bag.specs.Choices.{At, drop_at}
use Rattle.wt_form.specs.declared.form.Expr.{Expr}
use Rattle.wt_form.specs.Trees.{Ranges, range_then, FormRange, Conds, no_conds, cond_then, Cond}
use Rattle.wt_form.specs.Known.{Known}
use Rattle.wt_form.specs.Congruent.{RangesSame, RangeSame, CondsSame, CondSame, expr_same, pieces_same}
use Rattle.wt_congruent.specs.Early.{Partnered, Partner, GoesOn}
use Rattle.wt_congruent.proofs.Pairing.{at_put, drop_at-map}

at_dropped : {X : Type 0} (P : X → Type 0) (j i : ℕ) (xs : List X) → At P i (drop_at j xs) → (k : ℕ) × At P k xs
at_dropped P j i [] h = absurd h
at_dropped P zero i (x ∷ xs) h = (suc i, h)
at_dropped P (suc j) zero (x ∷ xs) h = (zero, h)
at_dropped P (suc j) (suc i) (x ∷ xs) h = let r = at_dropped P j i xs h in (suc r.0, r.1)

partnered_more : (K : Known) (ks : List ℕ) (cs : Conds) (ds : List Cond) (j : ℕ) → Partnered K ks cs (drop_at j ds) → Partnered K ks cs ds
partnered_more K ks no_conds ds j h = tt
partnered_more K ks (cond_then c cs) ds j h = (at_dropped (CondSame K ks c) j h.0.0 ds h.0.1, partnered_more K ks cs ds j h.1)

-- conditions that are the same have partners, and are some
pub partners_are : (K : Known) (ks : List ℕ) (cs : Conds) (ds : List Cond) → CondsSame K ks cs ds → Partnered K ks cs ds
partners_are K ks no_conds ds h = tt
partners_are K ks (cond_then c cs) ds h = ((h.0, h.1), partnered_more K ks cs ds h.0 (partners_are K ks cs (drop_at h.0 ds) h.2))

each_all : {X : Type 0} (P Q : X → Type 0) (xs : List X) → ((x : X) → P x → Q x) → Each P xs → Each Q xs
each_all P Q [] more h = tt
each_all P Q (x ∷ xs) more h = (more x h.0, each_all P Q xs more h.1)

each_but : {X : Type 0} (P Q : X → Type 0) (j : ℕ) (xs : List X) → ((x : X) → P x → Q x) → At Q j xs → Each P (drop_at j xs) → Each Q xs
each_but P Q j [] more at h = tt
each_but P Q zero (x ∷ xs) more at h = (at, each_all P Q xs more h)
each_but P Q (suc j) (x ∷ xs) more at h = (more x h.0, each_but P Q j xs more at h.1)

at_maps : {X : Type 0} (P Q : X → Type 0) (j : ℕ) (xs : List X) → ((x : X) → P x → Q x) → At P j xs → At Q j xs
at_maps P Q j [] more h = absurd h
at_maps P Q zero (x ∷ xs) more h = more x h
at_maps P Q (suc j) (x ∷ xs) more h = at_maps P Q j xs more h

pub partners_of : (K : Known) (ks : List ℕ) (cs : Conds) (ds : List Cond) → CondsSame K ks cs ds → Each (Partner K ks cs) ds
partners_of K ks no_conds ds h = subst (Each (Partner K ks no_conds)) (sym h) tt
partners_of K ks (cond_then c cs) ds h =
    each_but (Partner K ks cs) (Partner K ks (cond_then c cs)) h.0 ds (λ d p. inr p) (at_maps (CondSame K ks c) (Partner K ks (cond_then c cs)) h.0 ds (λ d p. inl p) h.1) (partners_of K ks cs (drop_at h.0 ds) h.2)

head_tail : {X : Type 0} (xs : List X) (d : X) → 1 ≤ length xs → xs ≡ get_or xs 0 d ∷ take (length xs - 1) (drop 1 xs)
head_tail [] d l = let bad : ⊥ = omega (arith, l) in absurd bad
head_tail (x ∷ xs) d l = ap (λ ys. x ∷ ys) (sym (take_all (length (x ∷ xs) - 1) xs (omega arith)))

pub tail_each : {X Y : Type 0} (P : Y → Type 0) (f : X → Y) (xs : List X) (d : X) → 1 ≤ length xs → Each P (map f xs) → Each P (map f (take (length xs - 1) (drop 1 xs)))
tail_each P f xs d l h = (subst (λ z. Each P (map f z)) (head_tail xs d l) h).1

one_by_one : (ks : List ℕ) (i : ℕ) (more : List ℕ) → (ks ++ i ∷ []) ++ more ≡ ks ++ i ∷ more
one_by_one [] i more = refl
one_by_one (k ∷ ks) i more = ap (λ l. k ∷ l) (one_by_one ks i more)

pub heads_are : (K : Known) (ks : List ℕ) (xs ys : List Expr) (x y : Expr) → 1 ≤ length xs → 1 ≤ length ys → pieces_same K ks xs ys ≡ true → expr_same K ks (get_or xs 0 x) (get_or ys 0 y) ≡ true
heads_are K ks [] ys x y l m h = let bad : ⊥ = omega (arith, l) in absurd bad
heads_are K ks (x' ∷ xs) [] x y l m h = let bad : ⊥ = omega (arith, m) in absurd bad
heads_are K ks (x' ∷ xs) (y' ∷ ys) x y l m h = first (expr_same K ks x' y') h
  where
    first : (b : Bool) → (b && pieces_same K ks xs ys) ≡ true → b ≡ true
    first true g = refl
    first false g = cc

-- the pairings that begin with ks and one more place
pub longer : (K : Known) (ks : List ℕ) (r : FormRange) (rs : Ranges) (gs : List FormRange) (cs : Conds) (ps : List Expr) (ds : List Cond) (qs : List Expr) →
    ((i : ℕ) × At (RangeSame K r) i gs × GoesOn K (ks ++ i ∷ []) rs (drop_at i gs) cs ps ds qs) → GoesOn K ks (range_then r rs) gs cs ps ds qs
longer K ks r rs gs cs ps ds qs h =
    let same = one_by_one ks h.0 h.2.0 in
    (h.0 ∷ h.2.0, (h.1, h.2.1), subst (λ z. CondsSame K z cs ds) same h.2.2, subst (λ z. pieces_same K z ps qs ≡ true) same h.2.3)

pub shorter : (K : Known) (ks : List ℕ) (r : FormRange) (rs : Ranges) (gs : List FormRange) (cs : Conds) (ps : List Expr) (ds : List Cond) (qs : List Expr) → GoesOn K ks (range_then r rs) gs cs ps ds qs →
    (i : ℕ) × At (RangeSame K r) i gs × GoesOn K (ks ++ i ∷ []) rs (drop_at i gs) cs ps ds qs
shorter K ks r rs gs cs ps ds qs h = go h.0 h.1 h.2 h.3
  where
    go : (more : List ℕ) → RangesSame K more (range_then r rs) gs → CondsSame K (ks ++ more) cs ds → pieces_same K (ks ++ more) ps qs ≡ true →
        (i : ℕ) × At (RangeSame K r) i gs × GoesOn K (ks ++ i ∷ []) rs (drop_at i gs) cs ps ds qs
    go [] a c p = absurd a
    go (i ∷ more) a c p =
        let same = sym (one_by_one ks i more) in
        (i, a.0, (more, a.1, subst (λ z. CondsSame K z cs ds) same c, subst (λ z. pieces_same K z ps qs ≡ true) same p))

-- a place that a pairing goes on with, and one that none goes on with
pub goes_by : {X : Type 0} (K : Known) (f : X → FormRange) (xs zs : List X) (j : ℕ) (x : X) (ks ks' : List ℕ) (r : FormRange) (rs rs' : Ranges) (cs : Conds) (ps : List Expr) (ds : List Cond) (qs : List Expr) →
    rs' ≡ rs → j < length xs → x ≡ get_or xs j x → zs ≡ drop_at j xs → ks' ≡ ks ++ j ∷ [] → RangeSame K r (f x) → GoesOn K ks' rs' (map f zs) cs ps ds qs → GoesOn K ks (range_then r rs) (map f xs) cs ps ds qs
goes_by K f xs zs j x ks ks' r rs rs' cs ps ds qs a l e d k p h =
    let there = subst (λ z. GoesOn K ks' z (map f zs) cs ps ds qs) a h in
    let here = subst (λ z. GoesOn K z rs (map f zs) cs ps ds qs) k there in
    longer K ks r rs (map f xs) cs ps ds qs (j, at_put (RangeSame K r) f xs j x l e p, subst (λ z. GoesOn K (ks ++ j ∷ []) rs z cs ps ds qs) (ap (map f) d ∙ sym (drop_at-map f j xs)) here)

pub goes_there : {X : Type 0} (K : Known) (f : X → FormRange) (xs zs : List X) (j : ℕ) (ks ks' : List ℕ) (rs rs' : Ranges) (cs : Conds) (ps : List Expr) (ds : List Cond) (qs : List Expr) →
    rs' ≡ rs → zs ≡ drop_at j xs → ks' ≡ ks ++ j ∷ [] → GoesOn K (ks ++ j ∷ []) rs (drop_at j (map f xs)) cs ps ds qs → GoesOn K ks' rs' (map f zs) cs ps ds qs
goes_there K f xs zs j ks ks' rs rs' cs ps ds qs a d k h =
    let here = subst (λ z. GoesOn K (ks ++ j ∷ []) rs z cs ps ds qs) (drop_at-map f j xs ∙ sym (ap (map f) d)) h in
    let there = subst (λ z. GoesOn K z rs (map f zs) cs ps ds qs) (sym k) here in
    subst (λ z. GoesOn K ks' z (map f zs) cs ps ds qs) (sym a) there
