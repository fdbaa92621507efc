-- Lists inside a form split at a place.
use Rattle.std.proofs.Common.{ℕ, zero, suc, ◌+◌, ◌<◌, ◌≡◌, List, [], ◌∷◌, take, length, refl, ap, subst, arith}
use Rattle.wt_bag.specs.Choices.{At, drop_at}
use Rattle.wt_form.specs.Trees.{Terms, no_terms, term_then, Ranges, no_ranges, range_then, FormRange, Conds, no_conds, cond_then, Cond}
use Rattle.wt_form.specs.Parts.{terms_append, ranges_append, conds_append, ranges_count, ranges_list, conds_list}
use Rattle.wt_form.specs.Views.{OneTerm, terms_from, terms_list}
use Rattle.wt_places.specs.Lists.{conds_from, ranges_from}

pub conds_there : (cs : Conds) → conds_from (conds_list cs) ≡ cs
conds_there no_conds = refl
conds_there (cond_then c cs) = ap (cond_then c) (conds_there cs)

pub conds_back : (cs : List Cond) → conds_list (conds_from cs) ≡ cs
conds_back [] = refl
conds_back (c ∷ cs) = ap (λ l. c ∷ l) (conds_back cs)

pub ranges_there : (rs : Ranges) → ranges_from (ranges_list rs) ≡ rs
ranges_there no_ranges = refl
ranges_there (range_then r rs) = ap (range_then r) (ranges_there rs)

pub terms_there : (ts : Terms) → terms_from (terms_list ts) ≡ ts
terms_there no_terms = refl
terms_there (term_then rs cs ps ts) = ap (term_then rs cs ps) (terms_there ts)

pub conds_append_assoc : (a b c : Conds) → conds_append (conds_append a b) c ≡ conds_append a (conds_append b c)
conds_append_assoc no_conds b c = refl
conds_append_assoc (cond_then d a) b c = ap (cond_then d) (conds_append_assoc a b c)

-- a place of conditions splits them, and conditions around one give its place
pub cond_split : (cs : Conds) (j : ℕ) (P : Cond → Type 0) → At P j (conds_list cs) →
    (b : Conds) × (c : Cond) × (a : Conds) × (cs ≡ conds_append b (cond_then c a)) × P c × (conds_list b ≡ take j (conds_list cs)) × (conds_from (drop_at j (conds_list cs)) ≡ conds_append b a)
cond_split no_conds j P h = absurd h
cond_split (cond_then c cs) zero P h = (no_conds, c, cs, refl, h, refl, conds_there cs)
cond_split (cond_then c cs) (suc j) P h =
    let r = cond_split cs j P h in
    (cond_then c r.0, r.1, r.2, ap (cond_then c) r.3, r.4, ap (λ l. c ∷ l) r.5, ap (cond_then c) r.6)

pub split_cond : (b : Conds) (c : Cond) (a : Conds) (P : Cond → Type 0) → P c →
    (j : ℕ) × (j < length (conds_list (conds_append b (cond_then c a)))) × At P j (conds_list (conds_append b (cond_then c a))) × (take j (conds_list (conds_append b (cond_then c a))) ≡ conds_list b)
    × (conds_from (drop_at j (conds_list (conds_append b (cond_then c a)))) ≡ conds_append b a)
split_cond no_conds c a P p = (0, omega arith, p, refl, conds_there a)
split_cond (cond_then d b) c a P p =
    let r = split_cond b c a P p in
    let l = r.1 in
    (suc r.0, omega (arith, l), r.2, ap (λ z. d ∷ z) r.3, ap (cond_then d) r.4)

-- the same for ranges
pub range_split : (rs : Ranges) (v : ℕ) (P : FormRange → Type 0) → At P v (ranges_list rs) →
    (b : Ranges) × (r : FormRange) × (a : Ranges) × (rs ≡ ranges_append b (range_then r a)) × P r × (ranges_count b ≡ v) × (ranges_from (drop_at v (ranges_list rs)) ≡ ranges_append b a)
range_split no_ranges v P h = absurd h
range_split (range_then r rs) zero P h = (no_ranges, r, rs, refl, h, refl, ranges_there rs)
range_split (range_then r rs) (suc v) P h =
    let s = range_split rs v P h in
    let e = s.5 in
    (range_then r s.0, s.1, s.2, ap (range_then r) s.3, s.4, omega (arith, e), ap (range_then r) s.6)

pub split_range : (b : Ranges) (r : FormRange) (a : Ranges) (P : FormRange → Type 0) → P r →
    (ranges_count b < length (ranges_list (ranges_append b (range_then r a)))) × At P (ranges_count b) (ranges_list (ranges_append b (range_then r a)))
    × (ranges_from (drop_at (ranges_count b) (ranges_list (ranges_append b (range_then r a)))) ≡ ranges_append b a)
split_range no_ranges r a P p = (omega arith, p, ranges_there a)
split_range (range_then s b) r a P p =
    let h = split_range b r a P p in
    let l = h.0 in
    let rest = ranges_append b (range_then r a) in
    let up : suc (ranges_count b) ≡ 1 + ranges_count b = omega arith in (
      omega (arith, l),
      subst (λ n. At P n (s ∷ ranges_list rest)) up h.1,
      subst (λ n. ranges_from (drop_at n (s ∷ ranges_list rest)) ≡ range_then s (ranges_append b a)) up (ap (range_then s) h.2),
    )

-- the same for terms
pub term_split : (ts : Terms) (k : ℕ) (P : OneTerm → Type 0) → At P k (terms_list ts) →
    (b : Terms) × (t : OneTerm) × (a : Terms) × (ts ≡ terms_append b (term_then t.ranges t.conds t.pieces a)) × P t × (terms_from (drop_at k (terms_list ts)) ≡ terms_append b a)
term_split no_terms k P h = absurd h
term_split (term_then rs cs ps ts) zero P h = (no_terms, record { ranges = rs; conds = cs; pieces = ps }, ts, refl, h, terms_there ts)
term_split (term_then rs cs ps ts) (suc k) P h =
    let r = term_split ts k P h in
    (term_then rs cs ps r.0, r.1, r.2, ap (term_then rs cs ps) r.3, r.4, ap (term_then rs cs ps) r.5)

pub split_term : (b : Terms) (t : OneTerm) (a : Terms) (P : OneTerm → Type 0) → P t →
    (k : ℕ) × (k < length (terms_list (terms_append b (term_then t.ranges t.conds t.pieces a)))) × At P k (terms_list (terms_append b (term_then t.ranges t.conds t.pieces a)))
    × (terms_from (drop_at k (terms_list (terms_append b (term_then t.ranges t.conds t.pieces a)))) ≡ terms_append b a)
split_term no_terms t a P p = (0, omega arith, p, terms_there a)
split_term (term_then rs cs ps b) t a P p =
    let r = split_term b t a P p in
    let l = r.1 in
    (suc r.0, omega (arith, l), r.2, ap (term_then rs cs ps) r.3)
