-- What stands at the places of short lists.
use Rattle.std.proofs.Common.{◌≡◌, ℕ, zero, suc, ◌<◌, true, false, List, [], ◌∷◌, refl, ap, ◌∙◌, subst, inl, inr, ◌⊎◌, arith}
use Rattle.wt_bag.specs.Choices.{At}
use Rattle.wt_symbol.specs.declared.head.PartCols.TheVariants.{List as Listed}
use Rattle.wt_form.specs.declared.form.Expr.{Expr}
use Rattle.wt_form.specs.declared.form.Expr.TheVariants.{Of}
use Rattle.wt_form.specs.Trees.{Ranges, no_ranges, range_then, FormRange, Rel, Conds, no_conds, cond_then, Cond}
use Rattle.wt_form.specs.Parts.{one_term, ranges_append, ranges_count, ranges_list, ranges_at, conds_append, conds_list, conds_at, pieces_at}
use Rattle.wt_form.specs.Known.{Known}
use Rattle.wt_form.specs.Congruent.{pieces_same, TermsSame, RangesSame, RangeSame, CondsSame, CondSame}
use Rattle.wt_form.specs.Places.{CondAt, others, RangeAt}
use Rattle.wt_form.specs.Worked.{list, only_cond}
use Rattle.wt_worked_steps.specs.Shapes.{two_conds}

pub conflict : false ≡ true → ⊥
conflict e = cc

no_more : (c : Cond) (cs : Conds) → no_conds ≡ cond_then c cs → ⊥
no_more c cs e = cc

same_conds : (c d : Cond) (cs ds : Conds) → cond_then c cs ≡ cond_then d ds → (c ≡ d) × (cs ≡ ds)
same_conds c d cs ds e = ((let z : c ≡ d = cc in z), (let z : cs ≡ ds = cc in z))

same_ranges : (r s : FormRange) (rs ss : Ranges) → range_then r rs ≡ range_then s ss → (r ≡ s) × (rs ≡ ss)
same_ranges r s rs ss e = ((let z : r ≡ s = cc in z), (let z : rs ≡ ss = cc in z))

no_more_ranges : (r : FormRange) (rs : Ranges) → no_ranges ≡ range_then r rs → ⊥
no_more_ranges r rs e = cc

pub list_parts : (v a y b : ℕ) → list v a ≡ Of y 0 (Listed b) → (v ≡ y) × (a ≡ b)
list_parts v a y b q = ((let z : v ≡ y = cc in z), (let z : a ≡ b = cc in z))

pub leaf_parts : (r s : ℕ) → Rel r ≡ Rel s → r ≡ s
leaf_parts r s q = cc

-- the one condition, and nothing around it
pub alone : (c d : Cond) (before after : Conds) → only_cond c ≡ conds_append before (cond_then d after) → (c ≡ d) × (no_conds ≡ before) × (no_conds ≡ after)
alone c d no_conds after e =
    let here = same_conds c d no_conds after e in
    (here.0, refl, here.1)
alone c d (cond_then b no_conds) after e = absurd (no_more d after (same_conds c b no_conds (cond_then d after) e).1)
alone c d (cond_then b (cond_then b' bs)) after e = absurd (no_more b' (conds_append bs (cond_then d after)) (same_conds c b no_conds (cond_then b' (conds_append bs (cond_then d after))) e).1)

-- the one condition, and nothing beside it
pub only_place : (c d : Cond) (p : CondAt (only_cond c) d) → (c ≡ d) × (no_conds ≡ others p)
only_place c d p =
    let here = alone c d p.before p.after p.is in
    (here.0, here.2 ∙ ap (λ b. conds_append b p.after) here.1)

-- one of two conditions, and the other one beside it
pub one_place : (c c' d : Cond) (p : CondAt (two_conds c c') d) → ((c ≡ d) × (only_cond c' ≡ others p)) ⊎ ((c' ≡ d) × (only_cond c ≡ others p))
one_place c c' d p = go p.before p.after p.is
  where
    go : (before after : Conds) → two_conds c c' ≡ conds_append before (cond_then d after) → ((c ≡ d) × (only_cond c' ≡ conds_append before after)) ⊎ ((c' ≡ d) × (only_cond c ≡ conds_append before after))
    go no_conds after e = inl (same_conds c d (only_cond c') after e)
    go (cond_then b no_conds) after e =
        let first = same_conds c b (only_cond c') (cond_then d after) e in
        let second = same_conds c' d no_conds after first.1 in
        inr (second.0, ap (λ z. cond_then z no_conds) first.0 ∙ ap (cond_then b) second.1)
    go (cond_then b (cond_then b' no_conds)) after e =
        absurd (no_more d after (same_conds c' b' no_conds (cond_then d after) (same_conds c b (only_cond c') (cond_then b' (cond_then d after)) e).1).1)
    go (cond_then b (cond_then b' (cond_then b'' bs))) after e =
        absurd (no_more b'' (conds_append bs (cond_then d after)) (same_conds c' b' no_conds (cond_then b'' (conds_append bs (cond_then d after))) (same_conds c b (only_cond c') (cond_then b' (cond_then b'' (conds_append bs (cond_then d after)))) e).1).1)

-- two of two conditions are the first and the second
pub two_places : (c c' d d' : Cond) (before between after : Conds) → two_conds c c' ≡ conds_append before (cond_then d (conds_append between (cond_then d' after))) → (c ≡ d) × (c' ≡ d')
two_places c c' d d' no_conds no_conds after e =
    let first = same_conds c d (only_cond c') (cond_then d' after) e in
    (first.0, (same_conds c' d' no_conds after first.1).0)
two_places c c' d d' no_conds (cond_then b no_conds) after e =
    absurd (no_more d' after (same_conds c' b no_conds (cond_then d' after) (same_conds c d (only_cond c') (cond_then b (cond_then d' after)) e).1).1)
two_places c c' d d' no_conds (cond_then b (cond_then b' bs)) after e =
    absurd (no_more b' (conds_append bs (cond_then d' after)) (same_conds c' b no_conds (cond_then b' (conds_append bs (cond_then d' after))) (same_conds c d (only_cond c') (cond_then b (cond_then b' (conds_append bs (cond_then d' after)))) e).1).1)
two_places c c' d d' (cond_then a no_conds) no_conds after e =
    absurd (no_more d' after (same_conds c' d no_conds (cond_then d' after) (same_conds c a (only_cond c') (cond_then d (cond_then d' after)) e).1).1)
two_places c c' d d' (cond_then a no_conds) (cond_then b bs) after e =
    absurd (no_more b (conds_append bs (cond_then d' after)) (same_conds c' d no_conds (cond_then b (conds_append bs (cond_then d' after))) (same_conds c a (only_cond c') (cond_then d (cond_then b (conds_append bs (cond_then d' after)))) e).1).1)
two_places c c' d d' (cond_then a (cond_then a' no_conds)) between after e =
    absurd (no_more d (conds_append between (cond_then d' after)) (same_conds c' a' no_conds (cond_then d (conds_append between (cond_then d' after))) (same_conds c a (only_cond c') (cond_then a' (cond_then d (conds_append between (cond_then d' after)))) e).1).1)
two_places c c' d d' (cond_then a (cond_then a' (cond_then a'' xs))) between after e =
    absurd (no_more a'' (conds_append xs (cond_then d (conds_append between (cond_then d' after)))) (same_conds c' a' no_conds (cond_then a'' (conds_append xs (cond_then d (conds_append between (cond_then d' after))))) (same_conds c a (only_cond c') (cond_then a' (cond_then a'' (conds_append xs (cond_then d (conds_append between (cond_then d' after)))))) e).1).1)

-- the one range
pub only_range : (r s : FormRange) (before after : Ranges) → range_then r no_ranges ≡ ranges_append before (range_then s after) → (r ≡ s) × (ranges_count before ≡ 0)
only_range r s no_ranges after e = ((same_ranges r s no_ranges after e).0, refl)
only_range r s (range_then b no_ranges) after e = absurd (no_more_ranges s after (same_ranges r b no_ranges (range_then s after) e).1)
only_range r s (range_then b (range_then b' bs)) after e = absurd (no_more_ranges b' (ranges_append bs (range_then s after)) (same_ranges r b no_ranges (range_then b' (ranges_append bs (range_then s after))) e).1)

-- one of two ranges
pub one_of_ranges : (r r' s : FormRange) (p : RangeAt (range_then r (range_then r' no_ranges)) s) → ((r ≡ s) × (ranges_count p.before ≡ 0)) ⊎ ((r' ≡ s) × (ranges_count p.before ≡ 1))
one_of_ranges r r' s p = go p.before p.after p.is
  where
    go : (before after : Ranges) → range_then r (range_then r' no_ranges) ≡ ranges_append before (range_then s after) → ((r ≡ s) × (ranges_count before ≡ 0)) ⊎ ((r' ≡ s) × (ranges_count before ≡ 1))
    go no_ranges after e = inl ((same_ranges r s (range_then r' no_ranges) after e).0, refl)
    go (range_then b no_ranges) after e = inr ((same_ranges r' s no_ranges after (same_ranges r b (range_then r' no_ranges) (range_then s after) e).1).0, refl)
    go (range_then b (range_then b' no_ranges)) after e =
        absurd (no_more_ranges s after (same_ranges r' b' no_ranges (range_then s after) (same_ranges r b (range_then r' no_ranges) (range_then b' (range_then s after)) e).1).1)
    go (range_then b (range_then b' (range_then b'' bs))) after e =
        absurd (no_more_ranges b'' (ranges_append bs (range_then s after)) (same_ranges r' b' no_ranges (range_then b'' (ranges_append bs (range_then s after))) (same_ranges r b (range_then r' no_ranges) (range_then b' (range_then b'' (ranges_append bs (range_then s after)))) e).1).1)

-- forms of one term with one variable are congruent where the range, the conditions and the pieces are the same
pub same_parts : (K : Known) (r r' : FormRange) (cs cs' : Conds) (ps ps' : List Expr) → TermsSame K (one_term (range_then r no_ranges) cs ps) (one_term (range_then r' no_ranges) cs' ps') →
    RangeSame K r r' × CondsSame K (0 ∷ []) cs (conds_list cs') × (pieces_same K (0 ∷ []) ps ps' ≡ true)
same_parts K r r' cs cs' ps ps' h = go h.0 h.1 h.2 h.3 h.4 h.5
  where
    go : (k : ℕ) (ks : List ℕ) → k < 1 → RangesSame K ks (range_then r no_ranges) (ranges_list (ranges_at k (one_term (range_then r' no_ranges) cs' ps'))) → CondsSame K ks cs (conds_list (conds_at k (one_term (range_then r' no_ranges) cs' ps'))) →
        pieces_same K ks ps (pieces_at k (one_term (range_then r' no_ranges) cs' ps')) ≡ true → RangeSame K r r' × CondsSame K (0 ∷ []) cs (conds_list cs') × (pieces_same K (0 ∷ []) ps ps' ≡ true)
    go zero [] l rs c p = absurd rs
    go zero (zero ∷ ks) l rs c p =
        let none : ks ≡ [] = rs.1.0 in
        (rs.0, subst (λ z. CondsSame K (0 ∷ z) cs (conds_list cs')) none c, subst (λ z. pieces_same K (0 ∷ z) ps ps' ≡ true) none p)
    go zero (suc j ∷ ks) l rs c p = absurd rs.0
    go (suc k) ks l rs c p = let bad : ⊥ = omega (arith, l) in absurd bad

-- so is the one condition
pub same_cond : (K : Known) (ks : List ℕ) (c d : Cond) → CondsSame K ks (only_cond c) (d ∷ []) → CondSame K ks c d
same_cond K ks c d h = go h.0 h.1
  where
    go : (j : ℕ) → At (CondSame K ks c) j (d ∷ []) → CondSame K ks c d
    go zero at = at
    go (suc j) at = absurd at
