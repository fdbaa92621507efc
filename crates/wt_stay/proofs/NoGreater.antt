-- No step gives a form of greater size.
use Rattle.std.proofs.Common.{ℕ, ◌+◌, ◌≤◌, ◌≡◌, Bool, true, false, List, map, refl, sym, ap, subst, arith}
use Rattle.wt_symbol.specs.declared.head.Part.{Part}
use Rattle.wt_form.specs.declared.form.Expr.{Expr}
use Rattle.wt_form.specs.Trees.{Terms, no_terms, term_then, Ranges, range_then, FormRange, Rel, distinct_of, Conds, cond_then, Cond, Pred, Join, is_in, not_in, Form}
use Rattle.wt_form.specs.Parts.{one_term, terms_append, ranges_append, conds_append, conds_map, conds_up, expr_up, ranges_count}
use Rattle.wt_form.specs.Known.{Known}
use Rattle.wt_form.specs.Facts.{Joins}
use Rattle.wt_form.specs.Weights.{terms_size, ranges_size, range_size, conds_size, cond_size}
use Rattle.wt_form.specs.Places.{others, replaced}
use Rattle.wt_form.specs.Changes.{put, expr_down, expr_onto}
use Rattle.wt_form.specs.Joining.{Joined}
use Rattle.wt_form.specs.Steps.{Row, by_repeated, by_self_join, by_in_true, by_join_to_in, by_merged, by_not_in_false, by_null_compared, by_not_in_of_null, by_opened, by_rewritten, PairRow, in_first, in_second, twin, TermsStep, at_term, at_two, later_term, in_range, in_cond, RangesStep, at_range, later_range, CondsStep, at_in, at_not_in, later_cond, Step}
use Rattle.wt_form.proofs.Sizes.{size-terms_append, size-ranges_append, size-conds_append, size-conds_map, size-conds_opened}

-- the size of a term
abbrev size : Ranges → Conds → ℕ
size rs cs = 1 + ranges_size rs + conds_size cs

no_more : (us : Terms) (rs : Ranges) (cs : Conds) (ps : List Expr) (n : ℕ) → us ≡ one_term rs cs ps → size rs cs ≤ n → terms_size us ≤ n
no_more us rs cs ps n e h = subst (λ z. terms_size z ≤ n) (sym e) (let z : terms_size (one_term rs cs ps) ≤ n = omega (arith, h) in z)

none : (us : Terms) (n : ℕ) → us ≡ no_terms → terms_size us ≤ n
none us n e = subst (λ z. terms_size z ≤ n) (sym e) (let z : 0 ≤ n = omega arith in z)

-- without a condition
dropped : (cs before after : Conds) (c : Cond) → cs ≡ conds_append before (cond_then c after) → conds_size (conds_append before after) ≤ conds_size cs
dropped cs before after c e =
    let whole = ap conds_size e in
    let one = size-conds_append before (cond_then c after) in
    let two = size-conds_append before after in
    omega (arith, whole, one, two)

join_size : (e e' : Expr) (c : Cond) → Joins e e' c → cond_size c ≡ 4
join_size e e' (Join x y) j = refl
join_size e e' (Pred p x) j = absurd j
join_size e e' (is_in x k ts) j = absurd j
join_size e e' (not_in x k ts) j = absurd j

module _ (K : Known) where
  joined_less : (nested : Bool) (range : FormRange) (b : ℕ) (h : List Part) (ts : Terms) → Joined K nested range b h ts → terms_size ts ≤ range_size range + 1
  joined_less nested (Rel r) b h ts (u, q, t) = subst (λ z. terms_size z ≤ 3) (sym t) (omega arith)
  joined_less nested (distinct_of g us) b h ts (leaf, d, q, same, p, t) = subst (λ z. terms_size z ≤ 1 + terms_size us + 1) (sym t) (omega arith)

  row_no_greater : (nested : Bool) (rs : Ranges) (cs : Conds) (ps : List Expr) (us : Terms) → Row K nested rs cs ps us → terms_size us ≤ size rs cs
  row_no_greater nested rs cs ps us (by_repeated h) =
      let all = ap conds_size h.is in
      let one = size-conds_append h.before (cond_then h.earlier (conds_append h.between (cond_then h.later h.after))) in
      let two = size-conds_append h.between (cond_then h.later h.after) in
      let three = size-conds_append h.before (cond_then h.earlier (conds_append h.between h.after)) in
      let four = size-conds_append h.between h.after in
      no_more us rs _ ps (size rs cs) h.gives (omega (arith, all, one, two, three, four))
  row_no_greater nested rs cs ps us (by_self_join h) = let d = dropped cs h.place.before h.place.after (Join h.x h.y) h.place.is in no_more us rs (others h.place) ps (size rs cs) h.gives (omega (arith, d))
  row_no_greater nested rs cs ps us (by_in_true h) = let d = dropped cs h.place.before h.place.after (is_in h.e h.h h.ts) h.place.is in no_more us rs (others h.place) ps (size rs cs) h.gives (omega (arith, d))
  row_no_greater nested rs cs ps us (by_join_to_in h) =
      let y = ranges_count h.at.before in
      let conds = size-conds_map (expr_down y) (replaced h.place (is_in h.e h.h h.ts)) in
      let new = size-conds_append h.place.before (cond_then (is_in h.e h.h h.ts) h.place.after) in
      let old = ap conds_size h.place.is in
      let old' = size-conds_append h.place.before (cond_then h.join h.place.after) in
      let rold = ap ranges_size h.at.is in
      let rold' = size-ranges_append h.at.before (range_then h.range h.at.after) in
      let rnew = size-ranges_append h.at.before h.at.after in
      let four = join_size h.e _ h.join h.joins in
      let less = joined_less nested h.range h.b h.h h.ts h.becomes in
      no_more us _ _ _ (size rs cs) h.gives (omega (arith, conds, new, old, old', rold, rold', rnew, four, less))
  row_no_greater nested rs cs ps us (by_merged h) =
      let y = ranges_count h.at.before in
      let conds = size-conds_map (expr_onto h.x y) cs in
      let rold = ap ranges_size h.at.is in
      let rold' = size-ranges_append h.at.before (range_then (Rel h.s) h.at.after) in
      let rnew = size-ranges_append h.at.before h.at.after in
      no_more us _ _ _ (size rs cs) h.gives (omega (arith, conds, rold, rold', rnew))
  row_no_greater nested rs cs ps us (by_not_in_false h) = none us (size rs cs) h.gives
  row_no_greater nested rs cs ps us (by_null_compared h) = none us (size rs cs) h.gives
  row_no_greater nested rs cs ps us (by_not_in_of_null h) = let d = dropped cs h.place.before h.place.after (not_in h.e h.h h.ts) h.place.is in no_more us rs (others h.place) ps (size rs cs) h.gives (omega (arith, d))
  row_no_greater nested rs cs ps us (by_opened h) =
      let k = ranges_count h.before in
      let conds = size-conds_append h.cs' (conds_up k h.conds) in
      let up = size-conds_map (expr_up k) h.conds in
      let opened = size-conds_opened _ cs h.cs' h.conds_opened in
      let rold = ap ranges_size h.is in
      let rold' = size-ranges_append h.before (range_then (distinct_of h.head (one_term h.inner h.conds h.pieces)) h.after) in
      let rnew = size-ranges_append h.before (ranges_append h.inner h.after) in
      let rnew' = size-ranges_append h.inner h.after in
      no_more us _ _ _ (size rs cs) h.gives (omega (arith, conds, up, opened, rold, rold', rnew, rnew'))
  row_no_greater nested rs cs ps us (by_rewritten h) =
      let new = ap conds_size h.is in
      let new' = size-conds_append (conds_map (put h.e h.e') h.place.before) (cond_then h.join (conds_map (put h.e h.e') h.place.after)) in
      let old = ap conds_size h.place.is in
      let old' = size-conds_append h.place.before (cond_then h.join h.place.after) in
      let m = size-conds_map (put h.e h.e') h.place.before in
      let m' = size-conds_map (put h.e h.e') h.place.after in
      no_more us rs h.cs' (map (put h.e h.e') ps) (size rs cs) h.gives (omega (arith, new, new', old, old', m, m'))

  pair_no_greater : (nested : Bool) (rs : Ranges) (cs : Conds) (ps : List Expr) (rs' : Ranges) (cs' : Conds) (ps' : List Expr) (us : Terms) → PairRow K nested rs cs ps rs' cs' ps' us → terms_size us ≤ size rs cs + size rs' cs'
  pair_no_greater nested rs cs ps rs' cs' ps' us (in_first h) = let d = dropped cs h.place.before h.place.after (is_in h.e h.h h.ts) h.place.is in omega (arith, d)
  pair_no_greater nested rs cs ps rs' cs' ps' us (in_second h) = let d = dropped cs' h.place.before h.place.after (is_in h.e h.h h.ts) h.place.is in omega (arith, d)
  pair_no_greater nested rs cs ps rs' cs' ps' us (twin h) = omega arith

  mutual
    terms_no_greater : (nested : Bool) (ts us : Terms) → TermsStep (Row K) (PairRow K) nested ts us → terms_size us ≤ terms_size ts
    terms_no_greater nested ts us (at_term {rs = rs} {cs = cs} {ps = ps} {us = vs} {ts = ts'} r) =
        let l = row_no_greater nested rs cs ps vs r in let e = size-terms_append vs ts' in omega (arith, l, e)
    terms_no_greater nested ts us (at_two {rs = rs} {cs = cs} {ps = ps} rs' cs' ps' between after vs r) =
        let l = pair_no_greater nested rs cs ps rs' cs' ps' vs r in
        let a = size-terms_append vs (terms_append between after) in
        let b = size-terms_append between after in
        let d = size-terms_append between (term_then rs' cs' ps' after) in
        omega (arith, l, a, b, d)
    terms_no_greater nested ts us (later_term s) = let l = terms_no_greater nested _ _ s in omega (arith, l)
    terms_no_greater nested ts us (in_range s) = let l = ranges_no_greater _ _ s in omega (arith, l)
    terms_no_greater nested ts us (in_cond s) = let l = conds_no_greater _ _ s in omega (arith, l)

    ranges_no_greater : (rs ss : Ranges) → RangesStep (Row K) (PairRow K) rs ss → ranges_size ss ≤ ranges_size rs
    ranges_no_greater rs ss (at_range s) = let l = terms_no_greater true _ _ s in omega (arith, l)
    ranges_no_greater rs ss (later_range s) = let l = ranges_no_greater _ _ s in omega (arith, l)

    conds_no_greater : (cs ds : Conds) → CondsStep (Row K) (PairRow K) cs ds → conds_size ds ≤ conds_size cs
    conds_no_greater cs ds (at_in s) = let l = terms_no_greater true _ _ s in omega (arith, l)
    conds_no_greater cs ds (at_not_in s) = let l = terms_no_greater true _ _ s in omega (arith, l)
    conds_no_greater cs ds (later_cond s) = let l = conds_no_greater _ _ s in omega (arith, l)

  pub step_no_greater : (f g : Form) → Step K f g → terms_size g.terms ≤ terms_size f.terms
  step_no_greater f g s = terms_no_greater false f.terms g.terms s.1
