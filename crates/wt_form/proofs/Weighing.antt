-- Every step of a form of small expressions lowers its weight.
use Rattle.std.proofs.Common.{ℕ, ◌+◌, ◌<◌, ◌≤◌, ◌≡◌, ◌⊎◌, inl, inr, Bool, true, false, List, map, refl, sym, ap, ◌∙◌, subst, arith}
use Rattle.wt_symbol.specs.declared.head.Part.{Part}
use Rattle.wt_form.specs.declared.form.Expr.{Expr}
use Rattle.wt_form.specs.Trees.{Terms, no_terms, term_then, Ranges, range_then, FormRange, Rel, distinct_of, Conds, cond_then, Cond, Pred, Join, is_in, not_in, Form}
use Rattle.wt_form.specs.Parts.{one_term, terms_append, ranges_append, conds_append, conds_map, conds_up, expr_up, ranges_count}
use Rattle.wt_form.specs.Known.{Known}
use Rattle.wt_form.specs.Facts.{Joins}
use Rattle.wt_form.specs.Weights.{terms_size, ranges_size, range_size, conds_size, cond_size, terms_place, ranges_place, range_place, conds_place, cond_place, expr_place, pieces_place, weight_of, Lighter, IsSmall, EachExpr, EachInRanges, EachInConds}
use Rattle.wt_form.specs.Places.{others, replaced}
use Rattle.wt_form.specs.Changes.{put, expr_down, expr_onto}
use Rattle.wt_form.specs.Joining.{Joined}
use Rattle.wt_form.specs.Steps.{Row, by_repeated, by_self_join, by_in_true, by_join_to_in, by_merged, by_not_in_false, by_null_compared, by_not_in_of_null, by_opened, by_rewritten, PairRow, in_first, in_second, twin, TermsStep, at_term, at_two, later_term, in_range, in_cond, RangesStep, at_range, later_range, CondsStep, at_in, at_not_in, later_cond, Step}
use Rattle.wt_form.proofs.Exprs.{conds_there}
use Rattle.wt_form.proofs.StaySmall.{TermSmall, joined_small}
use Rattle.wt_form.proofs.Sizes.{size-terms_append, place-terms_append, size-ranges_append, size-conds_append, place-conds_append, size-conds_map, cond_weighs, size-conds_opened}
use Rattle.wt_form.proofs.Rewrites.{earlier_lower, pieces_lower, conds_lower}

-- fewer in the first number, or as many there and fewer in the second
abbrev pub Less : ℕ → ℕ → ℕ → ℕ → Type 0
Less m n m' n' = (m < m') ⊎ ((m ≡ m') × (n < n'))

pub less_more : (m n m' n' a b : ℕ) → Less m n m' n' → (k l k' l' : ℕ) → k ≡ m + a → k' ≡ m' + a → l ≡ n + b → l' ≡ n' + b → Less k l k' l'
less_more m n m' n' a b (inl h) k l k' l' p p' q q' = inl (omega (arith, h, p, p'))
less_more m n m' n' a b (inr h) k l k' l' p p' q q' = inr (omega (arith, h.0, p, p'), omega (arith, h.1, q, q'))

-- the size of a term
abbrev size : Ranges → Conds → ℕ
size rs cs = 1 + ranges_size rs + conds_size cs

abbrev place : Ranges → Conds → List Expr → ℕ
place rs cs ps = ranges_place rs + conds_place cs + pieces_place ps

smaller : (us : Terms) (rs : Ranges) (cs : Conds) (ps : List Expr) (n m : ℕ) → us ≡ one_term rs cs ps → size rs cs < n → terms_size us < n
smaller us rs cs ps n m e h = subst (λ z. terms_size z < n) (sym e) (let z : terms_size (one_term rs cs ps) < n = omega (arith, h) in z)

none : (us : Terms) (rs : Ranges) (cs : Conds) → us ≡ no_terms → terms_size us < size rs cs
none us rs cs e = subst (λ z. terms_size z < size rs cs) (sym e) (omega arith)

-- without a condition
dropped : (cs before after : Conds) (c : Cond) → cs ≡ conds_append before (cond_then c after) → conds_size (conds_append before after) + cond_size c ≡ conds_size cs
dropped cs before after c e = omega (arith, ap conds_size e, size-conds_append before (cond_then c after), size-conds_append before after)

module _ (K : Known) where
  -- an In takes the place of a range and a Join
  joined_less : (nested : Bool) (range : FormRange) (b : ℕ) (h : List Part) (ts : Terms) → Joined K nested range b h ts → terms_size ts ≤ range_size range + 1
  joined_less nested (Rel r) b h ts (u, q, t) = subst (λ z. terms_size z ≤ 3) (sym t) (omega arith)
  joined_less nested (distinct_of g us) b h ts (leaf, d, q, same, p, t) = subst (λ z. terms_size z ≤ 1 + terms_size us + 1) (sym t) (omega arith)

  row_lowers : (nested : Bool) (rs : Ranges) (cs : Conds) (ps : List Expr) (us : Terms) → TermSmall rs cs ps → Row K nested rs cs ps us → Less (terms_size us) (terms_place us) (size rs cs) (place rs cs ps)
  row_lowers nested rs cs ps us small (by_repeated h) =
      let all = ap conds_size h.is in
      let one = size-conds_append h.before (cond_then h.earlier (conds_append h.between (cond_then h.later h.after))) in
      let two = size-conds_append h.between (cond_then h.later h.after) in
      let three = size-conds_append h.before (cond_then h.earlier (conds_append h.between h.after)) in
      let four = size-conds_append h.between h.after in
      inl (smaller us rs _ ps (size rs cs) 0 h.gives (omega (arith, all, one, two, three, four, cond_weighs h.later)))
  row_lowers nested rs cs ps us small (by_self_join h) =
      inl (smaller us rs (others h.place) ps (size rs cs) 0 h.gives (omega (arith, dropped cs h.place.before h.place.after (Join h.x h.y) h.place.is)))
  row_lowers nested rs cs ps us small (by_in_true h) =
      inl (smaller us rs (others h.place) ps (size rs cs) 0 h.gives (omega (arith, dropped cs h.place.before h.place.after (is_in h.e h.h h.ts) h.place.is)))
  row_lowers nested rs cs ps us small (by_join_to_in h) =
      let y = ranges_count h.at.before in
      let conds = size-conds_map (expr_down y) (replaced h.place (is_in h.e h.h h.ts)) in
      let new = size-conds_append h.place.before (cond_then (is_in h.e h.h h.ts) h.place.after) in
      let old = ap conds_size h.place.is in
      let old' = size-conds_append h.place.before (cond_then h.join h.place.after) in
      let rold = ap ranges_size h.at.is in
      let rold' = size-ranges_append h.at.before (range_then h.range h.at.after) in
      let rnew = size-ranges_append h.at.before h.at.after in
      inl (smaller us _ _ _ (size rs cs) 0 h.gives (omega (arith, conds, new, old, old', rold, rold', rnew, join_size h.e _ h.join h.joins, joined_less nested h.range h.b h.h h.ts h.becomes)))
    where
      join_size : (e e' : Expr) (c : Cond) → Joins e e' c → cond_size c ≡ 4
      join_size e e' (Join x y) j = refl
      join_size e e' (Pred p x) j = absurd j
      join_size e e' (is_in x k ts) j = absurd j
      join_size e e' (not_in x k ts) j = absurd j
  row_lowers nested rs cs ps us small (by_merged h) =
      let y = ranges_count h.at.before in
      let conds = size-conds_map (expr_onto h.x y) cs in
      let rold = ap ranges_size h.at.is in
      let rold' = size-ranges_append h.at.before (range_then (Rel h.s) h.at.after) in
      let rnew = size-ranges_append h.at.before h.at.after in
      inl (smaller us _ _ _ (size rs cs) 0 h.gives (omega (arith, conds, rold, rold', rnew)))
  row_lowers nested rs cs ps us small (by_not_in_false h) = inl (none us rs cs h.gives)
  row_lowers nested rs cs ps us small (by_null_compared h) = inl (none us rs cs h.gives)
  row_lowers nested rs cs ps us small (by_not_in_of_null h) =
      inl (smaller us rs (others h.place) ps (size rs cs) 0 h.gives (omega (arith, dropped cs h.place.before h.place.after (not_in h.e h.h h.ts) h.place.is)))
  row_lowers nested rs cs ps us small (by_opened h) =
      let k = ranges_count h.before in
      let conds = size-conds_append h.cs' (conds_up k h.conds) in
      let up = size-conds_map (expr_up k) h.conds in
      let opened = size-conds_opened _ cs h.cs' h.conds_opened in
      let rold = ap ranges_size h.is in
      let rold' = size-ranges_append h.before (range_then (distinct_of h.head (one_term h.inner h.conds h.pieces)) h.after) in
      let rnew = size-ranges_append h.before (ranges_append h.inner h.after) in
      let rnew' = size-ranges_append h.inner h.after in
      inl (smaller us _ _ _ (size rs cs) 0 h.gives (omega (arith, conds, up, opened, rold, rold', rnew, rnew')))
  row_lowers nested rs cs ps us (r, c, p) (by_rewritten h) = go (conds_lower h.e h.e' lower h.place.before) (conds_lower h.e h.e' lower h.place.after) (pieces_lower h.e h.e' lower ps)
    where
      joined : IsSmall h.e × IsSmall h.e'
      joined = joined_small h.e h.e' h.join h.joins (conds_there IsSmall h.place.before h.join h.place.after (subst (EachInConds IsSmall) h.place.is c))

      lower : expr_place h.e < expr_place h.e'
      lower = earlier_lower h.e h.e' joined.0 joined.1 h.earlier

      same_size : terms_size us ≡ size rs cs
      same_size =
          let new = ap conds_size h.is in
          let new' = size-conds_append (conds_map (put h.e h.e') h.place.before) (cond_then h.join (conds_map (put h.e h.e') h.place.after)) in
          let old = ap conds_size h.place.is in
          let old' = size-conds_append h.place.before (cond_then h.join h.place.after) in
          let m = size-conds_map (put h.e h.e') h.place.before in
          let m' = size-conds_map (put h.e h.e') h.place.after in
          let g : terms_size us ≡ terms_size (one_term rs h.cs' (map (put h.e h.e') ps)) = ap terms_size h.gives in
          omega (arith, new, new', old, old', m, m', g)

      at : (b a q : ℕ) → conds_place (conds_map (put h.e h.e') h.place.before) ≡ b → conds_place (conds_map (put h.e h.e') h.place.after) ≡ a → pieces_place (map (put h.e h.e') ps) ≡ q →
          b + a + q < conds_place h.place.before + conds_place h.place.after + pieces_place ps → terms_place us < place rs cs ps
      at b a q eb ea eq less =
          let new = ap conds_place h.is in
          let new' = place-conds_append (conds_map (put h.e h.e') h.place.before) (cond_then h.join (conds_map (put h.e h.e') h.place.after)) in
          let old = ap conds_place h.place.is in
          let old' = place-conds_append h.place.before (cond_then h.join h.place.after) in
          let g : terms_place us ≡ terms_place (one_term rs h.cs' (map (put h.e h.e') ps)) = ap terms_place h.gives in
          omega (arith, new, new', old, old', g, eb, ea, eq, less)

      stays : {X : Type 0} (f : X → ℕ) (x y : X) → (x ≡ y) ⊎ (f x < f y) → f x ≤ f y
      stays f x y (inl e) = let q = ap f e in omega (arith, q)
      stays f x y (inr l) = omega (arith, l)

      go : (conds_map (put h.e h.e') h.place.before ≡ h.place.before) ⊎ (conds_place (conds_map (put h.e h.e') h.place.before) < conds_place h.place.before) →
          (conds_map (put h.e h.e') h.place.after ≡ h.place.after) ⊎ (conds_place (conds_map (put h.e h.e') h.place.after) < conds_place h.place.after) →
          (map (put h.e h.e') ps ≡ ps) ⊎ (pieces_place (map (put h.e h.e') ps) < pieces_place ps) → Less (terms_size us) (terms_place us) (size rs cs) (place rs cs ps)
      go (inl a) (inl b) (inl d) = absurd (h.changed (h.is ∙ ap (λ z. conds_append z (cond_then h.join (conds_map (put h.e h.e') h.place.after))) a ∙ ap (λ z. conds_append h.place.before (cond_then h.join z)) b ∙ sym h.place.is, d))
      go (inr a) b d = inr (same_size, at _ _ _ refl refl refl (omega (arith, a, stays conds_place _ h.place.after b, stays pieces_place _ ps d)))
      go (inl a) (inr b) d = inr (same_size, at _ _ _ refl refl refl (omega (arith, b, ap conds_place a, stays pieces_place _ ps d)))
      go (inl a) (inl b) (inr d) = inr (same_size, at _ _ _ refl refl refl (omega (arith, d, ap conds_place a, ap conds_place b)))

  pair_lowers : (nested : Bool) (rs : Ranges) (cs : Conds) (ps : List Expr) (rs' : Ranges) (cs' : Conds) (ps' : List Expr) (us : Terms) → PairRow K nested rs cs ps rs' cs' ps' us → terms_size us < size rs cs + size rs' cs'
  pair_lowers nested rs cs ps rs' cs' ps' us (in_first h) = let d = dropped cs h.place.before h.place.after (is_in h.e h.h h.ts) h.place.is in omega (arith, d)
  pair_lowers nested rs cs ps rs' cs' ps' us (in_second h) = let d = dropped cs' h.place.before h.place.after (is_in h.e h.h h.ts) h.place.is in omega (arith, d)
  pair_lowers nested rs cs ps rs' cs' ps' us (twin h) = omega arith

  mutual
    pub terms_lower : (nested : Bool) (ts us : Terms) → EachExpr IsSmall ts → TermsStep (Row K) (PairRow K) nested ts us → Less (terms_size us) (terms_place us) (terms_size ts) (terms_place ts)
    terms_lower nested ts us (t, rest) (at_term {rs = rs} {cs = cs} {ps = ps} {us = vs} {ts = ts'} r) =
        less_more _ _ _ _ (terms_size ts') (terms_place ts') (row_lowers nested rs cs ps vs t r) _ _ _ _ (size-terms_append vs ts') refl (place-terms_append vs ts') refl
    terms_lower nested ts us (t, rest) (at_two {rs = rs} {cs = cs} {ps = ps} rs' cs' ps' between after vs r) =
        inl (omega (arith, pair_lowers nested rs cs ps rs' cs' ps' vs r, size-terms_append vs (terms_append between after), size-terms_append between after, size-terms_append between (term_then rs' cs' ps' after)))
    terms_lower nested ts us (t, rest) (later_term {rs = rs} {cs = cs} {ps = ps} s) =
        less_more _ _ _ _ (size rs cs) (place rs cs ps) (terms_lower nested _ _ rest s) _ _ _ _ (omega arith) (omega arith) (omega arith) (omega arith)
    terms_lower nested ts us ((r, c, p), rest) (in_range {cs = cs} {ps = ps} {ts = ts'} s) =
        less_more _ _ _ _ (1 + conds_size cs + terms_size ts') (conds_place cs + pieces_place ps + terms_place ts') (ranges_lower _ _ r s) _ _ _ _ (omega arith) (omega arith) (omega arith) (omega arith)
    terms_lower nested ts us ((r, c, p), rest) (in_cond {rs = rs} {ps = ps} {ts = ts'} s) =
        less_more _ _ _ _ (1 + ranges_size rs + terms_size ts') (ranges_place rs + pieces_place ps + terms_place ts') (conds_less _ _ c s) _ _ _ _ (omega arith) (omega arith) (omega arith) (omega arith)

    ranges_lower : (rs ss : Ranges) → EachInRanges IsSmall rs → RangesStep (Row K) (PairRow K) rs ss → Less (ranges_size ss) (ranges_place ss) (ranges_size rs) (ranges_place rs)
    ranges_lower rs ss (h, rest) (at_range {rs = rs'} s) = less_more _ _ _ _ (1 + ranges_size rs') (ranges_place rs') (terms_lower true _ _ h s) _ _ _ _ (omega arith) (omega arith) (omega arith) (omega arith)
    ranges_lower rs ss (h, rest) (later_range {r = r} s) = less_more _ _ _ _ (range_size r) (range_place r) (ranges_lower _ _ rest s) _ _ _ _ (omega arith) (omega arith) (omega arith) (omega arith)

    conds_less : (cs ds : Conds) → EachInConds IsSmall cs → CondsStep (Row K) (PairRow K) cs ds → Less (conds_size ds) (conds_place ds) (conds_size cs) (conds_place cs)
    conds_less cs ds (h, rest) (at_in {x = x} {cs = cs'} s) = less_more _ _ _ _ (1 + conds_size cs') (expr_place x + conds_place cs') (terms_lower true _ _ h.1 s) _ _ _ _ (omega arith) (omega arith) (omega arith) (omega arith)
    conds_less cs ds (h, rest) (at_not_in {x = x} {cs = cs'} s) = less_more _ _ _ _ (1 + conds_size cs') (expr_place x + conds_place cs') (terms_lower true _ _ h.1 s) _ _ _ _ (omega arith) (omega arith) (omega arith) (omega arith)
    conds_less cs ds (h, rest) (later_cond {c = c} s) = less_more _ _ _ _ (cond_size c) (cond_place c) (conds_less _ _ rest s) _ _ _ _ (omega arith) (omega arith) (omega arith) (omega arith)

  -- a step of a form of small expressions lowers the weight
  pub step_lowers : (f g : Form) → EachExpr IsSmall f.terms → Step K f g → Lighter (weight_of g) (weight_of f)
  step_lowers f g h s = terms_lower false f.terms g.terms h s.1
