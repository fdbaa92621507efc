-- A step of a form of small expressions gives one of small expressions.
use Rattle.std.proofs.Common.{ℕ, ◌≡◌, inl, inr, Bool, true, false, cond, List, sym, subst}
use Rattle.std.specs.Prelude.{nat_eq}
use Rattle.wt_bag.specs.Bags.{Each}
use Rattle.wt_symbol.specs.declared.head.Part.{Part}
use Rattle.wt_symbol.specs.declared.head.PartCols.TheVariants.{List as Listed}
use Rattle.wt_form.specs.declared.form.Expr.{Expr}
use Rattle.wt_form.specs.declared.form.Expr.TheVariants.{Of, Null as NullOf}
use Rattle.wt_form.specs.Trees.{Terms, term_then, Ranges, range_then, FormRange, Rel, distinct_of, Conds, cond_then, Cond, Pred, Join, is_in, not_in}
use Rattle.wt_form.specs.Parts.{one_term, terms_append, ranges_append, conds_append, conds_map, conds_up, expr_up, ranges_count}
use Rattle.wt_form.specs.Known.{Known}
use Rattle.wt_form.specs.Facts.{Joins}
use Rattle.wt_form.specs.Weights.{IsSmall, EachExpr, EachInRanges, EachInRange, EachInConds, EachInCond}
use Rattle.wt_form.specs.Places.{others, replaced}
use Rattle.wt_form.specs.Changes.{put, expr_eq, expr_down, expr_onto}
use Rattle.wt_form.specs.Joining.{Joined}
use Rattle.wt_form.specs.Steps.{Row, by_repeated, by_self_join, by_in_true, by_join_to_in, by_merged, by_not_in_false, by_null_compared, by_not_in_of_null, by_opened, by_rewritten, PairRow, in_first, in_second, twin, TermsStep, at_term, at_two, later_term, in_range, in_cond, RangesStep, at_range, later_range, CondsStep, at_in, at_not_in, later_cond}
use Rattle.wt_form.proofs.Exprs.{terms_put, terms_left, terms_right, ranges_put, ranges_left, ranges_right, conds_put, conds_left, conds_right, conds_drop, conds_there, conds_mapped, each_mapped, up_small, conds_opened, pieces_opened}

-- what a term has of small expressions
abbrev pub TermSmall : Ranges → Conds → List Expr → Type 0
TermSmall rs cs ps = EachInRanges IsSmall rs × EachInConds IsSmall cs × Each IsSmall ps

one_small : (rs : Ranges) (cs : Conds) (ps : List Expr) (us : Terms) → us ≡ one_term rs cs ps → TermSmall rs cs ps → EachExpr IsSmall us
one_small rs cs ps us e h = subst (EachExpr IsSmall) (sym e) (h, tt)

without : (cs before after : Conds) (c : Cond) → cs ≡ conds_append before (cond_then c after) → EachInConds IsSmall cs → EachInConds IsSmall (conds_append before after)
without cs before after c e h = conds_drop IsSmall before c after (subst (EachInConds IsSmall) e h)

there : (cs before after : Conds) (c : Cond) → cs ≡ conds_append before (cond_then c after) → EachInConds IsSmall cs → EachInCond IsSmall c
there cs before after c e h = conds_there IsSmall before c after (subst (EachInConds IsSmall) e h)

-- both sides of a Join are small
pub joined_small : (e e' : Expr) (c : Cond) → Joins e e' c → EachInCond IsSmall c → IsSmall e × IsSmall e'
joined_small e e' (Join x y) (inl (p, q)) h = (subst IsSmall p h.0, subst IsSmall q h.1)
joined_small e e' (Join x y) (inr (p, q)) h = (subst IsSmall q h.1, subst IsSmall p h.0)
joined_small e e' (Pred p x) j h = absurd j
joined_small e e' (is_in x k ts) j h = absurd j
joined_small e e' (not_in x k ts) j h = absurd j

down_small : (y : ℕ) (x : Expr) → IsSmall x → IsSmall (expr_down y x)
down_small y (Of v i c) h = h
down_small y (NullOf r c) h = h

onto_small : (x y : ℕ) (e : Expr) → IsSmall e → IsSmall (expr_onto x y e)
onto_small x y (Of v i c) h = go (nat_eq v y)
  where
    go : (b : Bool) → IsSmall (cond b (Of x i c) (expr_down y (Of v i c)))
    go true = h
    go false = h
onto_small x y (NullOf r c) h = h

put_small : (e e' : Expr) → IsSmall e → (x : Expr) → IsSmall x → IsSmall (put e e' x)
put_small e e' s x h = go (expr_eq x e')
  where
    go : (b : Bool) → IsSmall (cond b e x)
    go true = s
    go false = h

module _ (K : Known) where
  joined_form : (nested : Bool) (range : FormRange) (b : ℕ) (h : List Part) (ts : Terms) → Joined K nested range b h ts → IsSmall (Of 0 0 (Listed b)) → EachInRange IsSmall range → EachExpr IsSmall ts
  joined_form nested (Rel r) b h ts (u, q, t) small range = subst (EachExpr IsSmall) (sym t) (((tt, tt), tt, (small, tt)), tt)
  joined_form nested (distinct_of g us) b h ts (leaf, d, q, same, p, t) small range = subst (EachExpr IsSmall) (sym t) range

  pub row_small : (nested : Bool) (rs : Ranges) (cs : Conds) (ps : List Expr) (us : Terms) → TermSmall rs cs ps → Row K nested rs cs ps us → EachExpr IsSmall us
  row_small nested rs cs ps us (r, c, p) (by_repeated h) =
      let all = subst (EachInConds IsSmall) h.is c in
      let later = (conds_right IsSmall h.before (cond_then h.earlier (conds_append h.between (cond_then h.later h.after))) all) in
      one_small rs _ ps us h.gives (
        r,
        conds_put IsSmall h.before (cond_then h.earlier (conds_append h.between h.after))
            (conds_left IsSmall h.before (cond_then h.earlier (conds_append h.between (cond_then h.later h.after))) all) (later.0, conds_drop IsSmall h.between h.later h.after later.1),
        p,
      )
  row_small nested rs cs ps us (r, c, p) (by_self_join h) = one_small rs (others h.place) ps us h.gives (r, without cs h.place.before h.place.after (Join h.x h.y) h.place.is c, p)
  row_small nested rs cs ps us (r, c, p) (by_in_true h) = one_small rs (others h.place) ps us h.gives (r, without cs h.place.before h.place.after (is_in h.e h.h h.ts) h.place.is c, p)
  row_small nested rs cs ps us (r, c, p) (by_join_to_in h) =
      let y = ranges_count h.at.before in
      let ranges = subst (EachInRanges IsSmall) h.at.is r in
      let right = ranges_right IsSmall h.at.before (range_then h.range h.at.after) ranges in
      let joined = joined_small h.e (Of y 0 (Listed h.b)) h.join h.joins (there cs h.place.before h.place.after h.join h.place.is c) in
      let form = joined_form nested h.range h.b h.h h.ts h.becomes joined.1 right.0 in
      let conds = subst (EachInConds IsSmall) h.place.is c in
      let new : EachInConds IsSmall (replaced h.place (is_in h.e h.h h.ts)) =
      conds_put IsSmall h.place.before (cond_then (is_in h.e h.h h.ts) h.place.after) (conds_left IsSmall h.place.before (cond_then h.join h.place.after) conds)
      ((joined.0, form), (conds_right IsSmall h.place.before (cond_then h.join h.place.after) conds).1) in
      one_small _ _ _ us h.gives (
        ranges_put IsSmall h.at.before h.at.after (ranges_left IsSmall h.at.before (range_then h.range h.at.after) ranges) right.1,
        conds_mapped IsSmall (expr_down y) (down_small y) (replaced h.place (is_in h.e h.h h.ts)) new,
        each_mapped IsSmall (expr_down y) (down_small y) ps p,
      )
  row_small nested rs cs ps us (r, c, p) (by_merged h) =
      let y = ranges_count h.at.before in
      let ranges = subst (EachInRanges IsSmall) h.at.is r in
      one_small _ _ _ us h.gives (
        ranges_put IsSmall h.at.before h.at.after (ranges_left IsSmall h.at.before (range_then (Rel h.s) h.at.after) ranges) (ranges_right IsSmall h.at.before (range_then (Rel h.s) h.at.after) ranges).1,
        conds_mapped IsSmall (expr_onto h.x y) (onto_small h.x y) cs c,
        each_mapped IsSmall (expr_onto h.x y) (onto_small h.x y) ps p,
      )
  row_small nested rs cs ps us t (by_not_in_false h) = subst (EachExpr IsSmall) (sym h.gives) tt
  row_small nested rs cs ps us t (by_null_compared h) = subst (EachExpr IsSmall) (sym h.gives) tt
  row_small nested rs cs ps us (r, c, p) (by_not_in_of_null h) = one_small rs (others h.place) ps us h.gives (r, without cs h.place.before h.place.after (not_in h.e h.h h.ts) h.place.is c, p)
  row_small nested rs cs ps us (r, c, p) (by_opened h) =
      let k = ranges_count h.before in
      let ranges = subst (EachInRanges IsSmall) h.is r in
      let right = ranges_right IsSmall h.before (range_then (distinct_of h.head (one_term h.inner h.conds h.pieces)) h.after) ranges in
      let left = ranges_left IsSmall h.before (range_then (distinct_of h.head (one_term h.inner h.conds h.pieces)) h.after) ranges in
      let inner = right.0.0 in
      let pieces = each_mapped IsSmall (expr_up k) (up_small k) h.pieces inner.2 in
      one_small _ _ _ us h.gives (
        ranges_put IsSmall h.before (ranges_append h.inner h.after) left (ranges_put IsSmall h.inner h.after inner.0 right.1),
        conds_put IsSmall h.cs' (conds_up k h.conds) (conds_opened _ pieces cs h.cs' c h.conds_opened) (conds_mapped IsSmall (expr_up k) (up_small k) h.conds inner.1),
        pieces_opened _ pieces ps h.ps' p h.pieces_opened,
      )
  row_small nested rs cs ps us (r, c, p) (by_rewritten h) =
      let conds = subst (EachInConds IsSmall) h.place.is c in
      let joined = joined_small h.e h.e' h.join h.joins (there cs h.place.before h.place.after h.join h.place.is c) in
      let to = put_small h.e h.e' joined.0 in
      let right = conds_right IsSmall h.place.before (cond_then h.join h.place.after) conds in
      let new : EachInConds IsSmall h.cs' = subst (EachInConds IsSmall) (sym h.is)
      (conds_put IsSmall (conds_map (put h.e h.e') h.place.before) (cond_then h.join (conds_map (put h.e h.e') h.place.after))
      (conds_mapped IsSmall (put h.e h.e') to h.place.before (conds_left IsSmall h.place.before (cond_then h.join h.place.after) conds)) (right.0, conds_mapped IsSmall (put h.e h.e') to h.place.after right.1)) in
      one_small rs h.cs' _ us h.gives (r, new, each_mapped IsSmall (put h.e h.e') to ps p)

  pub pair_small : (nested : Bool) (rs : Ranges) (cs : Conds) (ps : List Expr) (rs' : Ranges) (cs' : Conds) (ps' : List Expr) (us : Terms) → TermSmall rs cs ps → TermSmall rs' cs' ps' → PairRow K nested rs cs ps rs' cs' ps' us → EachExpr IsSmall us
  pair_small nested rs cs ps rs' cs' ps' us (r, c, p) t (in_first h) = ((r, without cs h.place.before h.place.after (is_in h.e h.h h.ts) h.place.is c, p), tt)
  pair_small nested rs cs ps rs' cs' ps' us t (r, c, p) (in_second h) = ((r, without cs' h.place.before h.place.after (is_in h.e h.h h.ts) h.place.is c, p), tt)
  pair_small nested rs cs ps rs' cs' ps' us t t' (twin h) = (t, tt)

  mutual
    pub terms_small : (nested : Bool) (ts us : Terms) → EachExpr IsSmall ts → TermsStep (Row K) (PairRow K) nested ts us → EachExpr IsSmall us
    terms_small nested ts us (t, rest) (at_term {rs = rs} {cs = cs} {ps = ps} {us = vs} {ts = ts'} r) = terms_put IsSmall vs ts' (row_small nested rs cs ps vs t r) rest
    terms_small nested ts us (t, rest) (at_two {rs = rs} {cs = cs} {ps = ps} rs' cs' ps' between after vs r) =
        let right = terms_right IsSmall between (term_then rs' cs' ps' after) rest in
        terms_put IsSmall vs (terms_append between after) (pair_small nested rs cs ps rs' cs' ps' vs t right.0 r) (terms_put IsSmall between after (terms_left IsSmall between (term_then rs' cs' ps' after) rest) right.1)
    terms_small nested ts us (t, rest) (later_term s) = (t, terms_small nested _ _ rest s)
    terms_small nested ts us ((r, c, p), rest) (in_range s) = ((ranges_small _ _ r s, c, p), rest)
    terms_small nested ts us ((r, c, p), rest) (in_cond s) = ((r, conds_small _ _ c s, p), rest)

    ranges_small : (rs ss : Ranges) → EachInRanges IsSmall rs → RangesStep (Row K) (PairRow K) rs ss → EachInRanges IsSmall ss
    ranges_small rs ss (h, rest) (at_range s) = (terms_small true _ _ h s, rest)
    ranges_small rs ss (h, rest) (later_range s) = (h, ranges_small _ _ rest s)

    conds_small : (cs ds : Conds) → EachInConds IsSmall cs → CondsStep (Row K) (PairRow K) cs ds → EachInConds IsSmall ds
    conds_small cs ds (h, rest) (at_in s) = ((h.0, terms_small true _ _ h.1 s), rest)
    conds_small cs ds (h, rest) (at_not_in s) = ((h.0, terms_small true _ _ h.1 s), rest)
    conds_small cs ds (h, rest) (later_cond s) = (h, conds_small _ _ rest s)
