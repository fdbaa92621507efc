-- A step of a form whose variables exist gives one whose variables exist.
use Rattle.std.proofs.Common.{ℕ, suc, ◌+◌, ◌<◌, ◌≤◌, ◌≡◌, Bool, true, false, List, map, refl, sym, ap, ◌∙◌, subst, arith}
use Rattle.wt_bag.specs.Bags.{Each}
use Rattle.wt_symbol.specs.declared.head.Part.{Part}
use Rattle.wt_symbol.specs.declared.head.PartCols.TheVariants.{List as Listed}
use Rattle.wt_form.specs.declared.form.Expr.{Expr}
use Rattle.wt_form.specs.declared.form.Expr.TheVariants.{Of}
use Rattle.wt_form.specs.Trees.{Terms, term_then, Ranges, range_then, FormRange, Rel, distinct_of, Conds, no_conds, cond_then, Cond, Join, is_in, not_in, Form}
use Rattle.wt_form.specs.Parts.{one_term, terms_append, ranges_append, ranges_count, conds_append, conds_map, cond_map, conds_list, conds_up, expr_up}
use Rattle.wt_form.specs.Known.{Known}
use Rattle.wt_form.specs.Places.{others, replaced}
use Rattle.wt_form.specs.Changes.{put, expr_down, expr_onto, CondAvoids}
use Rattle.wt_form.specs.Joining.{Joined}
use Rattle.wt_form.specs.Opening.{Opening}
use Rattle.wt_form.specs.Steps.{Row, by_repeated, by_self_join, by_in_true, by_join_to_in, by_merged, by_not_in_false, by_null_compared, by_not_in_of_null, by_opened, by_rewritten, PairRow, in_first, in_second, twin, TermsStep, at_term, at_two, later_term, in_range, in_cond, RangesStep, at_range, later_range, CondsStep, at_in, at_not_in, later_cond, Step}
use Rattle.wt_form.specs.Closed.{IsWithin, VariablesExist, ExistInRanges, ExistInRange, ExistInConds, ExistInCond}
use Rattle.wt_stay.proofs.Within.{terms_put, terms_right, terms_left, ranges_put, ranges_left, ranges_right, count_append, conds_put, conds_left, conds_right, conds_drop, conds_there, joined_within, conds_mapped, each_mapped, up_within, avoiding_within, onto_within, put_within, conds_avoid, pieces_avoid, conds_opened, pieces_opened}

-- the variables of a term exist
abbrev TermExists : Ranges → Conds → List Expr → Type 0
TermExists rs cs ps = ExistInRanges rs × ExistInConds (ranges_count rs) cs × Each (IsWithin (ranges_count rs)) ps

one_exists : (rs : Ranges) (cs : Conds) (ps : List Expr) (us : Terms) → us ≡ one_term rs cs ps → TermExists rs cs ps → VariablesExist us
one_exists rs cs ps us e h = subst VariablesExist (sym e) (h, tt)

without : (n : ℕ) (cs before after : Conds) (c : Cond) → cs ≡ conds_append before (cond_then c after) → ExistInConds n cs → ExistInConds n (conds_append before after)
without n cs before after c e h = conds_drop n before c after (subst (ExistInConds n) e h)

there : (n : ℕ) (cs before after : Conds) (c : Cond) → cs ≡ conds_append before (cond_then c after) → ExistInConds n cs → ExistInCond n c
there n cs before after c e h = conds_there n before c after (subst (ExistInConds n) e h)

-- how many variables there are with one taken out
count_middle : (rs b a : Ranges) (r : FormRange) → rs ≡ ranges_append b (range_then r a) → ranges_count rs ≡ ranges_count b + (1 + ranges_count a)
count_middle rs b a r e = ap ranges_count e ∙ count_append b (range_then r a)

list_parts : (P : Cond → Type 0) (b a : Conds) → Each P (conds_list (conds_append b a)) → Each P (conds_list b) × Each P (conds_list a)
list_parts P no_conds a h = (tt, h)
list_parts P (cond_then c b) a h = let r = list_parts P b a h.1 in ((h.0, r.0), r.1)

map_append : (f : Expr → Expr) (b a : Conds) → conds_map f (conds_append b a) ≡ conds_append (conds_map f b) (conds_map f a)
map_append f no_conds a = refl
map_append f (cond_then c b) a = ap (cond_then (cond_map f c)) (map_append f b a)

module _ (K : Known) where
  joined_form : (nested : Bool) (range : FormRange) (b : ℕ) (h : List Part) (ts : Terms) → Joined K nested range b h ts → ExistInRange range → VariablesExist ts
  joined_form nested (Rel r) b h ts (u, q, t) range = subst VariablesExist (sym t) (((tt, tt), tt, (omega arith, tt)), tt)
  joined_form nested (distinct_of g us) b h ts (leaf, d, q, same, p, t) range = subst VariablesExist (sym t) range

  row_exists : (nested : Bool) (rs : Ranges) (cs : Conds) (ps : List Expr) (us : Terms) → TermExists rs cs ps → Row K nested rs cs ps us → VariablesExist us
  row_exists nested rs cs ps us (r, c, p) (by_repeated h) =
      let n = ranges_count rs in
      let all = subst (ExistInConds n) h.is c in
      let later = conds_right n h.before (cond_then h.earlier (conds_append h.between (cond_then h.later h.after))) all in
      one_exists rs _ ps us h.gives (
        r,
        conds_put n h.before (cond_then h.earlier (conds_append h.between h.after))
            (conds_left n h.before (cond_then h.earlier (conds_append h.between (cond_then h.later h.after))) all) (later.0, conds_drop n h.between h.later h.after later.1),
        p,
      )
  row_exists nested rs cs ps us (r, c, p) (by_self_join h) = one_exists rs (others h.place) ps us h.gives (r, without (ranges_count rs) cs h.place.before h.place.after (Join h.x h.y) h.place.is c, p)
  row_exists nested rs cs ps us (r, c, p) (by_in_true h) = one_exists rs (others h.place) ps us h.gives (r, without (ranges_count rs) cs h.place.before h.place.after (is_in h.e h.h h.ts) h.place.is c, p)
  row_exists nested rs cs ps us (r, c, p) (by_join_to_in h) =
      let y = ranges_count h.at.before in
      let m = ranges_count rs in
      let left = ranges_append h.at.before h.at.after in
      let n = ranges_count left in
      let em : m ≡ ranges_count h.at.before + (1 + ranges_count h.at.after) = count_middle rs h.at.before h.at.after h.range h.at.is in
      let en : n ≡ ranges_count h.at.before + ranges_count h.at.after = count_append h.at.before h.at.after in
      let l : m ≤ suc n = omega (arith, em, en) in
      let b : y < m = omega (arith, em) in
      let ranges = subst ExistInRanges h.at.is r in
      let right = ranges_right h.at.before (range_then h.range h.at.after) ranges in
      let joined = joined_within m h.e (Of y 0 (Listed h.b)) h.join h.joins (there m cs h.place.before h.place.after h.join h.place.is c) in
      let form = joined_form nested h.range h.b h.h h.ts h.becomes right.0 in
      let conds = subst (ExistInConds m) h.place.is c in
      let avoid = list_parts (CondAvoids y) h.place.before h.place.after h.elsewhere.1 in
      let new : ExistInConds n (conds_map (expr_down y) (replaced h.place (is_in h.e h.h h.ts))) =
      subst (ExistInConds n) (sym (map_append (expr_down y) h.place.before (cond_then (is_in h.e h.h h.ts) h.place.after)))
      (conds_put n (conds_map (expr_down y) h.place.before) (cond_then (is_in (expr_down y h.e) h.h h.ts) (conds_map (expr_down y) h.place.after))
      (conds_avoid y m n l b h.place.before avoid.0 (conds_left m h.place.before (cond_then h.join h.place.after) conds))
      ((avoiding_within y m n l b h.e h.elsewhere.0 joined.0, form), conds_avoid y m n l b h.place.after avoid.1 (conds_right m h.place.before (cond_then h.join h.place.after) conds).1)) in
      one_exists _ _ _ us h.gives (
        ranges_put h.at.before h.at.after (ranges_left h.at.before (range_then h.range h.at.after) ranges) right.1,
        new,
        pieces_avoid y m n l b ps h.elsewhere.2 p,
      )
  row_exists nested rs cs ps us (r, c, p) (by_merged h) =
      let y = ranges_count h.at.before in
      let m = ranges_count rs in
      let n = ranges_count (ranges_append h.at.before h.at.after) in
      let em : m ≡ ranges_count h.at.before + (1 + ranges_count h.at.after) = count_middle rs h.at.before h.at.after (Rel h.s) h.at.is in
      let en : n ≡ ranges_count h.at.before + ranges_count h.at.after = count_append h.at.before h.at.after in
      let l : m ≤ suc n = omega (arith, em, en) in
      let b : y < m = omega (arith, em) in
      let ranges = subst ExistInRanges h.at.is r in
      let onto = onto_within h.x y m n l h.before b in
      one_exists _ _ _ us h.gives (
        ranges_put h.at.before h.at.after (ranges_left h.at.before (range_then (Rel h.s) h.at.after) ranges) (ranges_right h.at.before (range_then (Rel h.s) h.at.after) ranges).1,
        conds_mapped m n (expr_onto h.x y) onto cs c,
        each_mapped m n (expr_onto h.x y) onto ps p,
      )
  row_exists nested rs cs ps us t (by_not_in_false h) = subst VariablesExist (sym h.gives) tt
  row_exists nested rs cs ps us t (by_null_compared h) = subst VariablesExist (sym h.gives) tt
  row_exists nested rs cs ps us (r, c, p) (by_not_in_of_null h) = one_exists rs (others h.place) ps us h.gives (r, without (ranges_count rs) cs h.place.before h.place.after (not_in h.e h.h h.ts) h.place.is c, p)
  row_exists nested rs cs ps us (r, c, p) (by_opened h) =
      let k = ranges_count h.before in
      let i = ranges_count h.inner in
      let m = ranges_count rs in
      let n = ranges_count (ranges_append h.before (ranges_append h.inner h.after)) in
      let em : m ≡ ranges_count h.before + (1 + ranges_count h.after) = count_middle rs h.before h.after (distinct_of h.head (one_term h.inner h.conds h.pieces)) h.is in
      let en : n ≡ ranges_count h.before + ranges_count (ranges_append h.inner h.after) = count_append h.before (ranges_append h.inner h.after) in
      let ei : ranges_count (ranges_append h.inner h.after) ≡ ranges_count h.inner + ranges_count h.after = count_append h.inner h.after in
      let low : k ≤ n = omega (arith, en) in
      let room : i + m ≤ suc n = omega (arith, em, en, ei) in
      let up : k + i ≤ n = omega (arith, en, ei) in
      let ranges = subst ExistInRanges h.is r in
      let right = ranges_right h.before (range_then (distinct_of h.head (one_term h.inner h.conds h.pieces)) h.after) ranges in
      let left = ranges_left h.before (range_then (distinct_of h.head (one_term h.inner h.conds h.pieces)) h.after) ranges in
      let inner = right.0.0 in
      let pieces = each_mapped i n (expr_up k) (up_within k i n up) h.pieces inner.2 in
      let o : Opening = record { at = k; n = i; head = h.head; pieces = map (expr_up k) h.pieces } in
      one_exists _ _ _ us h.gives (
        ranges_put h.before (ranges_append h.inner h.after) left (ranges_put h.inner h.after inner.0 right.1),
        conds_put n h.cs' (conds_up k h.conds) (conds_opened o m n low room pieces cs h.cs' c h.conds_opened) (conds_mapped i n (expr_up k) (up_within k i n up) h.conds inner.1),
        pieces_opened o m n low room pieces ps h.ps' p h.pieces_opened,
      )
  row_exists nested rs cs ps us (r, c, p) (by_rewritten h) =
      let n = ranges_count rs in
      let conds = subst (ExistInConds n) h.place.is c in
      let joined = joined_within n h.e h.e' h.join h.joins (there n cs h.place.before h.place.after h.join h.place.is c) in
      let to = put_within n h.e h.e' joined.0 in
      let right = conds_right n h.place.before (cond_then h.join h.place.after) conds in
      let new : ExistInConds n h.cs' = subst (ExistInConds n) (sym h.is)
      (conds_put n (conds_map (put h.e h.e') h.place.before) (cond_then h.join (conds_map (put h.e h.e') h.place.after))
      (conds_mapped n n (put h.e h.e') to h.place.before (conds_left n h.place.before (cond_then h.join h.place.after) conds)) (right.0, conds_mapped n n (put h.e h.e') to h.place.after right.1)) in
      one_exists rs h.cs' _ us h.gives (r, new, each_mapped n n (put h.e h.e') to ps p)

  pair_exists : (nested : Bool) (rs : Ranges) (cs : Conds) (ps : List Expr) (rs' : Ranges) (cs' : Conds) (ps' : List Expr) (us : Terms) → TermExists rs cs ps → TermExists rs' cs' ps' → PairRow K nested rs cs ps rs' cs' ps' us → VariablesExist us
  pair_exists nested rs cs ps rs' cs' ps' us (r, c, p) t (in_first h) = ((r, without (ranges_count rs) cs h.place.before h.place.after (is_in h.e h.h h.ts) h.place.is c, p), tt)
  pair_exists nested rs cs ps rs' cs' ps' us t (r, c, p) (in_second h) = ((r, without (ranges_count rs') cs' h.place.before h.place.after (is_in h.e h.h h.ts) h.place.is c, p), tt)
  pair_exists nested rs cs ps rs' cs' ps' us t t' (twin h) = (t, tt)

  -- a step inside ranges leaves as many
  count_stays : (rs ss : Ranges) → RangesStep (Row K) (PairRow K) rs ss → ranges_count ss ≡ ranges_count rs
  count_stays rs ss (at_range s) = refl
  count_stays rs ss (later_range s) = ap (λ n. 1 + n) (count_stays _ _ s)

  mutual
    terms_exist : (nested : Bool) (ts us : Terms) → VariablesExist ts → TermsStep (Row K) (PairRow K) nested ts us → VariablesExist us
    terms_exist nested ts us (t, rest) (at_term {rs = rs} {cs = cs} {ps = ps} {us = vs} {ts = ts'} r) = terms_put vs ts' (row_exists nested rs cs ps vs t r) rest
    terms_exist nested ts us (t, rest) (at_two {rs = rs} {cs = cs} {ps = ps} rs' cs' ps' between after vs r) =
        let right = terms_right between (term_then rs' cs' ps' after) rest in
        terms_put vs (terms_append between after) (pair_exists nested rs cs ps rs' cs' ps' vs t right.0 r) (terms_put between after (terms_left between (term_then rs' cs' ps' after) rest) right.1)
    terms_exist nested ts us (t, rest) (later_term s) = (t, terms_exist nested _ _ rest s)
    terms_exist nested ts us ((r, c, p), rest) (in_range {cs = cs} {ps = ps} s) =
        let e = sym (count_stays _ _ s) in
        ((ranges_exist _ _ r s, subst (λ n. ExistInConds n cs) e c, subst (λ n. Each (IsWithin n) ps) e p), rest)
    terms_exist nested ts us ((r, c, p), rest) (in_cond s) = ((r, conds_exist _ _ _ c s, p), rest)

    ranges_exist : (rs ss : Ranges) → ExistInRanges rs → RangesStep (Row K) (PairRow K) rs ss → ExistInRanges ss
    ranges_exist rs ss (h, rest) (at_range s) = (terms_exist true _ _ h s, rest)
    ranges_exist rs ss (h, rest) (later_range s) = (h, ranges_exist _ _ rest s)

    conds_exist : (n : ℕ) (cs ds : Conds) → ExistInConds n cs → CondsStep (Row K) (PairRow K) cs ds → ExistInConds n ds
    conds_exist n cs ds (h, rest) (at_in s) = ((h.0, terms_exist true _ _ h.1 s), rest)
    conds_exist n cs ds (h, rest) (at_not_in s) = ((h.0, terms_exist true _ _ h.1 s), rest)
    conds_exist n cs ds (h, rest) (later_cond s) = (h, conds_exist n _ _ rest s)

  pub step_exists : (f g : Form) → VariablesExist f.terms → Step K f g → VariablesExist g.terms
  step_exists f g h s = terms_exist false f.terms g.terms h s.1
