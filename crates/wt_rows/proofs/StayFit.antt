-- What stands in the place of a term that fits, or of two, fits.
use Rattle.std.proofs.Common.{ℕ, ◌<◌, Bool, List, [], ◌∷◌, ◌≡◌, refl, sym, subst, inl, inr, length}
use Rattle.wt_bag.specs.Bags.{Each}
use Rattle.wt_bag.specs.Choices.{At}
use Rattle.wt_bag.proofs.HasLaws.{each_has_self}
use Rattle.wt_bag.proofs.EachLaws.{each_append, each_map, each_for}
use Rattle.wt_symbol.specs.declared.head.Part.{Part}
use Rattle.wt_symbol.specs.declared.head.PartCols.TheVariants.{List as Listed}
use Rattle.wt_form.specs.declared.form.Expr.{Expr}
use Rattle.wt_form.specs.declared.form.Expr.TheVariants.{Of}
use Rattle.wt_form.specs.Trees.{Terms, no_terms, term_then, Ranges, no_ranges, range_then, FormRange, Rel, distinct_of, Conds, no_conds, cond_then, Cond, Pred, Join, is_in, not_in}
use Rattle.wt_form.specs.Parts.{one_term, terms_append, ranges_append, conds_append, conds_map, conds_up, expr_up, ranges_count, ranges_list, conds_list}
use Rattle.wt_form.specs.Known.{Known}
use Rattle.wt_form.specs.Facts.{Joins, IsOver}
use Rattle.wt_form.specs.Places.{others, replaced, list_rows}
use Rattle.wt_form.specs.Changes.{put, expr_down, expr_onto}
use Rattle.wt_form.specs.Joining.{Joined}
use Rattle.wt_form.specs.Steps.{Row, by_repeated, by_self_join, by_in_true, by_join_to_in, by_merged, by_not_in_false, by_null_compared, by_not_in_of_null, by_opened, by_rewritten, PairRow, in_first, in_second, twin}
use Rattle.wt_instance.specs.declared.instance.Instance.{Instance}
use Rattle.wt_instance.specs.Instances.{numbers}
use Rattle.wt_rows.specs.FormRows.{Env, values_of, row_of, one_rows, terms_rows, ranges_rows, conds_hold}
use Rattle.wt_rows.specs.Fits.{ExprFits, IsListed, Aligned, ValuesFit, RowFits, RowsFit, TermsFit, RangesFit, RangeFits, CondFits, CondsFit}
use Rattle.wt_rows.proofs.Open.{OfCond}
use Rattle.wt_rows.proofs.Take.{beside_each}
use Rattle.wt_rows.proofs.Exist.{ranges_left, ranges_right, ranges_put}
use Rattle.wt_rows.proofs.MapsFit.{conds_put, conds_left, conds_right, conds_drop, conds_there, conds_mapped, pieces_mapped, aligned_mapped, each_any, conds_any, all_avoid, down_fits, down_listed, onto_fits, onto_listed, put_fits, put_listed, up_fits, up_listed}
use Rattle.wt_rows.proofs.OpenedFits.{conds_opened_fit, pieces_opened_fit, aligned_opened}

-- one term with its conditions and pieces
abbrev pub TermFits : Instance → List Part → Ranges → Conds → List Expr → Type 0
TermFits I h rs cs ps = RangesFit I rs × CondsFit I rs cs × Aligned h ps × Each (ExprFits I rs) ps

pub terms_put : (I : Instance) (h : List Part) (ts us : Terms) → TermsFit I h ts → TermsFit I h us → TermsFit I h (terms_append ts us)
terms_put I h no_terms us f g = g
terms_put I h (term_then rs cs ps ts) us f g = (f.0, terms_put I h ts us f.1 g)

pub terms_left : (I : Instance) (h : List Part) (ts us : Terms) → TermsFit I h (terms_append ts us) → TermsFit I h ts
terms_left I h no_terms us f = tt
terms_left I h (term_then rs cs ps ts) us f = (f.0, terms_left I h ts us f.1)

pub terms_right : (I : Instance) (h : List Part) (ts us : Terms) → TermsFit I h (terms_append ts us) → TermsFit I h us
terms_right I h no_terms us f = f
terms_right I h (term_then rs cs ps ts) us f = terms_right I h ts us f.1

-- the values of a list, whatever they are taken from, are read back by their numbers
pub listed_fit : (I : Instance) (r b : ℕ) (e : Env) (v i : ℕ) → ValuesFit I r (Listed b) (values_of I e (Of v i (Listed b)))
listed_fit I r b e v i = sym (beside_each _ (numbers I b) (numbers I b) (each_has_self (numbers I b)))

list_rows_fit : (I : Instance) (r b : ℕ) → r < length I.tables → b < length I.lists → RowsFit I (record { leaf = r; cols = Listed b } ∷ []) (terms_rows (list_rows r b) I) × TermsFit I (record { leaf = r; cols = Listed b } ∷ []) (list_rows r b)
list_rows_fit I r b l m = (
  (
    ((l, m), tt),
    each_append (RowFits I (record { leaf = r; cols = Listed b } ∷ [])) (one_rows (conds_hold no_conds I) (row_of I (Of 0 0 (Listed b) ∷ [])) (ranges_rows (range_then (Rel r) no_ranges) I)) []
        (each_map (RowFits I (record { leaf = r; cols = Listed b } ∷ [])) (row_of I (Of 0 0 (Listed b) ∷ [])) _ (each_for _ (λ e. (listed_fit I r b e 0 0, tt)))) tt,
  ),
  ((((l, tt), tt, (tt, tt), ((refl, m), tt))), tt),
)

-- both sides of a Join fit and have lists
pub joined_fit : (I : Instance) (rs : Ranges) (e e' : Expr) (c : Cond) → Joins e e' c → CondFits I rs c → (IsListed e × ExprFits I rs e) × (IsListed e' × ExprFits I rs e')
joined_fit I rs e e' (Join x y) (inl (p, q)) h = (subst (λ z. IsListed z × ExprFits I rs z) p h.0, subst (λ z. IsListed z × ExprFits I rs z) q h.1)
joined_fit I rs e e' (Join x y) (inr (p, q)) h = (subst (λ z. IsListed z × ExprFits I rs z) q h.1, subst (λ z. IsListed z × ExprFits I rs z) p h.0)
joined_fit I rs e e' (Pred p x) j h = absurd j
joined_fit I rs e e' (is_in x k ts) j h = absurd j
joined_fit I rs e e' (not_in x k ts) j h = absurd j

module _ (I : Instance) (h : List Part) where
  one : (rs : Ranges) (cs : Conds) (ps : List Expr) (us : Terms) → us ≡ one_term rs cs ps → TermFits I h rs cs ps → TermsFit I h us
  one rs cs ps us e f = subst (TermsFit I h) (sym e) (f, tt)

  none : (us : Terms) → us ≡ no_terms → TermsFit I h us
  none us e = subst (TermsFit I h) (sym e) tt

  without : (rs : Ranges) (cs before after : Conds) (c : Cond) → cs ≡ conds_append before (cond_then c after) → CondsFit I rs cs → CondsFit I rs (conds_append before after)
  without rs cs before after c e f = conds_drop I rs before c after (subst (CondsFit I rs) e f)

  there : (rs : Ranges) (cs before after : Conds) (c : Cond) → cs ≡ conds_append before (cond_then c after) → CondsFit I rs cs → CondFits I rs c
  there rs cs before after c e f = conds_there I rs before c after (subst (CondsFit I rs) e f)

  joined_form : (K : Known) (k : Bool) (range : FormRange) (b : ℕ) (g : List Part) (ts : Terms) → Joined K k range b g ts → b < length I.lists → RangeFits I range → RowsFit I g (terms_rows ts I) × TermsFit I g ts
  joined_form K k (Rel r) b g ts (u, p, q) m f = subst (λ z. RowsFit I z (terms_rows ts I) × TermsFit I z ts) (sym p) (subst (λ z. RowsFit I (record { leaf = r; cols = Listed b } ∷ []) (terms_rows z I) × TermsFit I (record { leaf = r; cols = Listed b } ∷ []) z) (sym q) (list_rows_fit I r b f m))
  joined_form K k (distinct_of g' us) b g ts (leaf, d, p, same, q, q') m f = subst (λ z. RowsFit I z (terms_rows ts I) × TermsFit I z ts) (sym q) (subst (λ z. RowsFit I g' (terms_rows z I) × TermsFit I g' z) (sym q') f)

  -- all conditions but one avoid a variable, and the one in its place does
  avoid_at : (y : ℕ) (before after : Conds) (c : Cond) → OfCond (λ x. IsOver y x → ⊥) c → Each (OfCond (λ x. IsOver y x → ⊥)) (conds_list (conds_append before after)) → Each (OfCond (λ x. IsOver y x → ⊥)) (conds_list (conds_append before (cond_then c after)))
  avoid_at y no_conds after c q f = (q, f)
  avoid_at y (cond_then d before) after c q f = (f.0, avoid_at y before after c q f.1)

  pub row_stays : (K : Known) (k : Bool) (rs : Ranges) (cs : Conds) (ps : List Expr) (us : Terms) → TermFits I h rs cs ps → Row K k rs cs ps us → TermsFit I h us
  row_stays K k rs cs ps us (fr, fc, fa, fp) (by_repeated s) =
      let all = subst (CondsFit I rs) s.is fc in
      let later = conds_right I rs s.before (cond_then s.earlier (conds_append s.between (cond_then s.later s.after))) all in
      one rs _ ps us s.gives (
        fr,
        conds_put I rs s.before (cond_then s.earlier (conds_append s.between s.after))
            (conds_left I rs s.before (cond_then s.earlier (conds_append s.between (cond_then s.later s.after))) all) (later.0, conds_drop I rs s.between s.later s.after later.1),
        fa,
        fp,
      )
  row_stays K k rs cs ps us (fr, fc, fa, fp) (by_self_join s) = one rs (others s.place) ps us s.gives (fr, without rs cs s.place.before s.place.after (Join s.x s.y) s.place.is fc, fa, fp)
  row_stays K k rs cs ps us (fr, fc, fa, fp) (by_in_true s) = one rs (others s.place) ps us s.gives (fr, without rs cs s.place.before s.place.after (is_in s.e s.h s.ts) s.place.is fc, fa, fp)
  row_stays K k rs cs ps us (fr, fc, fa, fp) (by_join_to_in s) =
      let y = ranges_count s.at.before in
      let old = ranges_append s.at.before (range_then s.range s.at.after) in
      let ranges = subst (RangesFit I) s.at.is fr in
      let right = ranges_right I s.at.before (range_then s.range s.at.after) ranges in
      let conds : CondsFit I old cs = subst (λ z. CondsFit I z cs) s.at.is fc in
      let pieces : Each (ExprFits I old) ps = subst (λ z. Each (ExprFits I z) ps) s.at.is fp in
      let split = subst (CondsFit I old) s.place.is conds in
      let joined = joined_fit I old s.e (Of y 0 (Listed s.b)) s.join s.joins (conds_there I old s.place.before s.join s.place.after split) in
      let form = joined_form K k s.range s.b s.h s.ts s.becomes joined.1.1.1 right.0 in
      let new : CondsFit I old (replaced s.place (is_in s.e s.h s.ts)) =
      conds_put I old s.place.before (cond_then (is_in s.e s.h s.ts) s.place.after) (conds_left I old s.place.before (cond_then s.join s.place.after) split)
      ((joined.0, form), (conds_right I old s.place.before (cond_then s.join s.place.after) split).1) in
      let avoid = avoid_at y s.place.before s.place.after (is_in s.e s.h s.ts) s.elsewhere.0 (all_avoid y (others s.place) s.elsewhere.1) in
      one _ _ _ us s.gives (
        ranges_put I s.at.before s.at.after (ranges_left I s.at.before (range_then s.range s.at.after) ranges) right.1,
        conds_mapped I old (ranges_append s.at.before s.at.after) (expr_down y) (λ x. IsOver y x → ⊥) (down_fits I s.at.before s.range s.at.after) (down_listed y) (replaced s.place (is_in s.e s.h s.ts)) avoid new,
        aligned_mapped I old (ranges_append s.at.before s.at.after) (expr_down y) (λ x. IsOver y x → ⊥) (down_fits I s.at.before s.range s.at.after) (down_listed y) h ps fa,
        pieces_mapped I old (ranges_append s.at.before s.at.after) (expr_down y) (λ x. IsOver y x → ⊥) (down_fits I s.at.before s.range s.at.after) (down_listed y) ps s.elsewhere.2 pieces,
      )
  row_stays K k rs cs ps us (fr, fc, fa, fp) (by_merged s) =
      let y = ranges_count s.at.before in
      let old = ranges_append s.at.before (range_then (Rel s.s) s.at.after) in
      let new = ranges_append s.at.before s.at.after in
      let ranges = subst (RangesFit I) s.at.is fr in
      let conds : CondsFit I old cs = subst (λ z. CondsFit I z cs) s.at.is fc in
      let pieces : Each (ExprFits I old) ps = subst (λ z. Each (ExprFits I z) ps) s.at.is fp in
      let over = subst (λ z. At (λ range. range ≡ Rel s.r) s.x (ranges_list z)) s.at.is s.over in
      let onto = onto_fits I s.at.before s.s s.at.after s.x s.r s.before over in
      one _ _ _ us s.gives (
        ranges_put I s.at.before s.at.after (ranges_left I s.at.before (range_then (Rel s.s) s.at.after) ranges) (ranges_right I s.at.before (range_then (Rel s.s) s.at.after) ranges).1,
        conds_mapped I old new (expr_onto s.x y) (λ x. Unit {0}) onto (onto_listed s.x y) cs (conds_any cs) conds,
        aligned_mapped I old new (expr_onto s.x y) (λ x. Unit {0}) onto (onto_listed s.x y) h ps fa,
        pieces_mapped I old new (expr_onto s.x y) (λ x. Unit {0}) onto (onto_listed s.x y) ps (each_any ps) pieces,
      )
  row_stays K k rs cs ps us f (by_not_in_false s) = none us s.gives
  row_stays K k rs cs ps us f (by_null_compared s) = none us s.gives
  row_stays K k rs cs ps us (fr, fc, fa, fp) (by_not_in_of_null s) = one rs (others s.place) ps us s.gives (fr, without rs cs s.place.before s.place.after (not_in s.e s.h s.ts) s.place.is fc, fa, fp)
  row_stays K k rs cs ps us (fr, fc, fa, fp) (by_opened s) =
      let D = distinct_of s.head (one_term s.inner s.conds s.pieces) in
      let old = ranges_append s.before (range_then D s.after) in
      let new = ranges_append s.before (ranges_append s.inner s.after) in
      let up = ranges_count s.before in
      let ranges = subst (RangesFit I) s.is fr in
      let right = ranges_right I s.before (range_then D s.after) ranges in
      let term = right.0.1.0 in
      let conds : CondsFit I old cs = subst (λ z. CondsFit I z cs) s.is fc in
      let pieces : Each (ExprFits I old) ps = subst (λ z. Each (ExprFits I z) ps) s.is fp in
      one _ _ _ us s.gives (
        ranges_put I s.before (ranges_append s.inner s.after) (ranges_left I s.before (range_then D s.after) ranges) (ranges_put I s.inner s.after term.0 right.1),
        conds_put I new s.cs' (conds_up up s.conds) (conds_opened_fit I s.before s.inner s.after s.head (one_term s.inner s.conds s.pieces) s.pieces term.3 term.2 cs s.cs' conds s.conds_opened)
            (conds_mapped I s.inner new (expr_up up) (λ x. Unit {0}) (up_fits I s.before s.inner s.after) (up_listed up) s.conds (conds_any s.conds) term.1),
        aligned_opened I s.before s.inner s.after s.head (one_term s.inner s.conds s.pieces) s.pieces term.3 term.2 h ps s.ps' pieces fa s.pieces_opened,
        pieces_opened_fit I s.before s.inner s.after s.head (one_term s.inner s.conds s.pieces) s.pieces term.3 term.2 ps s.ps' pieces s.pieces_opened,
      )
  row_stays K k rs cs ps us (fr, fc, fa, fp) (by_rewritten s) =
      let split = subst (CondsFit I rs) s.place.is fc in
      let right = conds_right I rs s.place.before (cond_then s.join s.place.after) split in
      let joined = joined_fit I rs s.e s.e' s.join s.joins right.0 in
      let fits = put_fits I rs s.e s.e' joined.0.1 in
      let listed = put_listed s.e s.e' joined.0.0 in
      let new : CondsFit I rs s.cs' = subst (CondsFit I rs) (sym s.is)
      (conds_put I rs (conds_map (put s.e s.e') s.place.before) (cond_then s.join (conds_map (put s.e s.e') s.place.after))
      (conds_mapped I rs rs (put s.e s.e') (λ x. Unit {0}) fits listed s.place.before (conds_any s.place.before) (conds_left I rs s.place.before (cond_then s.join s.place.after) split))
      (right.0, conds_mapped I rs rs (put s.e s.e') (λ x. Unit {0}) fits listed s.place.after (conds_any s.place.after) right.1)) in
      one rs s.cs' _ us s.gives
      (fr, new, aligned_mapped I rs rs (put s.e s.e') (λ x. Unit {0}) fits listed h ps fa, pieces_mapped I rs rs (put s.e s.e') (λ x. Unit {0}) fits listed ps (each_any ps) fp)

  pub pair_stays : (K : Known) (k : Bool) (rs : Ranges) (cs : Conds) (ps : List Expr) (rs' : Ranges) (cs' : Conds) (ps' : List Expr) (us : Terms) → TermFits I h rs cs ps → TermFits I h rs' cs' ps' → PairRow K k rs cs ps rs' cs' ps' us → TermsFit I h us
  pair_stays K k rs cs ps rs' cs' ps' us (fr, fc, fa, fp) f' (in_first s) = ((fr, without rs cs s.place.before s.place.after (is_in s.e s.h s.ts) s.place.is fc, fa, fp), tt)
  pair_stays K k rs cs ps rs' cs' ps' us f (fr, fc, fa, fp) (in_second s) = ((fr, without rs' cs' s.place.before s.place.after (is_in s.e s.h s.ts) s.place.is fc, fa, fp), tt)
  pair_stays K k rs cs ps rs' cs' ps' us f f' (twin s) = (f, tt)
