-- Two variables made one, by the ends of Joins and as a row of the table.
use Rattle.std.proofs.Common.{ℕ, zero, suc, ◌<◌, ◌≤◌, ◌≡◌, ◌↔◌, Bool, true, List, [], ◌∷◌, ◌++◌, map, length, refl, sym, ap, ◌∙◌, subst, inl, inr, arith}
use Rattle.wt_bag.specs.Choices.{At, Has, drop_at}
use Rattle.wt_bag.proofs.HasLaws.{has_left, has_right, has_split}
use Rattle.wt_symbol.specs.declared.head.PartCols.TheVariants.{Whole, List as Listed}
use Rattle.wt_form.specs.declared.form.Expr.{Expr}
use Rattle.wt_form.specs.declared.form.Expr.TheVariants.{Of, Null as NullOf}
use Rattle.wt_form.specs.Trees.{Terms, Ranges, range_then, FormRange, Rel, Conds, Cond, Pred, Join, is_in, not_in}
use Rattle.wt_form.specs.Parts.{one_term, ranges_append, conds_map, ranges_count, ranges_list, conds_list}
use Rattle.wt_form.specs.Known.{Known}
use Rattle.wt_form.specs.Congruent.{expr_same}
use Rattle.wt_form.specs.Facts.{Joins}
use Rattle.wt_form.specs.Changes.{expr_onto}
use Rattle.wt_form.specs.Places.{itself}
use Rattle.wt_form.specs.Joining.{JoinedTogether, Merged}
use Rattle.wt_facts.specs.declared.facts.Facts.{Facts}
use Rattle.wt_facts.specs.Facts.{known_of}
use Rattle.wt_not_null.proofs.Nulls.{one_leaf}
use Rattle.wt_not_null.proofs.Respects.{list_law, unique_moves}
use Rattle.wt_places.specs.Lists.{conds_from, ranges_from}
use Rattle.wt_places.specs.Gained.{Gained, Upto, EachOf}
use Rattle.wt_congruent.proofs.Pairing.{drop_at-map}
use Rattle.wt_places.proofs.GainedLaws.{gained_one, gained_as}
use Rattle.wt_places.proofs.Splits.{conds_there, range_split, split_range}
use Rattle.wt_places.proofs.PlaceLaws.{each_places}
use Rattle.wt_joining.specs.declared.ends.End.{End}
use Rattle.wt_joining.specs.Ends.{ends_of_sides, ends_of_cond, ends_of_conds}
use Rattle.wt_joining.specs.ToOne.{StandTogether, merged_term, MergedBy, MergedDirectly, MergedThrough, MergedFrom}

end_is : (x y : Expr) (end : End) → Has end (ends_of_sides x y) → (x ≡ Of end.var 0 (Listed end.list)) × (end.other ≡ y)
end_is (Of v zero (Listed a)) y end (inl e) = (sym (ap (λ z. Of z.var 0 (Listed z.list)) e), ap (λ z. z.other) e)
end_is (Of v zero (Listed a)) y end (inr h) = absurd h
end_is (Of v (suc i) (Listed a)) y end h = absurd h
end_is (Of v i Whole) y end h = absurd h
end_is (NullOf r c) y end h = absurd h

cond_end : (c : Cond) (end : End) → Has end (ends_of_cond c) → Joins (Of end.var 0 (Listed end.list)) end.other c
cond_end (Join x y) end h = elim (has_split end (ends_of_sides x y) (ends_of_sides y x) h) [
  | inl g ↦ let r = end_is x y end g in inl (r.0, sym r.1)
  | inr g ↦ let r = end_is y x end g in inr (sym r.1, r.0)
]
cond_end (Pred p x) end h = absurd h
cond_end (is_in x g ts) end h = absurd h
cond_end (not_in x g ts) end h = absurd h

conds_end : (cs : List Cond) (end : End) → Has end (ends_of_conds cs) → (q : Cond) × Has q cs × Joins (Of end.var 0 (Listed end.list)) end.other q
conds_end [] end h = absurd h
conds_end (c ∷ cs) end h = elim (has_split end (ends_of_cond c) (ends_of_conds cs) h) [
  | inl g ↦ (c, inl refl, cond_end c end g)
  | inr g ↦ let r = conds_end cs end g in (r.0, inr r.1, r.2)
]

end_of_cond : (c : Cond) (v a : ℕ) (y : Expr) → Joins (Of v 0 (Listed a)) y c → Has (record { var = v; list = a; other = y }) (ends_of_cond c)
end_of_cond (Join u w) v a y (inl (p, q)) =
    subst (λ z. Has (record { var = v; list = a; other = y }) (ends_of_cond (Join z w))) (sym p) (subst (λ z. Has (record { var = v; list = a; other = y }) (ends_of_cond (Join (Of v 0 (Listed a)) z))) (sym q) (inl refl))
end_of_cond (Join u w) v a y (inr (p, q)) =
    subst (λ z. Has (record { var = v; list = a; other = y }) (ends_of_cond (Join z w))) (sym p)
    (subst (λ z. Has (record { var = v; list = a; other = y }) (ends_of_cond (Join y z))) (sym q) (has_right (record { var = v; list = a; other = y }) (ends_of_sides y (Of v 0 (Listed a))) (ends_of_sides (Of v 0 (Listed a)) y) (inl refl)))
end_of_cond (Pred p x) v a y j = absurd j
end_of_cond (is_in x g ts) v a y j = absurd j
end_of_cond (not_in x g ts) v a y j = absurd j

end_of_conds : (cs : List Cond) (q : Cond) (v a : ℕ) (y : Expr) → Has q cs → Joins (Of v 0 (Listed a)) y q → Has (record { var = v; list = a; other = y }) (ends_of_conds cs)
end_of_conds [] q v a y h j = absurd h
end_of_conds (c ∷ cs) q v a y (inl e) j = has_left (record { var = v; list = a; other = y }) (ends_of_cond c) (ends_of_conds cs) (end_of_cond c v a y (subst (Joins (Of v 0 (Listed a)) y) e j))
end_of_conds (c ∷ cs) q v a y (inr h) j = has_right (record { var = v; list = a; other = y }) (ends_of_cond c) (ends_of_conds cs) (end_of_conds cs q v a y h j)

-- two variables over leaves that are the same
pub stand_tells : (K : Known) (rs : List FormRange) (x y b r s : ℕ) (t : Bool) → At (λ range. range ≡ Rel r) x rs → At (λ range. range ≡ Rel s) y rs → ((t ≡ true) ↔ ((K.rel r s ≡ true) × (K.unique r b ≡ true))) → ((t ≡ true) ↔ StandTogether K rs x y b)
stand_tells K rs x y b r s t ax ay f = (
  λ h. let both = f.0 h in (r, s, ax, ay, both.0, both.1),
  λ h.
      let e = one_leaf rs x h.0 r h.2 ax in
      let g = one_leaf rs y h.1 s h.3 ay in
      f.1 (subst (λ z. K.rel r z ≡ true) g (subst (λ z. K.rel z h.1 ≡ true) e h.4), subst (λ z. K.unique z b ≡ true) e h.5),
)

-- the term is added where the lists are one unique list
pub gained_merged : {X : Type 0} (K : Known) (f : X → FormRange) (ranges left : List X) (cs : List Cond) (ps : List Expr) (x b y c : ℕ) (old new : List Terms) → new ≡ old ++ merged_term (map f left) cs ps x y ∷ [] → left ≡ drop_at y ranges →
    (x < y) × (K.attr b c ≡ true) × StandTogether K (map f ranges) x y b → Gained old new (MergedBy K (map f ranges) cs ps x b y c)
gained_merged K f ranges left cs ps x b y c old new e d (before, list, stand) =
    let same : merged_term (map f left) cs ps x y ≡ merged_term (drop_at y (map f ranges)) cs ps x y = ap (λ z. merged_term z cs ps x y) (ap (map f) d ∙ sym (drop_at-map f y ranges)) in
    gained_one old new (merged_term (map f left) cs ps x y) (MergedBy K (map f ranges) cs ps x b y c) e (before, list, stand, same) (λ us p. p.3 ∙ sym same)

abbrev var_of : Expr → ℕ
var_of (Of v i c) = v
var_of (NullOf r c) = 0

abbrev list_of_expr : Expr → ℕ
list_of_expr (Of v i (Listed a)) = a
list_of_expr (Of v i Whole) = 0
list_of_expr (NullOf r c) = 0

pub gained_directly : (K : Known) (rs : List FormRange) (cs : List Cond) (ps : List Expr) (end : End) (y c : ℕ) (old new : List Terms) → end.other ≡ Of y 0 (Listed c) → Gained old new (MergedBy K rs cs ps end.var end.list y c) → Gained old new (MergedDirectly K rs cs ps end)
gained_directly K rs cs ps end y c old new e = gained_as (MergedBy K rs cs ps end.var end.list y c) (MergedDirectly K rs cs ps end) old new (λ us. (
  λ p. (y, c, e, p),
  λ h. let v : h.0 ≡ y = ap var_of (sym h.2 ∙ e) in let a : h.1 ≡ c = ap list_of_expr (sym h.2 ∙ e) in
      subst (λ z. MergedBy K rs cs ps end.var end.list y z us) a (subst (λ z. MergedBy K rs cs ps end.var end.list z h.1 us) v h.3),
))

pub gained_through : (K : Known) (ks : List ℕ) (rs : List FormRange) (cs : List Cond) (ps : List Expr) (end other : End) (old new : List Terms) → expr_same K ks end.other other.other ≡ true → Gained old new (MergedBy K rs cs ps end.var end.list other.var other.list) → Gained old new (MergedThrough K ks rs cs ps end other)
gained_through K ks rs cs ps end other old new e = gained_as (MergedBy K rs cs ps end.var end.list other.var other.list) (MergedThrough K ks rs cs ps end other) old new (λ us. (λ p. (e, p), λ h. h.1))

module _ (facts : Facts) (rs : Ranges) (cs : Conds) (ps : List Expr) (us : Terms) where
  abbrev K : Known
  K = known_of facts

  abbrev row_term : Ranges → ℕ → ℕ → Terms
  row_term left x y = one_term left (conds_map (expr_onto x y) cs) (map (expr_onto x y) ps)

  term_is : (left : Ranges) (gs : List FormRange) (x y : ℕ) → ranges_from gs ≡ left → merged_term gs (conds_list cs) ps x y ≡ row_term left x y
  term_is left gs x y l = ap (λ z. one_term z (conds_map (expr_onto x y) (conds_from (conds_list cs))) (map (expr_onto x y) ps)) l ∙ ap (λ z. one_term left (conds_map (expr_onto x y) z) (map (expr_onto x y) ps)) (conds_there cs)

  row : (x b y c : ℕ) → JoinedTogether K rs cs b x y → MergedBy K (ranges_list rs) (conds_list cs) ps x b y c us → Merged K rs cs ps us
  row x b y c joined (before, list, (r, s, over, at, leaf, unique), gives) =
      let p = range_split rs y (λ range. range ≡ Rel s) at in
      let turned = subst (λ w. (x < w) × JoinedTogether K rs cs b x w × (us ≡ row_term (ranges_append p.0 p.2) x w)) (sym p.5) (before, joined, gives ∙ term_is (ranges_append p.0 p.2) (drop_at y (ranges_list rs)) x y p.6) in
      record {
        x = x;
        r = r;
        s = s;
        a = b;
        at = record { before = p.0; after = p.2; is = p.3 ∙ ap (λ z. ranges_append p.0 (range_then z p.2)) p.4 };
        before = turned.0;
        over = over;
        leaf = leaf;
        unique = unique;
        joined = turned.1;
        gives = turned.2;
      }

  abbrev ends : List End
  ends = ends_of_conds (conds_list cs)

  directly : (end : End) → Has end ends → MergedDirectly K (ranges_list rs) (conds_list cs) ps end us → Merged K rs cs ps us
  directly end h (y, c, e, by) =
      let q = conds_end (conds_list cs) end h in
      row end.var end.list y c (end.list, c, (list_law facts).reflexive end.list, (list_law facts).symmetric end.list c by.1, inl (q.0, q.1, subst (λ z. Joins (Of end.var 0 (Listed end.list)) z q.0) e q.2)) by

  through : (end other : End) → Has end ends → Has other ends → MergedThrough K (itself rs) (ranges_list rs) (conds_list cs) ps end other us → Merged K rs cs ps us
  through end other h g (same, by) =
      let p = conds_end (conds_list cs) end h in
      let q = conds_end (conds_list cs) other g in
      row end.var end.list other.var other.list (end.list, other.list, (list_law facts).reflexive end.list, (list_law facts).symmetric end.list other.list by.1, inr (p.0, q.0, end.other, other.other, p.1, q.1, p.2, q.2, same)) by

  made : (end : End) → Has end ends → MergedFrom K (itself rs) (ranges_list rs) (conds_list cs) ps ends end us → Merged K rs cs ps us
  made end h (inl d) = directly end h d
  made end h (inr t) =
      let r = (each_places (MergedThrough K (itself rs) (ranges_list rs) (conds_list cs) ps end) ends (length ends) (let z : length ends ≤ length ends = omega arith in z) us).0 t in
      through end r.0 h r.1 r.2

  -- the row's variables, by their ends
  by : (m : Merged K rs cs ps us) (b c : ℕ) → K.attr b m.a ≡ true → K.attr c m.a ≡ true → MergedBy K (ranges_list rs) (conds_list cs) ps m.x b (ranges_count m.at.before) c us
  by m b c ab ac =
      let y = ranges_count m.at.before in
      let s = split_range m.at.before (Rel m.s) m.at.after (λ range. range ≡ Rel m.s) refl in
      let left : ranges_from (drop_at y (ranges_list rs)) ≡ ranges_append m.at.before m.at.after = ap (λ z. ranges_from (drop_at y (ranges_list z))) m.at.is ∙ s.2 in
      let law = list_law facts in (
        m.before,
        law.transitive b m.a c ab (law.symmetric c m.a ac),
        (m.r, m.s, m.over, subst (λ z. At (λ range. range ≡ Rel m.s) y (ranges_list z)) (sym m.at.is) s.1, m.leaf, unique_moves facts m.r m.a b (law.symmetric b m.a ab) m.unique),
        m.gives ∙ sym (term_is (ranges_append m.at.before m.at.after) (drop_at y (ranges_list rs)) m.x y left),
      )

  abbrev From : End → Terms → Type 0
  From end vs = MergedFrom K (itself rs) (ranges_list rs) (conds_list cs) ps ends end vs

  back : (m : Merged K rs cs ps us) → JoinedTogether K rs cs m.a m.x (ranges_count m.at.before) → (end : End) × Has end ends × From end us
  back m (b, c, ab, ac, inl (q, h, j)) =
      let y = ranges_count m.at.before in
      (record { var = m.x; list = b; other = Of y 0 (Listed c) }, end_of_conds (conds_list cs) q m.x b (Of y 0 (Listed c)) h j, inl (y, c, refl, by m b c ab ac))
  back m (b, c, ab, ac, inr (p, q, e, e', hp, hq, jp, jq, same)) =
      let y = ranges_count m.at.before in
      let end : End = record { var = m.x; list = b; other = e } in
      let other : End = record { var = y; list = c; other = e' } in
      let l : length ends ≤ length ends = omega arith in
      let places = each_places (MergedThrough K (itself rs) (ranges_list rs) (conds_list cs) ps end) ends (length ends) l us in
      (end, end_of_conds (conds_list cs) p m.x b e hp jp, inr (places.1 (other, end_of_conds (conds_list cs) q y c e' hq jq, (same, by m b c ab ac))))

  pub merged_is : (n : ℕ) → length ends ≤ n → (Upto (EachOf From ends) n us ↔ Merged K rs cs ps us)
  merged_is n l =
      let places = each_places From ends n l us in
      (λ u. let r = places.0 u in made r.0 r.1 r.2, λ m. places.1 (back m m.joined))

-- what the loop over the ends has added is what the row gives
pub merged_turn : (facts : Facts) (rs : Ranges) (cs : Conds) (ps : List Expr) (ks : List ℕ) (gs : List FormRange) (ds : List Cond) (ends : List End) (old new : List Terms) → ks ≡ itself rs → gs ≡ ranges_list rs → ds ≡ conds_list cs → ends ≡ ends_of_conds ds →
    Gained old new (Upto (EachOf (MergedFrom (known_of facts) ks gs ds ps ends) ends) (length ends)) → Gained old new (Merged (known_of facts) rs cs ps)
merged_turn facts rs cs ps ks gs ds ends old new k g d e h =
    let K = known_of facts in
    let all = ends_of_conds (conds_list cs) in
    let h1 = subst (λ z. Gained old new (Upto (EachOf (MergedFrom K z gs ds ps ends) ends) (length ends))) k h in
    let h2 = subst (λ z. Gained old new (Upto (EachOf (MergedFrom K (itself rs) z ds ps ends) ends) (length ends))) g h1 in
    let h3 = subst (λ z. Gained old new (Upto (EachOf (MergedFrom K (itself rs) (ranges_list rs) ds ps z) z) (length z))) e h2 in
    let h4 = subst (λ z. Gained old new (Upto (EachOf (MergedFrom K (itself rs) (ranges_list rs) z ps (ends_of_conds z)) (ends_of_conds z)) (length (ends_of_conds z)))) d h3 in
    gained_as (Upto (EachOf (MergedFrom K (itself rs) (ranges_list rs) (conds_list cs) ps all) all) (length all)) (Merged K rs cs ps) old new (λ us. merged_is facts rs cs ps us (length all) (let z : length all ≤ length all = omega arith in z)) h4
